mod ReleasedCalls
mod TreeCalls
