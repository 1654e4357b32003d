mod Repeated
mod SlotsOff
mod Reading
mod LinesOff
mod EndsOff
mod EndsTold
