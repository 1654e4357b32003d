mod Before
mod CallsMade
mod ClampedReads
mod DataExits
mod FilesFound
mod TreeFiles
mod WorkSteps
mod WorkStops
