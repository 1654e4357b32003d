mod RenameExits
mod EditedBytes
mod FoundEnds
mod MovedNodes
mod MoveCharges
mod PutStores
mod RenameRules
mod RenameCalls
