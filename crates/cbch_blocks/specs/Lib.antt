pub mod Blocks
pub mod PieceLaws
pub mod Pieces
pub mod RecordBlocks
pub mod Slots
pub mod TapeSteps
