pub mod PcapOutput
pub mod TapeOutput
pub mod OrdersOutput
pub mod CellTable
pub mod CellTableSteps
pub mod AllTapes
pub mod AllTapesSteps
pub mod WalkSteps
