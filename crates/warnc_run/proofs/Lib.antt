pub mod Readings
mod ReadParts
pub mod Serving
pub mod Written
pub mod PieceByPiece
pub mod Asked
mod ApartLaws
mod InTurn
pub mod FirstFault
pub mod OneOutput
pub mod ReportColumns
pub mod FirstShown
pub mod GroupParts
pub mod StrictRuns
mod Whole
