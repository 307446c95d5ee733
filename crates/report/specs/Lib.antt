pub mod Rows
pub mod Sources
pub mod Cause
pub mod ReportText
pub mod LastPages
pub mod Laws
pub mod RowSteps
pub mod TextSteps
