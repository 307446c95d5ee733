pub mod RunRecords
pub mod Unremarked
pub mod EngineLaws
pub mod OneTable
pub mod GroupsTold
mod TimedRun
mod FirstSends
