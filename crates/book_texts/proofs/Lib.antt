pub mod Filling
pub mod Fitting
pub mod PageCounts
pub mod Lines
pub mod WholeBook
pub mod OneTable
