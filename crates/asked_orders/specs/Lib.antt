pub mod Asked
pub mod Lacks
