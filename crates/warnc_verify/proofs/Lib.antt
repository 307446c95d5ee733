pub mod Tables
pub mod Inputs
pub mod Taking
pub mod CompiledTapes
pub mod OneTable
