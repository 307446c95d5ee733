pub mod Outcome
pub mod Run
pub mod Element
pub mod Item
pub mod Value
pub mod Meaning
pub mod Written
pub mod Laws
