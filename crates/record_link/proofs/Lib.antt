pub mod SomeLink
pub mod Written
