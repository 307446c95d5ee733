pub mod Silent
pub mod TextLaws
pub mod TableLaws
pub mod TooLong
pub mod WholeInput
pub mod Parts
pub mod Made
pub mod OrdersInput
