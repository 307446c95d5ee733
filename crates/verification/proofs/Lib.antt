pub mod ListLaws
pub mod OwedLaws
pub mod AgainLaws
pub mod NameLaws
pub mod SentLaws
pub mod TimeLaws
pub mod ByNameLaws
pub mod CameLaws
pub mod ShiftLaws
pub mod FoundLaws
mod Worked
