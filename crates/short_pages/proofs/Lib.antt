pub mod Packed
pub mod Came
pub mod Filling
pub mod PageLaws
pub mod SlotLaws
pub mod SameLaws
pub mod CutLaws
pub mod ReadLaws
mod Worked
