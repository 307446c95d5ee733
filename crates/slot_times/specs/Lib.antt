pub mod Calendar
pub mod SlotTime
