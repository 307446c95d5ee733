pub mod Writable
pub mod GivenAnswers
pub mod Pieces
pub mod Holding
pub mod Orders
pub mod Answered
pub mod Counted
pub mod FirstNot
pub mod Walked
pub mod Tallied
pub mod Judged
pub mod SameEntry
pub mod Kept
pub mod Ranges
pub mod Noted
pub mod NotesByCell
pub mod Reported
mod Steps
