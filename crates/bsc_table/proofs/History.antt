-- What a legal history is, keeps and promises: what is shown of a log and an air list.
pub mod Accepted
pub mod Begun
pub mod EntryNumbers
pub mod HasEntry
pub mod LegalIsSound
pub mod LegalWithEntry
pub mod NextEntry
pub mod Pairs
pub mod Promises
pub mod Ranks
pub mod Refusals
pub mod ReportedCounts
pub mod SameMessages
pub mod Steps
pub mod Written
