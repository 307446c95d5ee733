pub mod Walks
pub mod Places
pub mod ItemLemmas
pub mod WalkLaws
pub mod MeaningLaws
pub mod Tests
pub mod Facts
pub mod CellLists
pub mod Ranges
pub mod Rising
pub mod ElementFacts
pub mod WrittenItems
pub mod WrittenElements
pub mod WrittenLaws
pub mod MeantLaws
pub mod ElementOctets
pub mod Lengths
pub mod Framing
mod Worked
pub mod Writable
mod LawsOfMeaning
