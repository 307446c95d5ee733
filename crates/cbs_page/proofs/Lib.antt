pub mod PagingLaws
pub mod TrailingLaws
pub mod Cutting
pub mod CuttingLaws
pub mod TextLaws
pub mod PutLaws
pub mod PaginateLaws
pub mod LongTexts
pub mod PlainLaws
pub mod OwnSeptets
pub mod CodeCuts
pub mod SpellingLaws
pub mod SentLaws
pub mod CodingLaws
pub mod ComesBack
pub mod OneText
pub mod FullPages
mod Worked
