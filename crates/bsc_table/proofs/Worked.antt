-- Runs worked by hand, of which the definitions say what they should.
pub mod Guarantee
pub mod Histories
pub mod Takeovers
