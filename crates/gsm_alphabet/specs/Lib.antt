pub mod Alphabet
pub mod Laws
