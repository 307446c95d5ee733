pub mod Packing
pub mod Laws
