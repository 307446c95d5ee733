pub mod Sent
pub mod Laws
