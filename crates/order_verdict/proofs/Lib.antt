pub mod Walks
pub mod Rising
pub mod LagLaws
