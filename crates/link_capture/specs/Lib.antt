pub mod Segment
pub mod Connection
