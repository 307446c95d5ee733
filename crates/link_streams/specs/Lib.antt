pub mod Segment
pub mod Carrying
pub mod Stream
pub mod Directions
pub mod Streams
pub mod Sides
pub mod StreamsSteps
pub mod Laws
