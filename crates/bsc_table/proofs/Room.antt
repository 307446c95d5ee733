-- Room at every slot, whatever starts, stops or takes over: what is shown of the claims of a cell alone.
pub mod AddedClaims
pub mod Ahead
pub mod Claims
pub mod NeverRises
pub mod StopKeepsRoom
pub mod StoppedClaims
pub mod TakeoverKeepsRoom
