pub mod Runs
pub mod Fronts
pub mod Walks
pub mod Lists
pub mod Parts
pub mod Again
pub mod RoundTrip
pub mod SizesOfOwn
pub mod ItemsOfOwn
pub mod OwnMessages
mod Worked
