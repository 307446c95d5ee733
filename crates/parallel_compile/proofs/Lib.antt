pub mod Came
pub mod Filled
pub mod Numbers
pub mod Drawn
pub mod Putting
pub mod Gathering
pub mod Others
