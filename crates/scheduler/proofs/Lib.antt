pub mod Air
pub mod Background
pub mod Choice
mod Chosen
pub mod Completed
mod Counts
mod Ended
mod FirstTurn
mod Followed
mod Forest
mod Found
mod Listed
pub mod Lists
pub mod Message
mod OneAir
mod PageCounts
mod PagesOnce
mod Passed
mod Places
mod Planned
mod Renumbering
pub mod Rule
mod Served
mod Tree
mod Turns
mod Windows
mod Worked
