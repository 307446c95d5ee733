pub mod Places
pub mod Search
pub mod Settled
pub mod RowPlaces
pub mod ExchangeLaws
pub mod InOrder
mod Worked
