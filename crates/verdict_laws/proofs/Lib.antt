pub mod Answered
pub mod Rows
pub mod Names
pub mod Ordered
pub mod OnAir
pub mod Counted
pub mod OwnOrders
pub mod ReadBack
