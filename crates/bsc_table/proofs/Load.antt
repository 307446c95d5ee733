-- Admitted load is a guarantee: what is shown of messages and an air list alone.
pub mod Bounds
pub mod Broadcasts
pub mod BusyPeriod
pub mod Demand
pub mod Foreground
pub mod Guarantee
pub mod OwnBroadcasts
pub mod Reservations
pub mod Sums
