-- A cell's book: what its entries do, and what its table, its plan and its budget hold of its history.
pub mod Aired
pub mod BudgetOfTable
pub mod CommandOfMessage
pub mod Entered
pub mod HandedOver
pub mod Places
pub mod PlanOfTable
pub mod RoomForNew
pub mod TableByPair
pub mod WithEntry
