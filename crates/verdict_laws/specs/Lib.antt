pub mod OwnOrders
