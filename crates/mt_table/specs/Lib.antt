pub mod Bodies
pub mod Seats
pub mod Queues
