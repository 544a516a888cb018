pub mod Writing
pub mod Orders
pub mod Numbers
