pub mod Page
pub mod Number
pub mod Order
pub mod Pages
