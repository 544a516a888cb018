pub mod Turning
pub mod Watched
pub mod Totals
pub mod Amounts
pub mod Reported
