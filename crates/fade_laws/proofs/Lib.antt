pub mod Cauchy
pub mod Faded
pub mod Laws
pub mod Middle
pub mod Product
pub mod Rounded
pub mod Rounding
pub mod Series
