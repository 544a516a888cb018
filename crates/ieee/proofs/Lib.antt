-- Power: 2 ^ k, and multiples of it. Rounding: how `rounded` moves a fraction. Value: an amount and its units, the last digit, constants.
-- Order: comparisons. Extremes: minimum, maximum and clamp. Operations: each operation rounds once. Near: a result that is rounded once, and its error. Laws: order, exactness, saturation, and the same of each operation.
pub mod Power
pub mod Rounding
pub mod Value
pub mod Order
pub mod Extremes
pub mod Operations
pub mod Near
pub mod Laws
