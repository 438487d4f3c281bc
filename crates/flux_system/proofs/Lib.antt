pub mod Sums
pub mod WithoutZeros
pub mod Searching
pub mod Dense
pub mod Within
pub mod Keeping
pub mod Tests
pub mod Limits
