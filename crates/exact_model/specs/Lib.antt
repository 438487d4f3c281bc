pub mod Solution
pub mod Elimination
pub mod Laws
