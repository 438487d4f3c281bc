pub mod Words
pub mod Fractions
pub mod Ways
pub mod Points
pub mod Hiding
