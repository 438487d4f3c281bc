pub mod Fractions
pub mod Greatest
pub mod Bounds
pub mod Enclosing
