pub mod Sides
pub mod Enclosing
pub mod Joined
