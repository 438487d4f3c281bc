pub mod Shapes
pub mod Shares
