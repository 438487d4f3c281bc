pub mod Generator
pub mod Shapes
