pub mod Interval
pub mod Shapes
