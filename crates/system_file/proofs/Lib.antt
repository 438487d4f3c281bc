pub mod Saturation
pub mod Reading
pub mod Whole
