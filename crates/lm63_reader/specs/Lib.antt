pub mod Front
pub mod Fields
pub mod Heads
pub mod Angles
pub mod Intensities
pub mod Lm63
pub mod Layouts
