pub mod ShooterCounts
pub mod RunWords
pub mod Shapes
