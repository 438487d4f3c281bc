pub mod Hidden
pub mod Stretches
pub mod Facts
pub mod Shapes
