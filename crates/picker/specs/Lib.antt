pub mod Greatest
pub mod Picks
pub mod Shapes
