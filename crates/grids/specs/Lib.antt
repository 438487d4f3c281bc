pub mod Grids
pub mod GridPoint
pub mod Validity
pub mod Shapes
