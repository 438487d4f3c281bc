pub mod Rows
pub mod SystemText
pub mod Shapes
