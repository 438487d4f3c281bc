pub mod Pieces
pub mod Taking
pub mod Chains
pub mod Parts
pub mod Steps
pub mod Caused
pub mod Rows
