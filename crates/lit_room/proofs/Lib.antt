pub mod Lighting
pub mod Making
