pub mod Images
pub mod Growth
