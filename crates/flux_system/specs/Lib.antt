pub mod Sums
pub mod System
pub mod Entries
pub mod Validity
pub mod Limits
pub mod Shapes
