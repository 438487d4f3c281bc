pub mod Bounds
pub mod Counts
pub mod Rows
pub mod Regions
pub mod Bare
pub mod Tests
pub mod Valid
pub mod Distances
