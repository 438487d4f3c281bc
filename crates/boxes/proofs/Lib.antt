pub mod Extents
pub mod Counts
pub mod Tests
pub mod Valid
