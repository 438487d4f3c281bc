pub mod CountedReads
pub mod Loads
pub mod Untold
