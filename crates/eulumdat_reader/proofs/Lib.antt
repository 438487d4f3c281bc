pub mod Walking
pub mod Growing
pub mod Turning
pub mod Whole
