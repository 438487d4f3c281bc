pub mod Walking
pub mod Fronts
pub mod Growing
pub mod Placed
pub mod Whole
