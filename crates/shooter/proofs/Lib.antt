pub mod Giving
pub mod Passing
pub mod SoFar
pub mod Choosing
pub mod Counts
pub mod Shooting
pub mod Rounds
