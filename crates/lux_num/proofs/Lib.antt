pub mod Outcomes
pub mod TenPowers
pub mod Scaling
pub mod Reading
pub mod Roots
