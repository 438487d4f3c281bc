pub mod Moments
pub mod Rules
pub mod Shooters
pub mod Layouts
