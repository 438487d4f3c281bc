pub mod Beam
pub mod DirectFlux
