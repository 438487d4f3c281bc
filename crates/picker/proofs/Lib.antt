pub mod Choices
pub mod Maxima
pub mod Nodes
