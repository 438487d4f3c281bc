pub mod Steps
pub mod Parts
pub mod Digits
pub mod TokenSteps
