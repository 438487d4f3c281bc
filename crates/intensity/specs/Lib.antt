pub mod Intensity
