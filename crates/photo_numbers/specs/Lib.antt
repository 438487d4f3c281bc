pub mod Numbers
pub mod Intensities
