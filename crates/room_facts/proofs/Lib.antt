pub mod NumberedPoints
pub mod Truths
