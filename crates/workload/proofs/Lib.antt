pub mod Accepted
pub mod Luminaires
pub mod NumberZero
pub mod Validity
