pub mod Digits
pub mod Decimal
pub mod Scaled
pub mod Quotients
