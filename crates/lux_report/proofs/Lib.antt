pub mod Growing
pub mod Covering
pub mod Written
