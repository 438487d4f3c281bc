pub mod Web
pub mod Validity
