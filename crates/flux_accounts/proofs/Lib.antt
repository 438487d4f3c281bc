pub mod Steps
pub mod Memory
pub mod Closing
