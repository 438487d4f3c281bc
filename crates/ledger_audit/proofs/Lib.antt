pub mod Columns
pub mod Firsts
pub mod Tests
pub mod Deciding
