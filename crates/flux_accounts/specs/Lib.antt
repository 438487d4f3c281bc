pub mod Histories
pub mod Rule
pub mod Banks
pub mod Answers
pub mod Between
pub mod Plays
pub mod Layouts
