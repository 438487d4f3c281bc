pub mod Exact
pub mod Verdict
pub mod Worst
