pub mod Signed
pub mod Rows
pub mod Solutions
pub mod Missing
pub mod Existence
pub mod Exact
