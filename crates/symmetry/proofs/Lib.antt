pub mod Lists
pub mod Images
pub mod Growth
pub mod Ways
pub mod Symmetries
pub mod Webs
pub mod Laws
