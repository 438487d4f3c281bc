mod Table
mod Searched
mod Between
