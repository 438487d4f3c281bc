pub mod FieldDuties
pub mod Fields
pub mod Migration
pub mod Names
pub mod Projects
pub mod Tables
pub mod Versions
pub mod Shapes
