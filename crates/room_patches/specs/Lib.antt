pub mod Places
pub mod Cuts
pub mod Rooms
pub mod Surfaces
pub mod Patches
pub mod Validity
pub mod Shapes
