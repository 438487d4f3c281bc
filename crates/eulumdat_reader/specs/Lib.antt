pub mod Cursors
pub mod Rows
pub mod Heads
pub mod Planes
pub mod Angles
pub mod Intensities
pub mod Eulumdat
pub mod Layouts
