pub mod Boxes
pub mod FurnishedRooms
pub mod Validity
pub mod Shapes
