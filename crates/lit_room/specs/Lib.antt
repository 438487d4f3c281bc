pub mod LitRooms
pub mod Shapes
