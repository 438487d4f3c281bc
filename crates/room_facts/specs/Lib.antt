pub mod RoomFacts
pub mod Shapes
pub mod Truth
