pub mod Weights
pub mod Totals
pub mod RowPlaces
pub mod Systems
pub mod Reciprocals
pub mod RowParts
