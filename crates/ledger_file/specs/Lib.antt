pub mod Forms
pub mod LedgerFiles
pub mod Shapes
