pub mod Balance
pub mod IntervalLines
pub mod LedgerText
