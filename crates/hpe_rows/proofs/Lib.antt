pub mod SymbolRows
pub mod Parts
pub mod PeriodEnds
pub mod Smallness
pub mod WholePeriods
