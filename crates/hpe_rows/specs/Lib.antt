pub mod Rows
pub mod RowsState
pub mod RowsView
