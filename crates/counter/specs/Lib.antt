pub mod Cells
pub mod Ledger
pub mod Opened
pub mod Shown
pub mod Inside
pub mod History
pub mod Examples
