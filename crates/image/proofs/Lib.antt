pub mod Accepted
pub mod Built
pub mod Exact
pub mod Fields
pub mod Fitting
pub mod Opened
pub mod Written
