pub mod Number
pub mod Verdict
