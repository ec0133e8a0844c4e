pub mod Compress
pub mod Kinds
pub mod Words
pub mod Keyed
pub mod Sha256
pub mod Blake2b
pub mod Roots
pub mod Examples
