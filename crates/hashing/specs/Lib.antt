pub mod Sha2
pub mod Blake2
