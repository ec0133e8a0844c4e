pub mod Blocks
pub mod Sha2Padding
pub mod Blake2Padding
