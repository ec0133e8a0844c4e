pub mod Strings
pub mod Double
pub mod Omd
pub mod Calls
pub mod Laws
pub mod Examples
pub mod Parts
