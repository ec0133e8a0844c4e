pub mod Image
pub mod Look
pub mod Open
pub mod Laws
pub mod Inner
