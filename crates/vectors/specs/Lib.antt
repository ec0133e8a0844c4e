pub mod ByKind
pub mod Field
pub mod OfKind
pub mod Sealing
pub mod Numbers
