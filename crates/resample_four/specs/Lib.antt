pub mod Four
pub mod Laws
