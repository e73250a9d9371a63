pub mod Apply
pub mod Filled
pub mod Laws
