pub mod Carrier
pub mod Laws
