pub mod Plane
pub mod Blocks
pub mod Finite
