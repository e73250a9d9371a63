pub mod Mark
pub mod Soft
pub mod Plane
pub mod Stored
pub mod Finite
pub mod Sheet
