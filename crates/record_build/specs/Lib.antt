pub mod Theorems
pub mod Sheet
