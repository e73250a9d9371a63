pub mod Input
pub mod Line
pub mod Laws
pub mod Theorems
pub mod Held
