pub mod Support
pub mod Reach
pub mod Weights
pub mod Extent
pub mod Line
pub mod Sheet
