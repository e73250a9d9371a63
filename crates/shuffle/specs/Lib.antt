pub mod Shuffle
pub mod Draws
pub mod Entries
pub mod Distinct
pub mod Examples
