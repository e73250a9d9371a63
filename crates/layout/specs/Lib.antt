pub mod Layout
pub mod Places
pub mod Permutation
pub mod Sums
pub mod Loops
