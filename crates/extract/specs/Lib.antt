pub mod Extract
pub mod Laws
pub mod Theorems
pub mod Written
pub mod EndToEnd
