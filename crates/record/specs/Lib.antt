pub mod Record
pub mod Given
pub mod Answers
pub mod Modes
pub mod Laws
pub mod Held
pub mod Opened
pub mod Theorems
