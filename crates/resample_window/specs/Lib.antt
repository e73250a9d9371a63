pub mod Window
pub mod Signed
pub mod Steps
pub mod Walk
pub mod Range
pub mod Taps
