pub mod Dither
pub mod Numbers
