pub mod Decoder
pub mod Decisions
pub mod Packed
pub mod Trace
pub mod Tables
pub mod Loops
