pub mod Ccsds131
pub mod Sheet
pub mod Bits
pub mod Loops
