pub mod Sized
pub mod Resilient
pub mod Left
pub mod Theorems
pub mod Sheet
pub mod SampleSheet
