pub mod Admission
pub mod Admitted
