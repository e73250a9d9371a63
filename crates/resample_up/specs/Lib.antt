pub mod Rows
pub mod Written
pub mod Changed
pub mod Alpha
pub mod Change
pub mod Sheet
