pub mod Bulk
pub mod Cipher
pub mod Blocks
pub mod Stages
pub mod Pictures
pub mod Records
