pub mod Rfc8439
pub mod Examples
pub mod Order
pub mod Blocks
