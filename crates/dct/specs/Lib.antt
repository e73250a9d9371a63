pub mod Grid
pub mod Matrix
pub mod Orthogonal
pub mod Dct
pub mod Product
pub mod Columns
