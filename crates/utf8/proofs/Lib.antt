pub mod Reaches
