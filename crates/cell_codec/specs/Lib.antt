pub mod Cells
pub mod Decoding
pub mod Roomy
