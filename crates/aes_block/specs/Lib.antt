pub mod Columns
pub mod MatrixColumns
