-- The laws of the GCRA engine's table.
pub mod Columns
pub mod Lengths
pub mod Worked
pub mod Laws
