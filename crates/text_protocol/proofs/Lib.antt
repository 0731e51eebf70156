-- The laws of the text program's lines.
pub mod Reading
pub mod Putting
pub mod Lengths
pub mod Exact
pub mod Laws
