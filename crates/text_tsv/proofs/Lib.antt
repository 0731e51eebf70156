-- The laws of tabbed text, lowest first.
pub mod Lines
pub mod Scanning
pub mod Splitting
pub mod Fields
pub mod Reading
pub mod Within
pub mod Digits
pub mod Writing
pub mod WrittenRead
pub mod Numerals
pub mod Parts
pub mod Laws
