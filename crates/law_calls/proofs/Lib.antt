-- The laws of the calls, lowest first; `Laws` gathers them.
pub mod Causes
pub mod Numbers
pub mod Cleared
pub mod Peek
pub mod PeekCauses
pub mod PeekNumbers
pub mod Zeros
pub mod Newest
pub mod Wait
pub mod Reset
pub mod Left
pub mod Laws
