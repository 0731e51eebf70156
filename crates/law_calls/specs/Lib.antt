-- What a reader must believe of the laws of the calls; `Laws` has them all, by the words of the others.
pub mod Causes
pub mod PeekCauses
pub mod Grounds
pub mod PeekGrounds
pub mod Refusal
pub mod Newest
pub mod Wait
pub mod Reset
pub mod Left
pub mod Peek
pub mod Laws
