-- How far a run has come, and what it comes to.
pub mod Reached
pub mod Laws
