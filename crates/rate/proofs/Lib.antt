-- The laws of this crate, lowest first. What stands above the crate cites these and no definition's text.
pub mod Answers
pub mod ClockEnd
pub mod Left
pub mod Cases
pub mod Zeros
pub mod Alone
pub mod Judging
pub mod Wait
pub mod Reset
pub mod Fresh
pub mod Look
pub mod Life
pub mod Laws
