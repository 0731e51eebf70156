-- The laws of this crate, lowest first. What stands above the crate cites these and no definition's text.
pub mod Lent
pub mod Accounts
pub mod Standing
pub mod Judging
pub mod Bounds
pub mod Laws
