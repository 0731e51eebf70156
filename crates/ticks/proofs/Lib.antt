-- The laws of this crate, lowest first. What stands above the crate cites these and no definition's text.
pub mod Tests
pub mod Rounding
pub mod Limits
pub mod Products
pub mod Laws
