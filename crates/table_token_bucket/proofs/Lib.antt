-- The laws of the token bucket engine's table.
pub mod Columns
pub mod Planned
pub mod Worked
pub mod Laws
