-- What a reader must believe of the ceiling: what is counted, that it never goes above the ceiling, and where it reaches it.
pub mod Counted
pub mod Ceiling
pub mod Least
pub mod Worked
pub mod Laws
