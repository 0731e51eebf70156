-- What a reader must believe of what an HTTP response says.
pub mod Fields
pub mod Worked
pub mod Laws
