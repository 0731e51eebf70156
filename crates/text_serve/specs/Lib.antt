-- What a reader must believe of the program's whole run.
pub mod Serving
pub mod Laws
