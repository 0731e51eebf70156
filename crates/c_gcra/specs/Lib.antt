-- What a reader must believe of the GCRA engine's export.
pub mod Laws
