-- The laws of the GCRA engine's export.
pub mod Laws
