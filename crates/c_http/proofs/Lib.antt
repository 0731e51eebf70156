-- The laws of the fields' export.
pub mod Laws
