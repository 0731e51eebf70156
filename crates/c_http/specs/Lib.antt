-- What a reader must believe of the fields' export.
pub mod Told
pub mod Laws
