-- The laws of the text's export.
pub mod Laws
