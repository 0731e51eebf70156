-- What a reader must believe of the text's export.
pub mod Text
pub mod Laws
