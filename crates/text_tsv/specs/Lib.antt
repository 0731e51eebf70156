-- What a reader must believe of tabbed text.
pub mod Text
pub mod Decimal
pub mod Fields
pub mod Laws
