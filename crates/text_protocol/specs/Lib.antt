-- What a reader must believe of the text program's lines.
pub mod Command
pub mod Reply
pub mod Laws
