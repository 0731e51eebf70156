-- What a reader must believe of a run of the text program.
pub mod Session
pub mod Store
pub mod Transcript
pub mod Stream
pub mod Worked
pub mod Laws
