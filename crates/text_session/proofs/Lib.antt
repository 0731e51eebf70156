-- The laws of a run, lowest first.
pub mod Columns
pub mod Turning
pub mod Told
pub mod Streamed
pub mod LineEnds
pub mod Lengths
pub mod Worked
pub mod Laws
