-- The laws of the history, lowest first; `Simulation` and `Demand3` have the run theorem, and `Laws` gathers what is claimed. By its
-- name `Agreed` is checked first, and with it the runs that `Worked` computes, so that an edit of the book is refused at a number.
pub mod Calls
pub mod Steps
pub mod Lives
pub mod Counting
pub mod Columns
pub mod Latest
pub mod Owing
pub mod Deciding
pub mod Invariant
pub mod Full
pub mod OwnRecord
pub mod Same
pub mod Asking
pub mod Looking
pub mod Simulation
pub mod Demand3
pub mod NeverCorrupt
pub mod Worked
pub mod Agreed
pub mod Laws
