-- The laws of the ceiling, lowest first; `Laws` gathers what is claimed. By its name `Agreed` is checked first, and with it the runs that
-- `Worked` computes, so that an edit of what is counted is refused at a number.
pub mod Lists
pub mod Stretch
pub mod Rising
pub mod Asking
pub mod Covered
pub mod Booked
pub mod Rounded
pub mod Ceiling
pub mod Lossless
pub mod Alone
pub mod Greedy
pub mod Least
pub mod Worked
pub mod Agreed
pub mod Laws
