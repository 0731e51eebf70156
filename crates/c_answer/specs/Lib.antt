-- What a reader must believe of the numbers that a host receives.
pub mod Five
pub mod Laws
