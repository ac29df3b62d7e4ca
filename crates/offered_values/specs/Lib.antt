-- What a row offers under a limit.
pub mod Offers
