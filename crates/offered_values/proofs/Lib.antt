-- What is known of what a row offers.
pub mod OfferLaws
pub mod Determined
