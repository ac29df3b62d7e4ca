-- That no second result meets a promise.
pub mod Determined
