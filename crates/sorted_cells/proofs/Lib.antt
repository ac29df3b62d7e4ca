-- What opening and closing a gap does to a list, and how codes are ordered.
pub mod Gaps
pub mod Codes
pub mod Determined
