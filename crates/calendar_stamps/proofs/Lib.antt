-- Dates and stamps, number by number.
pub mod ValueLaws
pub mod FieldLaws
pub mod Determined
