-- The order of the rows that hold a value: the definitions that the contracts of `assignment_order` cite.
pub mod Positions
pub mod Ordered
