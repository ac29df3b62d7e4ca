-- The orders of rows, and rows picked and put in order: the definitions that the contracts of `row_order` cite.
pub mod Orders
