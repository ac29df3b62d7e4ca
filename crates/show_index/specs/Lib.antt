-- Board T as it is packed into lent slices.
pub mod Packed
