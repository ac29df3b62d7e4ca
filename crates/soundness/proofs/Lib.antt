-- Why demand 3 holds, and what soundness says in other words.
pub mod Lasting
pub mod Exact
pub mod Order
pub mod Join
pub mod Undo
pub mod Demand3
pub mod Wording
