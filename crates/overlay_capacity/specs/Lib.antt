-- Who holds a key, arrives and leaves, and its room.
pub mod Capacity
