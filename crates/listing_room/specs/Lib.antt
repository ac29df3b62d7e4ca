-- Room that is made on the spot.
pub mod Room
