-- Going round a list: the definitions that the contracts of `rotation` cite.
pub mod Rotation
