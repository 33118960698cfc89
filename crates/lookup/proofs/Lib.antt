-- `LentBodies` has the set that proves that a body of a sound base is lent whole.
pub mod LentBodies
