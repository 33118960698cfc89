-- `EditedBytes` has the edit of one part of the bodies, `BodyEdits` the edits of one record and of a whole
-- body, for each body, and `BodyEditRules` the laws by which a function that makes one is proved whole.
pub mod EditedBytes
pub mod BodyEdits
pub mod BodyEditRules
pub mod Kept
pub mod BodiesRead
pub mod Written
