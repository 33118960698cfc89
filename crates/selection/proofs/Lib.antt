-- `Selected` has what is selected of rules and picked of authorizations, by numbers; the others what the
-- proofs of the functions use.
pub mod Selected
pub mod SelectedLoop
pub mod Seen
