-- `Writing` has what the contracts say, and `Room` the theorems: a buffer of 24,001 bytes is never refused,
-- and a refusal alters nothing.
pub mod Writing
pub mod Room
