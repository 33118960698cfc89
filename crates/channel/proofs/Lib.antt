-- `DigestFacts` has the digest of texts one behind the other, `TraceFacts` what was read by the trace.
pub mod DigestFacts
pub mod TraceFacts
