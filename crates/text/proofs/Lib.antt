-- `LineEnd` has the law of a newline behind a text.
pub mod LineEnd
pub mod WritingFacts
