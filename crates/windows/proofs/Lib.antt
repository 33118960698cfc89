-- `Halves` has the search for the first instant that is not below another; `Spans` an interval as a word.
pub mod Halves
pub mod Spans
