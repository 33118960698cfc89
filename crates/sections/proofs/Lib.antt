-- `SectionWrites` says what writing to one section of a slice leaves of the others.
pub mod SectionWrites
