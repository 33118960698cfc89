-- `Tables` has what a store does to a table of what is needed; `Growth` how the search grows and ends;
-- `RightPairs` where rules lead.
pub mod Tables
pub mod Growth
pub mod RightPairs
