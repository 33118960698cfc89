-- `Print` has what the contracts of printing say, and `Lengths` how long the texts are.
pub mod Print
