-- `AnswersByRows` has the answers of MAY and WHEN by the rows of the table that apply.
pub mod AnswersByRows
