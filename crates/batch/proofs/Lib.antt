-- `AnswerBytes` has the byte list while the questions are answered.
pub mod AnswerBytes
