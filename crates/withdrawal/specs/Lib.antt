pub mod Stays
pub mod Times
pub mod RoundTurns
pub mod WithdrawalRounds
