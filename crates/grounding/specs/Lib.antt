pub mod RuleSteps
pub mod Meaning
pub mod RuleTurns
