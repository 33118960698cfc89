-- `RuleWords` has the cases of the word of a rule.
pub mod RuleWords
