pub mod RuleNumbers
pub mod Table
