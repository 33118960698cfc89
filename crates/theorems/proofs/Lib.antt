-- Theorems of the definitions in specs/ that a must-fail edit changes.
pub mod IsolatedReplies
