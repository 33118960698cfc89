use Rattle.std.proofs.Common.{replicate, rules, ℕ, ◌∙◌}
use lib.ListN.{length-replicate}
use Rattle.laws.specs.Created.{created}
use Rattle.vectors.proofs.checks.check.Goals as goal

pub check_lines-requires : goal.check_lines-requires
check_lines-requires c = (
  c.create.ensures.1 ∙ created (replicate 27936 0)
      (length-replicate {A = ℕ} 27936 0),
  search rules,
)
