-- A table for the rules of some bytes, read at their places.
use Rattle.std.proofs.Common.{sym, ap, ◌∙◌, arith, get_or-drop, get_or-take}
use Rattle.std.proofs.lemmas.List.{drop-map}
use Rattle.std.specs.Prelude.{◌≡◌, List, ℕ, ◌+◌, map, take, get_or}
use Rattle.foundation.specs.ByteRecords.{record_nth}
use Rattle.model.specs.declared.Rule.{Rule}
use Rattle.model.specs.Encoding.{rule_of}
use Rattle.encoding.specs.Format.{rules_in}
use Rattle.rules.specs.RankTables.{RuleTable}

pub table_of : (n : ℕ) (s : List ℕ) (f : Rule → ℕ) (l : List ℕ) → take n l ≡ map f (rules_in n s) → RuleTable n s f l
table_of n s f l e i h =
    let here : i ≡ i + 0 = omega arith in
    sym (get_or-take n l i 0 h) ∙ ap (λ (t : List ℕ). get_or t i 0) e
    ∙ ap (λ (k : ℕ). get_or (map f (rules_in n s)) k 0) here ∙ sym (get_or-drop i (map f (rules_in n s)) 0 0)
    ∙ ap (λ (t : List ℕ). get_or t 0 0) (drop-map f i (rules_in n s) ∙ ap (map f) (record_nth 28 rule_of n s i h))
