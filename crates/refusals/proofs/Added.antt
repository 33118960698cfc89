-- The rules of a body with one more behind them, written into a buffer, are read back from it.
use mathlib.Core.Path.{◌≡◌, ap, ap₂, ◌∙◌}
use mathlib.Core.List.{List, [], ◌∷◌, ◌++◌, append_assoc}
use Prim.Native.Nat.{ℕ, ◌+◌, ◌*◌, ◌≤◌}
use native.Mathlib.Omega.{arith}
use lib.ListN.{length, take, drop}
use lib.Seq.{drop_at, length-take-le}
use Rattle.foundation.specs.ByteRecords.{records-split, records_copy}
use Rattle.fields.specs.Field.{splice}
use Rattle.fields.proofs.ByteLaws.{splice-join}
use Rattle.model.specs.declared.Rule.{Rule}
use Rattle.model.specs.Encoding.{rule_of, rule_bytes}
use Rattle.model.specs.FitsFacts.{RuleFits}
use Rattle.model.specs.EncodingFacts.{rule-back}
use Rattle.encoding.proofs.OwnBytes.{rule_own}
use Rattle.encoding.specs.Format.{rules_in}

-- the buffer z, with n rules of a body at its front, and one more rule behind them
pub added_rules : (n : ℕ) (body z t u : List ℕ) (r : Rule) → RuleFits r → n * 28 ≤ length body →
    n * 28 + 28 ≤ length z → t ≡ splice 0 (take (n * 28) body) z → u ≡ splice (n * 28) (rule_bytes r) t →
    rules_in (n + 1) u ≡ rules_in n body ++ (r ∷ [])
unfolding splice
added_rules n body z t u r f h k e g =
    records-split 28 rule_of n 1 u
    ∙ ap₂ (λ (l m : List Rule). l ++ m)
    (ap (rules_in n) all ∙ records_copy 28 rule_of rule_own n body (rule_bytes r ++ rest) h)
    (ap (λ (l : List ℕ). rule_of l ∷ []) (ap (drop (n * 28)) all
    ∙ drop_at front (rule_bytes r ++ rest) (n * 28) long)
    ∙ ap (λ (x : Rule). x ∷ []) (rule-back r rest f))
  where
    front : List ℕ
    front = take (n * 28) body

    rest : List ℕ
    rest = drop (0 + length (front ++ rule_bytes r)) z

    long : length front ≡ n * 28
    long = length-take-le (n * 28) body h

    all : u ≡ front ++ (rule_bytes r ++ rest)
    all =
        let behind : n * 28 ≡ 0 + length front = omega (arith, long) in
        g ∙ ap (splice (n * 28) (rule_bytes r)) e
        ∙ ap (λ (m : ℕ). splice m (rule_bytes r) (splice 0 front z)) behind
        ∙ splice-join 0 front (rule_bytes r) z (omega (arith, long))
        ∙ append_assoc front (rule_bytes r) rest
