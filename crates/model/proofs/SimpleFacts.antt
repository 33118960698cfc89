-- The simple engine's MAY beside the main one. 02: "It serves rule sets in which feeding has no circle of any
-- sort, and for every sound base of that kind its MAY is proved equal to the main one": `simple-main`, and of
-- any replies that meet the two functions' contracts `same-may`. "Turned away: 15 ... exactly if some feeding
-- circle exists; it comes last": `simple-circular`. Every other reply is the main one's: `simple-else`.
use Rattle.std.specs.Prelude.{◌≡◌, ◌≢◌, ◌↔◌, ℕ, suc, Bool, not, List, [], ◌∷◌, ◌++◌, ltb, eqb}
use Rattle.std.proofs.Math.Path.{refl, sym, ap}
use Rattle.std.proofs.Common.{◌∙◌, arith}
use Rattle.std.proofs.Math.Bool.{true, false}
use Rattle.foundation.specs.Tests.{pick, cases, true_eq, false_eq, true-le}
use Rattle.model.specs.declared.Question.{Question}
use Rattle.model.specs.declared.Reply.{Reply}
use Rattle.model.specs.declared.Reply.TheVariants.{Refused}
use Rattle.model.specs.Circles.{circular, Circle}
use Rattle.model.proofs.CirclePaths.{circular_path}
use Rattle.model.specs.Rules.{may}
use Rattle.model.specs.Step.{Row, row, first_number, refused_or}
use Rattle.model.specs.Step.{Numbered}
use Rattle.model.proofs.StepFacts.{numbered, first_append, first_all, answered, turned_away}
use Rattle.model.specs.Encoding.{decode}
use Rattle.model.specs.Soundness.{sound_bytes}
use Rattle.model.specs.Answers.{refusal_number, may_table, may_reply, may_answer}
use Rattle.model.specs.Simple.{simple_answer}

-- rows behind others are asked where none of those applies
refused_append : {A : Type 0} (front rest : List Row) (refuse : ℕ → A) (a : A) → Numbered front →
    refused_or (front ++ rest) refuse a ≡ refused_or front refuse (refused_or rest refuse a)
refused_append {A} front rest refuse a up = cases (eqb (first_number front) 0)
    (λ e. let m : first_number (front ++ rest) ≡ first_number rest = first_append front rest up ∙ rw e in
    ap by m ∙ sym (answered front refuse (refused_or rest refuse a) (true_eq (first_number front) 0 e)))
    (λ e. let m : first_number (front ++ rest) ≡ first_number front = first_append front rest up ∙ rw e in
    let n = false_eq (first_number front) 0 e in
    ap by m ∙ turned_away front refuse a n ∙ sym (turned_away front refuse (refused_or rest refuse a) n))
  where
    by : ℕ → A
    by n = elim (eqb n 0) [ true ↦ a | false ↦ refuse n ]

-- yes and no are no refusals
pub replied : (yes? : Bool) → refusal_number (may_reply yes?) ≡ 0
replied true = refl
replied false = refl

module _ (s : List ℕ) (q : Question) where
  -- rows 2, 3 and 6, which the two share, and what is said where none of them applies
  abbrev rows : List Row
  rows = row 2 (not (sound_bytes s)) ∷ may_table (decode s) q

  abbrev said : Reply
  said = may_reply (may (decode s) q.access q.instant)

  -- row 15 is asked behind them
  behind : (c : Bool) → circular (decode s).rules ≡ c →
      simple_answer s q ≡ refused_or rows Refused (pick c (Refused 15) said)
  unfolding simple_answer
  behind c e =
      refused_append rows (row 15 (circular (decode s).rules) ∷ []) Refused said (numbered rows refl)
      ∙ ap (refused_or rows Refused) (ap (λ (g : Bool). refused_or (row 15 g ∷ []) Refused said) e ∙ asked c)
    where
      asked : (c : Bool) → refused_or (row 15 c ∷ []) Refused said ≡ pick c (Refused 15) said
      asked true = refl
      asked false = refl

  -- without any circle
  uncircular_main : circular (decode s).rules ≡ false → simple_answer s q ≡ may_answer s q
  unfolding may_answer
  uncircular_main e = behind false e

  -- whether rows 2, 3 and 6 let the question pass
  passes : refusal_number (may_answer s q) ≡ 0 → first_number rows ≡ 0
  unfolding may_answer
  passes z = cases (eqb (first_number rows) 0)
      (λ e. true_eq (first_number rows) 0 e)
      (λ e. let n = false_eq (first_number rows) 0 e in
      absurd (n (sym (ap refusal_number (turned_away rows Refused said n)) ∙ z)))

  passed : first_number rows ≡ 0 → refusal_number (may_answer s q) ≡ 0
  unfolding may_answer
  passed z = ap refusal_number (answered rows Refused said z)
      ∙ replied (may (decode s) q.access q.instant)

  -- 15 exactly where the main one is not refused and there is a circle
  circular-refused : (simple_answer s q ≡ Refused 15)
      ↔ ((refusal_number (may_answer s q) ≡ 0) × (circular (decode s).rules ≡ true))
  circular-refused = (to, from)
    where
      low : first_number rows ≢ 15
      low z = let h = true-le (suc (first_number rows)) 15 (first_all (λ n. ltb n 15) rows refl refl) in
          omega arith

      -- of the rows only the last gives it
      only : (c : Bool) → circular (decode s).rules ≡ c → simple_answer s q ≡ Refused 15 →
          (first_number rows ≡ 0) × (pick c (Refused 15) said ≡ Refused 15)
      only c g e = cases (eqb (first_number rows) 0)
          (λ k. let z = true_eq (first_number rows) 0 k in
          (z, sym (answered rows Refused (pick c (Refused 15) said) z) ∙ sym (behind c g) ∙ e))
          (λ k. let n = false_eq (first_number rows) 0 k in
          absurd (low (sym (ap refusal_number (turned_away rows Refused (pick c (Refused 15) said) n))
          ∙ sym (ap refusal_number (behind c g)) ∙ ap refusal_number e)))

      to : simple_answer s q ≡ Refused 15 → (refusal_number (may_answer s q) ≡ 0)
          × (circular (decode s).rules ≡ true)
      to e = cases (circular (decode s).rules)
          (λ c. (passed (only true c e).0, c))
          (λ c. let z : 0 ≡ 15 = sym (replied (may (decode s) q.access q.instant))
          ∙ ap refusal_number (only false c e).1 in
          absurd (omega arith))

      from : (refusal_number (may_answer s q) ≡ 0) × (circular (decode s).rules ≡ true) →
          simple_answer s q ≡ Refused 15
      from w = behind true w.1 ∙ answered rows Refused (Refused 15) (passes w.0)

  -- ---- the claims, in 02's words

  -- THEOREM. 02: "rule sets in which feeding has no circle of any sort, and for every sound base of that kind
  -- its MAY is proved equal to the main one"
  pub simple_main : (Circle (decode s).rules → ⊥) → simple_answer s q ≡ may_answer s q
  simple_main h = uncircular_main (cases (circular (decode s).rules)
      (λ e. absurd (h ((circular_path (decode s).rules).0 e)))
      (λ e. e))

  -- the same of the code: whatever functions reply that meet the two contracts
  pub same_may : (r r' : Reply) → r ≡ simple_answer s q → r' ≡ may_answer s q →
      (Circle (decode s).rules → ⊥) → r ≡ r'
  same_may r r' e e' h = e ∙ simple_main h ∙ sym e'

  -- THEOREM. 02: "Turned away: 15, circular, ... exactly if some feeding circle exists; it comes last": the
  -- main one is not refused, and there is a circle
  pub simple_circular : (simple_answer s q ≡ Refused 15)
      ↔ ((refusal_number (may_answer s q) ≡ 0) × Circle (decode s).rules)
  simple_circular = (
    (λ e. let w = circular-refused.0 e in (w.0, (circular_path (decode s).rules).0 w.1)),
    (λ w. circular-refused.1 (w.0, (circular_path (decode s).rules).1 w.1)),
  )

  -- any other reply is the main one's
  pub simple_else : simple_answer s q ≢ Refused 15 → simple_answer s q ≡ may_answer s q
  unfolding may_answer
  simple_else d = cases (circular (decode s).rules)
      (λ c. cases (eqb (first_number rows) 0)
      (λ k. let z = true_eq (first_number rows) 0 k in
      absurd (d (behind true c ∙ answered rows Refused (Refused 15) z)))
      (λ k. let n = false_eq (first_number rows) 0 k in
      behind true c ∙ turned_away rows Refused (Refused 15) n ∙ sym (turned_away rows Refused said n)))
      uncircular_main
