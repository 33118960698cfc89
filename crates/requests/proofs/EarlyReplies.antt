-- The refusals by a row before 13 are the library's answers.
use mathlib.Core.Path.{◌≡◌, refl, sym, ap, ◌∙◌}
use Rattle.std.specs.Prelude.{Err}
use mathlib.Core.Logic.{◌≢◌}
use mathlib.Core.Bool.{Bool, true}
use mathlib.Core.List.{List}
use Prim.Native.Nat.{ℕ}
use native.Mathlib.Omega.{arith}
use lib.Dec.{eqb}
use Rattle.foundation.specs.Tests.{pick, ne_false}
use Rattle.model.specs.declared.Request.{Request}
use Rattle.model.specs.declared.Reply.{Reply}
use Rattle.model.specs.declared.Reply.TheVariants.{Refused, Unsupported}
use Rattle.model.specs.Encoding.{decode}
use Rattle.model.specs.Soundness.{sound_bytes}
use Rattle.model.specs.Means.{plainly}
use Rattle.model.specs.Step.{first_number, full, refusal_reply}
use Rattle.model.proofs.StepFacts.{reply_number_lem}
use Rattle.model.specs.Answers.{answering, request}
use Rattle.laws.specs.EarlyRows.{early_rows, refusal_early}
use Rattle.refusals.specs.declared.Refusal.{Refusal}
use Rattle.refusals.specs.declared.Refusal.TheVariants.{Row, Uncovered}
use Rattle.refusals.specs.Early.{early_is, reply_of}
use Rattle.revocation.proofs.CarriedFacts.{refuses}

module _ (s : List ℕ) (q : Request) (e : sound_bytes s ≡ true) where
  -- refused by one of the rows before 13
  early_refuses : (n : ℕ) → first_number (early_rows (decode s) q) ≡ n → n ≢ 0 →
      answering (refusal_reply plainly (decode s) q n) s ≡ request s q
  early_refuses n h z = refuses s q e n
      (refusal_early (decode s) q
      ∙ ap (λ (m : ℕ). pick (eqb m 0) (pick (full plainly (decode s) q) 13 0) m) h
      ∙ ap (λ (x : Bool). pick x (pick (full plainly (decode s) q) 13 0) n) (ne_false n 0 z))
      z

  pub refusal_answered : (e : Refusal) → early_is (decode s) q (Err e) → answering (reply_of e) s ≡ request s q
  refusal_answered (Row r) i =
      ap (λ (r : Reply). answering r s) (ap Refused (sym i.0) ∙ sym (reply_number_lem (decode s) q _ i.2))
      ∙ early_refuses _ refl i.1
  refusal_answered (Uncovered t) i =
      ap (λ (u : ℕ). answering (Unsupported u) s) i.1 ∙ early_refuses 9 i.0 (λ z. omega arith)
