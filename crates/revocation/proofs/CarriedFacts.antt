-- What a request does that the rows before 13 let pass is the library's answer to it (`passed-answered`),
-- and so are refusals (`refuses`).
use mathlib.Core.Path.{◌≡◌, refl, sym, ap, ◌∙◌}
use mathlib.Core.Logic.{◌≢◌}
use mathlib.Core.Bool.{Bool, true, false}
use mathlib.Core.List.{List}
use Prim.Native.Nat.{ℕ}
use native.Mathlib.Omega.{arith}
use lib.Dec.{eqb}
use Rattle.foundation.specs.Tests.{pick}
use Rattle.foundation.specs.Lists.{Mem}
use Rattle.model.specs.declared.Request.{Request}
use Rattle.model.specs.declared.Reply.{Reply}
use Rattle.model.specs.declared.Reply.TheVariants.{Refused}
use Rattle.model.specs.Encoding.{encode, decode}
use Rattle.model.specs.Soundness.{sound_bytes}
use Rattle.model.specs.SoundnessFacts.{sound_bytes_lem}
use Rattle.model.specs.Means.{plainly}
use Rattle.model.specs.Step.{Row, full, effect, accepting, refusal, refusal_reply}
use Rattle.model.specs.Step.{Accepted}
use Rattle.model.proofs.StepFacts.{accepted, first_none}
use Rattle.model.specs.Answers.{answering, request}
use Rattle.laws.specs.RequestFacts.{request-accepted, request-refused}
use Rattle.laws.specs.EarlyRows.{early_rows, early_numbered, refusal_early}
use Rattle.revocation.specs.CarriedOut.{PassesEarly, CarriedOut}

-- ---- on sound bytes

module _ (s : List ℕ) (q : Request) (e : sound_bytes s ≡ true) where
  accepts : refusal plainly (decode s) q ≡ 0 →
      answering (accepting (decode s) q (effect plainly (decode s) q))
      (encode (effect plainly (decode s) q))
      ≡ request s q
  accepts z =
      let w = sound_bytes_lem s e in
      sym (ap (λ (x : List ℕ). request x q) (sym w.0) ∙ request-accepted (decode s) q w.1 z)

  pub refuses : (n : ℕ) → refusal plainly (decode s) q ≡ n → n ≢ 0 →
      answering (refusal_reply plainly (decode s) q n) s ≡ request s q
  refuses n h z =
      let w = sound_bytes_lem s e in
      sym (ap (λ (x : List ℕ). request x q) (sym w.0)
      ∙ request-refused (decode s) q w.1 (λ y. z (sym h ∙ y))
      ∙ (λ i. answering (refusal_reply plainly (decode s) q (h i)) (w.0 i)))

-- ---- past the rows before 13

module _ (s : List ℕ) (q : Request) (p : PassesEarly s q) where
  -- none of the rows before 13 applies
  pub passed_row : (r : Row) → Mem r (early_rows (decode s) q) → r.given ≡ false
  passed_row = first_none (early_rows (decode s) q) (early_numbered (decode s) q) p.early

  -- row 13 is left
  passed_refusal : refusal plainly (decode s) q ≡ pick (full plainly (decode s) q) 13 0
  passed_refusal = refusal_early (decode s) q
      ∙ ap (λ (m : ℕ). pick (eqb m 0) (pick (full plainly (decode s) q) 13 0) m) p.early

  room-refusal : (x : Bool) → full plainly (decode s) q ≡ x → refusal plainly (decode s) q ≡ pick x 13 0
  room-refusal x f = passed_refusal ∙ ap (λ (y : Bool). pick y 13 0) f

  pub passed_accepted : full plainly (decode s) q ≡ false → Accepted (decode s) q
  passed_accepted f = accepted (decode s) q (room-refusal false f)

  -- by what row 13 says
  carried_answered : (x : Bool) → full plainly (decode s) q ≡ x → (r : Reply) (s' : List ℕ) →
      r ≡ pick x (Refused 13) (accepting (decode s) q (effect plainly (decode s) q)) →
      s' ≡ pick x s (encode (effect plainly (decode s) q)) → answering r s' ≡ request s q
  carried_answered true f r s' e h =
      (λ i. answering (e i) (h i)) ∙ refuses s q p.sound 13 (room-refusal true f) (λ z. omega arith)
  carried_answered false f r s' e h =
      (λ i. answering (e i) (h i)) ∙ accepts s q p.sound (room-refusal false f)

  pub passed_answered : (r : Reply) (s' : List ℕ) → CarriedOut s q r s' → answering r s' ≡ request s q
  passed_answered r s' c = carried_answered (full plainly (decode s) q) refl r s' c.reply c.bytes
