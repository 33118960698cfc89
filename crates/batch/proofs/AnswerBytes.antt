-- The byte list while the questions are answered, and how many of them are: what the two forms of the batch
-- share.
use mathlib.Core.Path.{◌≡◌, sym, ap, ◌∙◌}
use mathlib.Core.Bool.{Bool, true}
use mathlib.Core.List.{List, map, ◌++◌}
use Prim.Native.Nat.{ℕ, suc, ◌+◌, ◌≤◌, ◌<◌}
use native.Mathlib.Omega.{arith}
use lib.Dec.{eqb}
use lib.ListN.{length, drop, set, get_or, length-map, get_or-map}
use lib.Seq.{paste, paste-zero, paste-suc, length-paste, take_all}
use Rattle.foundation.specs.Tests.{pick, cases, true_eq, false_eq}
use Rattle.model.specs.declared.Question.{Question}
use Rattle.model.specs.Soundness.{sound_bytes}
use Rattle.model.specs.Batch.{byte_for, batch_refusal, batch_bytes}
use Rattle.model.proofs.BatchFacts.{batch-accepted, batch-written, batch-refused}

module _ (s : List ℕ) (qs : List Question) (out : List ℕ) where
  -- the bytes for the first n questions stand at the front
  unfoldable pub bytes_filled : ℕ → List ℕ
  bytes_filled n = paste out 0 (map (byte_for s) qs) n

  pub filled_none : out ≡ bytes_filled 0
  unfolding bytes_filled
  filled_none = paste-zero out 0 (map (byte_for s) qs)

  pub filled-length : (n : ℕ) → n ≤ length qs → n ≤ length out → length (bytes_filled n) ≡ length out
  unfolding bytes_filled
  filled-length n h k =
      length-paste out 0 (map (byte_for s) qs) n (omega arith) (rw (length-map qs (byte_for s)) h)

  pub filled_next : (d : Question) (i : ℕ) → i < length qs → i < length out →
      set (bytes_filled i) i (byte_for s (get_or qs i d)) ≡ bytes_filled (suc i)
  unfolding bytes_filled
  filled_next d i h k =
      let z : i ≡ 0 + i = omega arith in
      let f = byte_for s in
      (λ j. set (bytes_filled i) (z j) (sym (get_or-map f qs i d) j))
      ∙ paste-suc out 0 (map f qs) i (f d) (omega arith) (rw (length-map qs f) h)

  filled_all : length qs ≤ length out → bytes_filled (length qs) ≡ map (byte_for s) qs ++ drop (length qs) out
  unfolding bytes_filled
  filled_all h =
      let f = byte_for s in
      let z : 0 + length qs ≡ length qs = omega arith in
      λ j. take_all (length qs) (map f qs) (rw (length-map qs f) (omega arith)) j ++ drop (z j) out

  -- a reply r to the call with which n questions are answered
  pub record Known (r n : ℕ) : Type 0 where
    pub refusal : r ≡ batch_refusal s (length qs) (length out)
    pub bytes : bytes_filled n ≡ batch_bytes s qs out
    pub in_questions : n ≤ length qs
    pub in_room : n ≤ length out
    pub sound : 0 < n → sound_bytes s ≡ true

  pub know : (r n : ℕ) → r ≡ batch_refusal s (length qs) (length out) → n ≡ pick (eqb r 0) (length qs) 0 →
      Known r n
  know r n e f = cases (eqb r 0)
      (λ t.
      let z : batch_refusal s (length qs) (length out) ≡ 0 = sym e ∙ true_eq r 0 t in
      let a = batch-accepted s (length qs) (length out) z in
      let g : n ≡ length qs = f ∙ ap (λ (b : Bool). pick b (length qs) 0) t in
      record {
        refusal = e;
        bytes = ap bytes_filled g ∙ filled_all a.1 ∙ sym (batch-written s qs out z);
        in_questions = omega arith;
        in_room = omega arith;
        sound = λ h. a.0;
      })
      (λ t.
      let g : n ≡ 0 = f ∙ ap (λ (b : Bool). pick b (length qs) 0) t in
      record {
        refusal = e;
        bytes = ap bytes_filled g ∙ sym filled_none
            ∙ sym (batch-refused s qs out (λ z. false_eq r 0 t (e ∙ z)));
        in_questions = omega arith;
        in_room = omega arith;
        sound = λ h. absurd (omega arith);
      })
