-- The choice of authorizations: those of a sound base have their place in the tables (`placed-in`), and those
-- that are chosen lie in the bytes (`choice-picks`).
use Rattle.std.proofs.Common.{◌≡◌, ℕ, ◌*◌, ◌≤◌, Bool, true, leb, List, [], ◌∷◌, length, refl, inl, inr, arith}
use Rattle.foundation.specs.Tests.{and-true, true-le}
use Rattle.foundation.specs.Lists.{conjunct}
use Rattle.model.specs.declared.Authorization.{Authorization}
use Rattle.model.specs.Ranges.{is_subject, is_object, is_mode, is_label, is_instant}
use Rattle.model.specs.Soundness.{authorization_in, interval_in}
use Rattle.relevance.specs.Chosen.{Picks}
use Rattle.relevance.specs.Needed.{HeadInRange, Choice}

pub placed_in : (a : Authorization) → authorization_in a ≡ true → HeadInRange a.head
placed_in a e =
    let h = a.head in
    let t = conjunct (is_label h.label ∷ is_subject h.grantor ∷ is_subject h.subject
    ∷ is_object h.object
    ∷ is_mode h.mode ∷ is_instant h.granted ∷ interval_in a.interval ∷ []) e in
    let s = and-true (leb 1 h.subject) (leb h.subject 1023) (t _ (inr (inr (inl refl)))) in
    let o = and-true (leb 1 h.object) (leb h.object 128) (t _ (inr (inr (inr (inl refl))))) in
    let m = and-true (leb 1 h.mode) (leb h.mode 8) (t _ (inr (inr (inr (inr (inl refl)))))) in
    record {
      subject = omega (arith, true-le h.subject 1023 s.1);
      object = omega (arith, true-le h.object 128 o.1);
      some = true-le 1 h.mode m.0;
      mode = true-le h.mode 8 m.1;
    }

-- the numbers of a choice lie in the bytes
pub choice_picks : (test : Authorization → Bool) (s : List ℕ) (total : ℕ) (entry exit : List ℕ) (n : ℕ) →
    total * 24 ≤ length s → total ≤ length entry → Choice test s total entry exit n → Picks s exit n
choice_picks test s total entry exit n h l c = record {
  room = omega (arith, c.few, c.same_length);
  inside = λ j k. omega (arith, c.below j k);
}
