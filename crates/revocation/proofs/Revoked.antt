-- The withdrawing requests: the numbers of one that is in its ranges fit its cut, and row 13 refuses one exactly if too many authorizations remain (`withdrawal-full`).
use mathlib.Core.Path.{◌≡◌, refl, sym, ◌∙◌}
use mathlib.Core.Logic.{inl, inr}
use Prim.Native.Nat.{ℕ, suc, ◌≤◌}
use native.Mathlib.Omega.{arith}
use mathlib.Core.Bool.{Bool, true, false, not, ◌&&◌, ◌||◌}
use mathlib.Core.List.{List, [], ◌∷◌}
use lib.Dec.{leb, ltb, eqb}
use lib.ListN.{length}
use Rattle.foundation.specs.Tests.{pick, cases, le-true, le-false, true-le, false-le, must_fail, not-false}
use Rattle.foundation.specs.Tests.{or_false}
use Rattle.foundation.specs.Lists.{keep_if, kept_length}
use Rattle.model.specs.declared.Request.{Request}
use Rattle.model.specs.Ranges.{is_subject, is_object, is_mode, is_label, last_label, most_objects}
use Rattle.model.specs.Ranges.{most_administrators, most_referrers, most_authorizations, most_rules}
use Rattle.model.specs.Base.{Base, is_privilege}
use Rattle.model.specs.Requests.{NEW, REVOKE, REVOKEP, REVOKEN, ADDRULE, DROPRULE, GRANTADM, REVOKEADM}
use Rattle.model.specs.Requests.{GRANTREF, REVOKEREF, is, labels, withdraws, drops}
use Rattle.model.specs.Means.{plainly}
use Rattle.model.specs.Step.{names_object, names_subject, names_mode, names_interval, names_label, out_of_range}
use Rattle.model.specs.Step.{bad_interval, full, effect}
use Rattle.model.proofs.StepFacts.{in_range}
use Rattle.model.specs.SoundnessFacts.{Sound}
use Rattle.model.specs.FitsFacts.{counts_fit_lem, at_most}
use Rattle.model.specs.Kinds.{is_kinds, is_apart, interval_kinds, label_kinds, withdrawal_kinds}
use Rattle.foundation.specs.Tests.{asked_passes}
use Rattle.pieces.specs.declared.cut.Cut.TheVariants.{Label, Grantor, Name}
use Rattle.pieces.specs.declared.cut.Named.{Named}
use Rattle.pieces.specs.Cuts.{CutOrdered, CutOf}
use Rattle.withdrawal.proofs.Link.{by_label_lem, by_grantor, by_name}

-- the kinds that name a label, as in Step
abbrev pub label_namers : List ℕ
label_namers = REVOKE ∷ DROPRULE ∷ []

-- ---- the numbers of a request that is in its ranges

module _ (q : Request) (r : out_of_range q ≡ false) where
  pub requester_most : q.requester ≤ 1023
  requester_most = at_most 1 1023 q.requester
      (not-false (is_subject q.requester) (in_range q r _ (inr (inr (inl refl)))))

  pub object-most : names_object q ≡ true → q.object ≤ 128
  object-most k = at_most 1 128 q.object
      (asked_passes (names_object q) (is_object q.object) k (in_range q r _ (inr (inr (inr (inl refl))))))

  pub subject-most : names_subject q ≡ true → q.subject ≤ 1023
  subject-most k = at_most 1 1023 q.subject
      (asked_passes (names_subject q) (is_subject q.subject) k
      (in_range q r _ (inr (inr (inr (inr (inl refl)))))))

  pub mode-most : names_mode q ≡ true → q.mode ≤ 8
  mode-most k = at_most 1 8 q.mode
      (asked_passes (names_mode q) (is_mode q.mode) k
      (in_range q r _ (inr (inr (inr (inr (inr (inl refl))))))))

  pub label-most : names_label q ≡ true → q.label ≤ last_label
  label-most k = at_most 1 last_label q.label (asked_passes (names_label q) (is_label q.label) k
      (in_range q r _ (inr (inr (inr (inr (inr (inr (inr (inl refl))))))))))

-- an interval that is named does not end before it starts
pub interval_ordered : (q : Request) → bad_interval q ≡ false → names_interval q ≡ true →
    q.interval.start ≤ q.interval.end
interval_ordered q b k =
    let l = false-le (suc q.interval.end) q.interval.start
    (must_fail (bad_interval q) (ltb q.interval.end q.interval.start) b (λ e. rw (k, e))) in
    omega arith

-- a withdrawal that is neither by label nor by grantor is by name
pub by_name_else : (q : Request) → withdraws q ≡ true → eqb q.kind REVOKE ≡ false →
    eqb q.kind REVOKEADM ≡ false → is q (REVOKEP ∷ REVOKEN ∷ []) ≡ true
by_name_else q w e f = sym (rw (e, f)) ∙ w

-- ---- the cut of each kind

-- REVOKE
pub label-cut : (q : Request) → is q (REVOKE ∷ []) ≡ true → CutOf q (Label q.label) × CutOrdered (Label q.label)
label-cut q e = (by_label_lem q e, tt)

-- REVOKEADM
pub grantor_cut : (q : Request) → is q (REVOKEADM ∷ []) ≡ true →
    CutOf q (Grantor q.object q.subject) × CutOrdered (Grantor q.object q.subject)
grantor_cut q e = (by_grantor q e, tt)

-- REVOKEP and REVOKEN
pub name_cut : (q : Request) (n : Named) → is q (REVOKEP ∷ REVOKEN ∷ []) ≡ true → n.grantor ≡ q.requester →
    n.subject ≡ q.subject → n.object ≡ q.object → n.mode ≡ q.mode → n.negative ≡ eqb q.kind REVOKEN →
    n.interval ≡ q.interval → CutOf q (Name n)
name_cut q n e g s o m v i = by_name q n e g s o m (v ∙ sym (or_false (eqb q.kind REVOKEN))) i

-- where the interval matters, it is not empty
pub name_ordered : (q : Request) → bad_interval q ≡ false → is q (REVOKEP ∷ REVOKEN ∷ []) ≡ true →
    q.interval.start ≤ q.interval.end
name_ordered q b e = interval_ordered q b (is_kinds q (REVOKEP ∷ REVOKEN ∷ []) interval_kinds refl e)

-- ---- row 13

-- what is taken out leaves no more than there were
fewer : {A : Type 0} (t : Bool) (p : A → Bool) (xs : List A) (n : ℕ) → length xs ≤ n →
    leb (length (pick t (keep_if p xs) xs)) n ≡ true
fewer true p xs n h = le-true (length (keep_if p xs)) n (omega (arith, kept_length p xs))
fewer false p xs n h = le-true (length xs) n h

-- of the counts, only that of the authorizations is in question, and no label is asked for
rows_left : (o a r n u l m : Bool) → o ≡ true → a ≡ true → r ≡ true → u ≡ true → l ≡ false →
    not (o && a && r && n && u) || (l && m) ≡ not n
rows_left o a r true u l m eo ea er eu el = λ i. not (eo i && ea i && er i && true && eu i) || (el i && m)
rows_left o a r false u l m eo ea er eu el = λ i. not (eo i && ea i && er i && false && eu i) || (el i && m)

not-most : (n most : ℕ) → not (leb n most) ≡ ltb most n
not-most n most = cases (leb n most)
    (λ e. rw (e, le-false (suc most) n (omega (arith, true-le n most e))))
    (λ e. rw (e, le-true (suc most) n (false-le n most e)))

-- a withdrawal is refused by row 13 exactly if more authorizations remain than there is room for
pub withdrawal_full : (b : Base) (q : Request) → Sound b → withdraws q ≡ true →
    full plainly b q ≡ ltb most_authorizations (length (effect plainly b q).authorizations)
withdrawal_full b q s w =
    let f = counts_fit_lem b s.counts in
    let after = effect plainly b q in
    rows_left (leb (length after.objects) most_objects)
    (leb (length after.administrators) most_administrators)
    (leb (length after.referrers) most_referrers) (leb (length after.authorizations) most_authorizations)
    (leb (length after.rules) most_rules) (labels q) (leb last_label b.last)
    (rw (is_apart q withdrawal_kinds (NEW ∷ []) refl w)
    (le-true (length b.objects) most_objects f.objects))
    (rw (is_apart q withdrawal_kinds (GRANTADM ∷ []) refl w) (fewer (is q (REVOKEADM ∷ []))
    (λ p. not (is_privilege q.object q.subject p)) b.administrators most_administrators
    f.administrators))
    (rw (
      is_apart q withdrawal_kinds (GRANTREF ∷ []) refl w,
      is_apart q withdrawal_kinds (REVOKEREF ∷ []) refl w,
    )
    (le-true (length b.referrers) most_referrers f.referrers))
    (rw (is_apart q withdrawal_kinds (ADDRULE ∷ []) refl w)
    (fewer (is q (DROPRULE ∷ REVOKEADM ∷ REVOKEREF ∷ []))
    (λ r. not (drops b q r)) b.rules most_rules f.rules))
    (is_apart q withdrawal_kinds label_kinds refl w)
    ∙ not-most (length after.authorizations) most_authorizations
