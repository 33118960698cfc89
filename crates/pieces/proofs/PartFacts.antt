-- What a cut leaves of one authorization is its two parts around what is taken (`parts-left`), and a part is
-- found piece by piece (`pieces-next`, `pieces_end`).
use mathlib.Core.Path.{◌≡◌, refl, sym, ap, ◌∙◌, fun_ext, subst}
use Prim.Native.Nat.{ℕ, ◌+◌, ◌-◌, ◌≤◌, ◌<◌, min, max}
use native.Mathlib.Omega.{arith}
use mathlib.Core.Bool.{Bool, true, false, not, ◌&&◌, ◌||◌}
use mathlib.Core.List.{List, [], ◌∷◌, map-append}
use Rattle.foundation.specs.Tests.{cases, and-false}
use Rattle.foundation.specs.declared.Interval.{Interval}
use Rattle.foundation.specs.Intervals.{interval, in_interval, maximal}
use Rattle.model.specs.declared.Head.{Head}
use Rattle.model.specs.declared.Authorization.{Authorization}
use Rattle.model.specs.Withdrawal.{authorization, pieces}
use Rattle.cover.specs.declared.Want.{Want}
use Rattle.cover.specs.First.{first}
use Rattle.cover.proofs.FirstFacts.{First, first_of}
use Rattle.cover.specs.Cover.{want_of, head_for, wanted, covered_by}
use Rattle.foundation.specs.Lists.{placed}
use Rattle.pieces.specs.declared.cut.Cut.{Cut}
use Rattle.pieces.specs.Stretches.{in_stretch, maximal_to}
use Rattle.pieces.proofs.StretchFacts.{to_same, to_next, to_none, to_past, on_off, to-parts}
use Rattle.pieces.proofs.StretchFacts.{interval-to}
use Rattle.model.proofs.SupportChains.{supports-rises}
use Rattle.pieces.specs.Cuts.{cut_takes, CutOrdered, behind_all, taken_of}
use Rattle.pieces.proofs.CutFacts.{taken_is, taken-gap}
use Rattle.pieces.proofs.BodyFacts.{covered-placed}
use Rattle.pieces.specs.CutParts.{may_grant, pieces_to, parts_of}

-- that is what the cut leaves
pub parts_left : (c : Cut) (root : Bool) (ys : List Authorization) (x : Authorization) → CutOrdered c →
    x.interval.end < behind_all →
    parts_of (taken_of c x.head) root ys x
    ≡ pieces x.head (maximal x.interval.start x.interval.end
    (λ t. not (cut_takes c x.head t) && may_grant root (want_of x.head) ys t))
unfolding parts_of pieces_to
parts_left c root ys x o l =
    let s = x.interval.start in
    let e = x.interval.end + 1 in
    let f = may_grant root (want_of x.head) ys in
    let t = taken_of c x.head in
    sym (map-append (authorization x.head) (maximal_to s (min e t.from) f)
    (maximal_to (max s t.to) e f))
    ∙ ap (pieces x.head)
    (to-parts s e t.from t.to f (taken-gap c x.head e o (omega arith))
    ∙ to_same s e (λ u. not (in_stretch t.from t.to u) && f u) (λ u. not (cut_takes c x.head u) && f u)
    (λ u p q. ap (λ (b : Bool). not b && f u) (taken_is c x.head u (omega arith)))
    ∙ sym (interval-to s x.interval.end (λ u. not (cut_takes c x.head u) && f u)))

-- ---- one part, piece by piece

-- only what was granted before is wanted
pub wanted-before : (w : Want) (k : Head) → wanted w k ≡ true → k.granted < w.before
unfolding wanted
wanted-before w k e = supports-rises k (head_for w) e

-- pieces of an authorization are granted too late to support it
late_wanted : (w : Want) (h : Head) → w.before ≤ h.granted → wanted w h ≡ false
late_wanted w h l = cases (wanted w h) (λ e. absurd (omega (arith, wanted-before w h e))) (λ e. e)

late_pieces : (w : Want) (h : Head) (is : List Interval) (t : ℕ) → w.before ≤ h.granted →
    covered_by w (pieces h is) t ≡ false
late_pieces w h [] t l = refl
late_pieces w h (i ∷ is) t l = rw (late_wanted w h l, and-false (in_interval i t), late_pieces w h is t l)

-- so they may be placed, and cover nothing more for it
pub covered-pieces : (w : Want) (p : ℕ) (h : Head) (is : List Interval) (ys : List Authorization) (t : ℕ) →
    w.before ≤ h.granted → covered_by w (placed p (pieces h is) ys) t ≡ covered_by w ys t
covered-pieces w p h is ys t l = covered-placed w p (pieces h is) ys t ∙ rw (late_pieces w h is t l)

pub pieces_same : (root : Bool) (ys zs : List Authorization) (h : Head) (a b : ℕ) →
    ((t : ℕ) → covered_by (want_of h) zs t ≡ covered_by (want_of h) ys t) →
    pieces_to root zs h a b ≡ pieces_to root ys h a b
unfolding pieces_to
pieces_same root ys zs h a b s =
    ap (λ (f : ℕ → Bool). pieces h (maximal_to a b (λ t. root || f t))) (fun_ext s)

pub pieces_past : (root : Bool) (ys : List Authorization) (h : Head) (a b : ℕ) → b ≤ a →
    pieces_to root ys h a b ≡ []
unfolding pieces_to
pieces_past root ys h a b l = ap (pieces h) (to_past a b (may_grant root (want_of h) ys) l)

-- the search from t found `on`, in a body zs that covers what ys does
module _ (root : Bool) (ys zs : List Authorization) (h : Head) (t b on : ℕ)
    (same : (u : ℕ) → covered_by (want_of h) zs u ≡ covered_by (want_of h) ys u) (l : t ≤ b)
    (e : on ≡ first (may_grant root (want_of h) zs) t b) where
  grants : may_grant root (want_of h) zs ≡ may_grant root (want_of h) ys
  grants = fun_ext (λ u. ap (λ (x : Bool). root || x) (same u))

  on_first : First (may_grant root (want_of h) ys) t b on
  on_first = subst (λ (f : ℕ → Bool). First f t b on) grants
      (subst (λ (n : ℕ). First (may_grant root (want_of h) zs) t b n) (sym e)
      (first_of (may_grant root (want_of h) zs) t b l))

  pub pieces_end : b ≤ on → pieces_to root ys h t b ≡ []
  unfolding pieces_to
  pieces_end k = ap (pieces h) (to_none t b (may_grant root (want_of h) ys) l
      (rw (ap (λ (f : ℕ → Bool). first f t b) (sym grants) ∙ sym e) k))

  -- and that from there `off`
  module _ (off : ℕ) (k : on < b) (g : off ≡ first (λ u. not (may_grant root (want_of h) zs u)) on b) where
    off_first : First (λ u. not (may_grant root (want_of h) ys u)) on b off
    off_first = subst (λ (f : ℕ → Bool). First (λ u. not (f u)) on b off) grants
        (subst (λ (n : ℕ). First (λ u. not (may_grant root (want_of h) zs u)) on b n) (sym g)
        (first_of (λ u. not (may_grant root (want_of h) zs u)) on b (omega arith)))

    pub pieces_next : pieces_to root ys h t b ≡ authorization h (interval on (off - 1))
        ∷ pieces_to root ys h off b
    unfolding pieces_to
    pieces_next = ap (pieces h) (to_next t b (may_grant root (want_of h) ys) on off on_first k off_first)

    pub pieces_off : (t ≤ on) × (on < off) × (off ≤ b)
    pieces_off =
        (on_first.low, on_off t b (may_grant root (want_of h) ys) on off on_first k off_first, off_first.high)
