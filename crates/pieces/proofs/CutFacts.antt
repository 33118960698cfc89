-- What a cut takes out of an authorization is one stretch of instants (`taken_is`).
use mathlib.Core.Path.{◌≡◌}
use Prim.Native.Nat.{ℕ, suc, ◌+◌, ◌≤◌, ◌<◌}
use native.Mathlib.Omega.{arith}
use mathlib.Core.Bool.{Bool, true, false, ◌&&◌}
use lib.Dec.{leb, eqb}
use Rattle.foundation.specs.Tests.{cases, le-true, le-false, true-le, false-le}
use Rattle.foundation.specs.Intervals.{in_interval}
use Rattle.model.specs.declared.Head.{Head}
use Rattle.pieces.specs.declared.cut.Cut.{Cut}
use Rattle.pieces.specs.declared.cut.Cut.TheVariants.{Label, Grantor, Name}
use Rattle.pieces.specs.declared.cut.Named.{Named}
use Rattle.pieces.specs.Stretches.{in_stretch}
use Rattle.pieces.proofs.StretchFacts.{in_stretch_lem}
use Rattle.pieces.specs.Cuts.{cut_names, cut_takes, CutOrdered, behind_all, all_if, taken_of}

-- ---- as a stretch

all_if_lem : (b : Bool) (t : ℕ) → t < behind_all → in_stretch (all_if b).from (all_if b).to t ≡ b
all_if_lem true t h = in_stretch_lem 0 behind_all t (omega arith) h
all_if_lem false t h = rw (le-false behind_all t h)

all_gap : (b : Bool) (e : ℕ) → e ≤ behind_all → (all_if b).to < e → (all_if b).from < (all_if b).to
all_gap true e h k = absurd (omega arith)
all_gap false e h k = absurd (omega arith)

window : (n : Named) (t : ℕ) → in_stretch n.interval.start (n.interval.end + 1) t ≡ in_interval n.interval t
window n t = cases (leb t n.interval.end)
    (λ q. let k = true-le t n.interval.end q in
    rw (q, le-true (suc t) (n.interval.end + 1) (omega arith)))
    (λ q. let k = false-le t n.interval.end q in
    rw (q, le-false (suc t) (n.interval.end + 1) (omega arith)))

-- an instant is taken exactly if it lies in the stretch
pub taken_is : (c : Cut) (h : Head) (t : ℕ) → t < behind_all →
    in_stretch (taken_of c h).from (taken_of c h).to t ≡ cut_takes c h t
taken_is (Label label) h t l = all_if_lem (eqb h.label label) t l
taken_is (Grantor object grantor) h t l = all_if_lem (eqb h.object object && eqb h.grantor grantor) t l
taken_is (Name n) h t l =
    cases (cut_names n h) (λ g. rw g (window n t)) (λ g. rw g (all_if_lem false t l))

-- where an authorization goes on behind the stretch, the stretch is not empty
pub taken-gap : (c : Cut) (h : Head) (e : ℕ) → CutOrdered c → e ≤ behind_all → (taken_of c h).to < e →
    (taken_of c h).from < (taken_of c h).to
taken-gap (Label label) h e o l = all_gap (eqb h.label label) e l
taken-gap (Grantor object grantor) h e o l = all_gap (eqb h.object object && eqb h.grantor grantor) e l
taken-gap (Name n) h e o l =
    cases (cut_names n h) (λ r. rw r (λ k. omega arith)) (λ r. rw r (all_gap false e l))
