-- Which authorizations cover an instant, and whether one is supported there, changes at their boundaries
-- only.
use Rattle.std.specs.Prelude.{refl, suc, Bool, true, not, ◌&&◌, List, [], ◌∷◌, leb, ltb}
use Rattle.std.proofs.Common.{ap}
use Rattle.foundation.specs.Tests.{and-true}
use Rattle.foundation.specs.declared.Interval.{Interval}
use Rattle.foundation.specs.Intervals.{in_interval}
use Rattle.foundation.specs.Marks.{clear, Steady, clear_both, in_interval-clear}
use Rattle.model.specs.declared.Head.{Head}
use Rattle.model.specs.declared.Authorization.{Authorization}
use Rattle.model.specs.Support.{supported, live}
use Rattle.model.specs.Means.{boundaries, marks_of}

-- what lies in an interval changes at its boundaries only
pub interval_steady : (i : Interval) → Steady (λ t. in_interval i t) (boundaries i)
interval_steady i a t h e =
    let p = and-true (not (ltb a i.start && leb i.start t)) (clear (suc i.end ∷ []) a t) e in
    let q = and-true (not (ltb a (suc i.end) && leb (suc i.end) t)) true p.1 in
    in_interval-clear i a t h p.0 q.0

pub live_steady : (xs : List Authorization) → Steady (λ t. live t xs) (marks_of xs)
live_steady [] a t h e = refl
live_steady (x ∷ xs) a t h e =
    let p = clear_both (boundaries x.interval) (marks_of xs) a t e in
    rw (interval_steady x.interval a t h p.0, live_steady xs a t h p.1)

pub supported_steady : (root : Head → Bool) (xs : List Authorization) (k : Head) →
    Steady (λ t. supported root (live t xs) k) (marks_of xs)
supported_steady root xs k a t h e = ap (λ (hs : List Head). supported root hs k) (live_steady xs a t h e)
