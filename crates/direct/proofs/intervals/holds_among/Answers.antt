use native.Mathlib.Omega.{arith}
use lib.ListN.{get_or}
use Rattle.std.proofs.lemmas.List.{get_or-take, length-take-le}
use mathlib.Core.Path.{◌≡◌, ap, ap₂, ◌∙◌}
use mathlib.Core.Bool.{Bool, true, false, not, ◌&&◌}
use Prim.Native.Nat.{ℕ}
use Rattle.direct.specs.Among.{held_among}
use Rattle.relevance.specs.Chosen.{authorization_at, picked}
use Rattle.direct.proofs.Choosing.{found_none, granted_more, denied_more}
use Rattle.direct.proofs.intervals.holds_among.Goals as goal

pub loop-w-init : goal.loop-w-init
loop-w-init c =
    let a = c.args in
    (found_none a.lines.now a.which.now a.t false, found_none a.lines.now a.which.now a.t true)

pub loop-w-preserved : goal.loop-w-preserved
loop-w-preserved c =
    let l = c.loop-w in
    let a = c.args in
    let h = c.has_instant-live in
    let r = c.authorization_at-a in
    let n = length-take-le a.n a.which.now c.requires.room in
    let e : r.result ≡ authorization_at a.lines.now (get_or a.which.now l.w-index 0) =
    r.ensures ∙ ap (authorization_at a.lines.now) (get_or-take a.n a.which.now l.w-index 0 (omega arith)) in (
      granted_more a.lines.now a.which.now a.t l.w-index r.result (omega arith)
          e h.result h.ensures l.granted l.invariant.0,
      denied_more a.lines.now a.which.now a.t l.w-index r.result (omega arith)
          e h.result h.ensures l.denied l.invariant.1,
    )

pub returns : goal.returns
returns c =
    let a = c.args in
    let l = c.loop-w in
    let n = length-take-le a.n a.which.now c.requires.room in
    let z : l.w-index ≡ a.n = omega arith in
    ap₂ (λ (p q : Bool). p && not q) l.invariant.0 l.invariant.1
    ∙ ap (λ (i : ℕ). held_among (picked a.lines.now a.which.now i) a.t) z
