use mathlib.Core.Path.{◌≡◌, sym, ap, ◌∙◌}
use Prim.Native.Nat.{ℕ, ◌+◌, ◌*◌, ◌/◌}
use lib.ListN.{get_or}
use Rattle.foundation.specs.Tests.{eq_true, ne_false}
use Rattle.outlines.specs.Feed.{linkers_word}
use Rattle.outlines.proofs.feed.linkers.Goals as goal

pub returns-then-from-eq0 : goal.returns-then-from-eq0
unfolding linkers_word
returns-then-from-eq0 c =
    let a = c.args in
    let s : get_or a.sides.now (4 * a.i + 3) 0 / 2 ≡ 0 =
    ap (λ (k : ℕ). k / 2) (sym c.from.ensures) ∙ c.if-from-eq0.true in
    rw (eq_true (get_or a.sides.now (4 * a.i + 3) 0 / 2) 0 s) c.meeting.ensures

pub returns : goal.returns
unfolding linkers_word
returns c =
    let a = c.args in
    rw (ne_false (get_or a.sides.now (4 * a.i + 3) 0 / 2) 0
    (λ z. c.if-from-eq0.false (ap (λ (k : ℕ). k / 2) c.from.ensures ∙ z)))
