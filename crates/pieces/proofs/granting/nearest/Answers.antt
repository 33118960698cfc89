use Rattle.std.proofs.Common.{◌≡◌, sym, ap, ◌∙◌, Bool, true, false, ◌&&◌, ℕ, max}
use lib.Dec.{leb, ltb}
use Rattle.foundation.specs.Tests.{pick}
use Rattle.model.specs.declared.Authorization.{Authorization}
use Rattle.cover.specs.declared.Want.{Want}
use Rattle.cover.specs.Cover.{wanted}
use Rattle.pieces.specs.Nearest.{near_of}
use Rattle.pieces.proofs.granting.nearest.Goals as goal

-- what is answered, by what the test says
answer : (w : Want) (a d : ℕ) (x : Authorization) (t : ℕ) (b : Bool) → t ≡ max x.interval.start a →
    leb t x.interval.end && ltb t d && wanted w x.head ≡ b → pick b t d ≡ near_of w a d x
unfolding near_of
answer w a d x t b z e =
    ap (λ (c : Bool). pick c t d) (sym e)
    ∙ ap (λ (u : ℕ). pick (leb u x.interval.end && ltb u d && wanted w x.head) u d) z

pub returns-then-t-i : goal.returns-then-t-i
returns-then-t-i c =
    let a = c.args in
    answer a.w a.a a.d a.x _ true c.max-t.ensures (rw (← c.may_support.ensures) c.if-t-i.true)

pub returns : goal.returns
returns c =
    let a = c.args in
    answer a.w a.a a.d a.x _ false c.max-t.ensures (rw (← c.may_support.ensures) c.if-t-i.false)
