use mathlib.Core.Path.{◌∙◌, ap}
use mathlib.Core.List.{List, ◌++◌}
use Prim.Native.Nat.{ℕ, ◌-◌}
use lib.ListN.{take, drop}
use Rattle.fields.proofs.ByteLaws.{gapped-part}
use Rattle.fields.proofs.open_gap.Goals as goal

pub returns : goal.returns
returns c =
    let a = c.args in
    let p = c.requires in
    ap (λ (l : List ℕ). take a.from a.s.now
    ++ (l ++ drop (a.to - a.from) (drop a.from a.s.now))) c.move_up.ensures
    ∙ gapped-part a.s.now a.from a.to a.w p.0 p.1
