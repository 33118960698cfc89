use mathlib.Core.Path.{◌≡◌}
use mathlib.Core.List.{List}
use Prim.Native.Nat.{ℕ, ◌-◌}
use lib.ListN.{length}
use Rattle.model.specs.declared.Access.{Access}
use Rattle.model.specs.Base.{Base}
use Rattle.sections.specs.Sections.{which_of}
use Rattle.grounding.specs.RuleTurns.{fields_in, bits_in}
use Rattle.engine.specs.declared.WindowWalk.{WindowWalk}
use Rattle.engine.specs.Going.{Start, GoingIn, WalksIn}
use Rattle.engine.proofs.Onward.{start_of}
use Rattle.engine.proofs.walking.walk_windows.Given as goal

-- what the walk started with
abbrev pub begin : Base → Access → WindowWalk → (need numbers work list : List ℕ) → Start
begin base x w need numbers work list =
    start_of base x (which_of (length need) numbers) (fields_in w.frame work) (bits_in w.frame work) list

abbrev pub invariant-loop-s : goal.invariant-loop-s
invariant-loop-s l =
    ((base : Base) (x : Access) → WalksIn l.records l.initial.outline l.coordinates l.need l.initial.numbers l.initial.work l.w base x →
    GoingIn l.records l.outline l.coordinates l.need l.numbers l.work l.w l.list (begin base x l.w l.need l.initial.numbers l.initial.work l.initial.list) l.s)
    × (length l.outline ≡ length l.initial.outline) × (length l.numbers ≡ length l.initial.numbers) × (length l.work ≡ length l.initial.work)
    × (length l.list ≡ length l.initial.list)

abbrev pub decreases-loop-s : goal.decreases-loop-s
decreases-loop-s l = 4294967296 - l.s.next
