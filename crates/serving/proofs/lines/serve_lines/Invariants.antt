use mathlib.Core.Path.{◌≡◌}
use mathlib.Core.Bool.{true}
use mathlib.Core.List.{List}
use Prim.Native.Nat.{ℕ, ◌-◌, ◌≤◌}
use lib.ListN.{length}
use Rattle.model.specs.Soundness.{sound_bytes}
use Rattle.serving.specs.declared.steps.Stepped.{Stepped}
use Rattle.serving.specs.LineTurns.{LineKept}
use Rattle.serving.proofs.Behind.{PieceFedTo}
use Rattle.serving.proofs.lines.serve_lines.Given as goal

pub record LinesLoop (s₀ line₀ : List ℕ) (len : ℕ) (piece : List ℕ) (from : ℕ) (out₀ s line out : List ℕ)
    (g : Stepped) : Type 0 where
  pub stands : (pending : List ℕ) → LineKept pending len line₀ → PieceFedTo s₀ pending piece from g s line out
  pub sound : sound_bytes s ≡ true
  pub few : g.len ≤ 97
  pub size : length line ≡ 97
  pub room : length out ≡ length out₀
  pub fits : g.n ≤ length out
  pub low : from ≤ g.at
  pub within : g.at ≤ length piece
  pub none : g.at ≡ from → g.n ≡ 0

abbrev pub invariant-loop-g : goal.invariant-loop-g
invariant-loop-g l = LinesLoop l.initial.s l.initial.line l.len l.piece l.from l.initial.out l.s l.line l.out l.g

abbrev pub decreases-loop-g : goal.decreases-loop-g
decreases-loop-g l = length l.piece - l.g.at
