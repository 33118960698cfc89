-- Of the piece all before the place `at` is answered.
use Rattle.std.proofs.Common.{List, drop, length, true, ℕ, ◌-◌, ◌≡◌, ◌≤◌}
use Rattle.model.specs.Soundness.{sound_bytes}
use Rattle.channel.specs.Trace.{Unread}
use Rattle.serving.specs.LineTurns.{LineKept}
use Rattle.session.specs.declared.InputState.{InputState}
use Rattle.session.specs.Input.{AnsweredUpTo}
use Rattle.session.proofs.serve_piece.Given as goal

pub record PieceLoop (s₀ line₀ piece out₀ : List ℕ) (from : InputState) (s line out : List ℕ) (g : InputState)
    (at : ℕ) : Type 0 where
  pub answers : (pending : List ℕ) → LineKept pending from.len line₀ →
      AnsweredUpTo s₀ pending piece (drop at piece) from.channel.sent g.len g.channel.sent s line
  pub unread : Unread from.channel g.channel
  pub sound : sound_bytes s ≡ true
  pub few : g.len ≤ 97
  pub size : length line ≡ 97
  pub room : length out ≡ length out₀
  pub within : at ≤ length piece

abbrev pub invariant-loop-at : goal.invariant-loop-at
invariant-loop-at g l =
    PieceLoop l.initial.s l.initial.line l.piece l.initial.out l.fn.from l.s l.line l.out l.g l.at

abbrev pub decreases-loop-at : goal.decreases-loop-at
decreases-loop-at g l = length l.piece - l.at
