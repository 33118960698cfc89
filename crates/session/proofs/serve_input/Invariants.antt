-- All that was read is answered, where every write worked.
use Rattle.std.proofs.Common.{List, length, true, ℕ, ◌-◌, ◌≡◌, ◌≤◌}
use Rattle.model.specs.Soundness.{sound_bytes}
use Rattle.channel.specs.Trace.{Read}
use Rattle.serving.specs.LineTurns.{LineKept}
use Rattle.session.specs.declared.InputState.{InputState}
use Rattle.session.specs.Input.{FrontAnswered}
use Rattle.session.proofs.serve_input.Given as goal

pub record InputLoop (s₀ line₀ : List ℕ) (len : ℕ) (buf₀ out₀ s line buf out : List ℕ)
    (g : InputState) : Type 0
  where
    pub input : List ℕ
    pub read : Read input g.channel
    pub answered : (pending : List ℕ) → LineKept pending len line₀ → FrontAnswered s₀ pending input 0 g s line
    pub sound : sound_bytes s ≡ true
    pub few : g.len ≤ 97
    pub size : length line ≡ 97
    pub room : length out ≡ length out₀
    pub same : length buf ≡ length buf₀

abbrev pub invariant-loop-input : goal.invariant-loop-input
invariant-loop-input g l =
    InputLoop l.initial.s l.initial.line l.len l.initial.buf l.initial.out l.s l.line l.buf l.out l.g

abbrev pub decreases-loop-input : goal.decreases-loop-input
decreases-loop-input g l = 18446744073709551615 - l.g.channel.reads
