-- Bytes that were printed behind the first n of a buffer, and the steps through a piece one behind the other.
use mathlib.Core.Path.{◌≡◌}
use Prim.Native.Nat.{ℕ, ◌+◌, ◌-◌, ◌≤◌, ◌<◌}
use native.Mathlib.Omega.{arith}
use mathlib.Core.List.{List, ◌++◌, append-nil}
use lib.Dec.{eqb}
use lib.ListN.{length, take, drop}
use lib.Seq.{drop-drop, drop-length, take-add}
use Rattle.foundation.specs.Tests.{cases, true_eq, false_eq}
use Rattle.serving.specs.declared.steps.Stepped.{Stepped}
use Rattle.serving.specs.LineTurns.{LineKept}
use Rattle.serving.specs.Stream.{FedUpTo, feeds-then}
use Rattle.serving.proofs.StreamFacts.{feeds_none}
use Rattle.serving.specs.PieceSteps.{PieceStepped}

-- what the borrow checker says of a buffer whose end came back: it is the end that was lent, behind the same
-- front
pub end_back : (out ys : List ℕ) (n : ℕ) → n ≤ length out →
    take n out ++ (ys ++ drop (length out - n) (drop n out)) ≡ take n out ++ ys
end_back out ys n h =
    let whole : n + (length out - n) ≡ length out = omega arith in
    rw (drop-drop (length out - n) n out, whole, drop-length out, append-nil ys)

-- of the piece all from `from` up to the place that g has come to is fed
pub record PieceFedTo (s pending piece : List ℕ) (from : ℕ) (g : Stepped) (s' line' out : List ℕ) : Type 0
  where
    pub left : List ℕ
    pub kept : LineKept left g.len line'
    pub feeds : FedUpTo s pending (drop from piece) (drop g.at piece) (take g.n out) s' left

module _ {s pending piece : List ℕ} {from : ℕ} where
  pub stands_none : {len : ℕ} {line : List ℕ} (out : List ℕ) → LineKept pending len line →
      PieceFedTo s pending piece from (record { n = 0; len = len; at = from }) s line out
  stands_none out k = record { left = pending; kept = k; feeds = feeds_none s pending (drop from piece) }

  pub stands-then : {g r : Stepped} {s' line' out s'' line'' out' : List ℕ} →
      (a : PieceFedTo s pending piece from g s' line' out) →
      PieceStepped s' a.left piece g.at r s'' line'' (drop g.n out') → take g.n out'
      ≡ take g.n out →
      PieceFedTo s pending piece from (record { n = g.n + r.n; len = r.len; at = r.at }) s'' line'' out'
  stands-then {g} {r} {out' = out'} a k e = record {
    left = k.left;
    kept = k.kept;
    feeds = rw (take-add g.n r.n out', e) (feeds-then a.feeds k.feeds);
  }

-- where something was printed, a line was answered
pub began : (from at n : ℕ) → from ≤ at → (at ≡ from → n ≡ 0) → 0 < n → from < at
began from at n low none h = cases (eqb at from)
    (λ e. absurd (omega (arith, none (true_eq at from e))))
    (λ e. omega (arith, false_eq at from e))
