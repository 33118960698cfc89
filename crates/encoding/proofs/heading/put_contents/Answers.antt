use native.Mathlib.Omega.{arith}
use mathlib.Core.Path.{refl}
use Prim.Native.Nat.{◌+◌, ◌≤◌}
use lib.ListN.{length}
use Rattle.fields.proofs.ByteLaws.{splice-then}
use Rattle.encoding.proofs.Contents.{CountsWithin, fit_within}
use Rattle.encoding.proofs.heading.put_contents.Goals as goal

pub overflow_cast-administrators_at : goal.overflow_cast-administrators_at
overflow_cast-administrators_at c =
    let within : CountsWithin c.args.c = fit_within c.args.c c.requires.1 in
    let m = within in omega arith

pub overflow_cast-referrers_at : goal.overflow_cast-referrers_at
overflow_cast-referrers_at c =
    let within : CountsWithin c.args.c = fit_within c.args.c c.requires.1 in
    let m = within in omega arith

pub overflow_cast-authorizations_at : goal.overflow_cast-authorizations_at
overflow_cast-authorizations_at c =
    let within : CountsWithin c.args.c = fit_within c.args.c c.requires.1 in
    let m = within in omega arith

pub overflow_cast-rules_at : goal.overflow_cast-rules_at
overflow_cast-rules_at c =
    let within : CountsWithin c.args.c = fit_within c.args.c c.requires.1 in
    let m = within in omega arith

pub returns : goal.returns
returns c =
    let c₅ = c in
    let c₄ = c₅ in
    let c₃ = c₄ in
    let c₂ = c₃ in
    let c₁ = c₂ in
    let c₀ = c₅ in
    let at = c₀.args.at in
    let s = c₀.args.s.now in
    let p : at + 20 ≤ length s = c₀.requires.0 in
    let e₂ = splice-then at 4 _ _ s (omega arith) refl c₁.put_pair.ensures
    (rw c₂.administrators_at.ensures at c₂.put_pair-2.ensures) in
    let e₃ = splice-then at 8 _ _ s (omega arith) refl e₂
    (rw c₃.referrers_at.ensures at c₃.put_pair-3.ensures) in
    let e₄ = splice-then at 12 _ _ s (omega arith) refl e₃
    (rw c₄.authorizations_at.ensures at c₄.put_pair-4.ensures) in
    splice-then at 16 _ _ s (omega arith) refl e₄
    (rw c₅.rules_at.ensures at c₅.put_pair-5.ensures)
