use native.Mathlib.Omega.{arith}
use mathlib.Core.Path.{◌≡◌, sym, ap, ◌∙◌}
use mathlib.Core.Bool.{true, false}
use Prim.Native.Nat.{ℕ, ◌+◌}
use lib.Dec.{eqb}
use lib.ListN.{length}
use Rattle.words.specs.Fields.{field_of}
use Rattle.model.specs.Stratification.{lasting}
use Rattle.grounding.proofs.StepBits.{bit-number, bit-room}
use Rattle.grounding.proofs.pairs.is_broken.Goals as goal

pub returns-then-not-is_lasting : goal.returns-then-not-is_lasting
returns-then-not-is_lasting c =
    let b = c.is_lasting in
    let e : lasting c.args.t.operator ≡ false =
    sym b.ensures ∙ c.if-not-is_lasting.true in
    rw e

pub overflow_cast-t : goal.overflow_cast-t
overflow_cast-t c =
    let lasts : c.is_lasting.result ≡ true → lasting c.args.t.operator ≡ true = λ e. sym c.is_lasting.ensures ∙ e in
    let d = c in
    omega (arith, d.requires.number (lasts d.if-not-is_lasting.false))

pub overflow_add-t : goal.overflow_add-t
overflow_add-t c =
    let lasts : c.is_lasting.result ≡ true → lasting c.args.t.operator ≡ true = λ e. sym c.is_lasting.ensures ∙ e in
    let d = c in
    let s = d in
    let a = s.args in
    omega (
      arith,
      c.index_in.ensures,
      bit-number a.t a.g (length a.bits.now) a.p s.requires (lasts d.if-not-is_lasting.false),
    )

pub field_at-requires : goal.field_at-requires
field_at-requires c =
    let lasts : c.is_lasting.result ≡ true → lasting c.args.t.operator ≡ true = λ e. sym c.is_lasting.ensures ∙ e in
    let d = c in
    let s = d in
    let a = s.args in (
      omega arith,
      omega (
        arith,
        c.index_in.ensures,
        bit-room a.t a.g (length a.bits.now) a.p s.requires (lasts d.if-not-is_lasting.false),
      ),
    )

pub returns : goal.returns
returns c =
    let lasts : c.is_lasting.result ≡ true → lasting c.args.t.operator ≡ true = λ e. sym c.is_lasting.ensures ∙ e in
    let d = c in
    let a = d.args in
    rw (lasts d.if-not-is_lasting.false) (ap (λ (n : ℕ). eqb n 1) (c.field_at.ensures
    ∙ ap (λ (i : ℕ). field_of 0 a.bits.now (a.t.bits + i)) c.index_in.ensures))
