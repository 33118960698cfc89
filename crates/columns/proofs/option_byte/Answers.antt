use mathlib.Core.Path.{sym, ap}
use mathlib.Core.Bool.{Bool}
use Prim.Native.Nat.{ℕ}
use mathlib.Core.List.{List}
use Rattle.foundation.specs.Tests.{pick}
use Rattle.model.specs.Text.{ascii}
use Rattle.columns.proofs.option_byte.Goals as goal

abbrev shown : Bool → Bool → List ℕ
shown negative option = pick negative (ascii "n") (pick option (ascii "y") (ascii "n"))

pub returns-then-h : goal.returns-then-h
returns-then-h c = sym (ap (λ (b : Bool). shown b c.args.h.option) c.if-h.true)

pub returns-then-h-2 : goal.returns-then-h-2
returns-then-h-2 c = λ k. shown (sym c.if-h.false k) (sym c.if-h-2.true k)

pub returns : goal.returns
returns c = λ k. shown (sym c.if-h.false k) (sym c.if-h-2.false k)
