use mathlib.Core.Path.{sym, ap}
use mathlib.Core.Bool.{Bool}
use Rattle.foundation.specs.Tests.{pick}
use Rattle.model.specs.Text.{ascii}
use Rattle.columns.proofs.sign_byte.Goals as goal

pub returns-then-h : goal.returns-then-h
returns-then-h c = sym (ap (λ (b : Bool). pick b (ascii "-") (ascii "+")) c.if-h.true)

pub returns : goal.returns
returns c = sym (ap (λ (b : Bool). pick b (ascii "-") (ascii "+")) c.if-h.false)
