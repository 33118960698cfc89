-- Flags and operators as numbers: read back as they were written, and how large they are. How they stand in a
-- byte is known to these laws alone.
use Rattle.std.specs.Prelude.{◌≡◌, refl, ◌≤◌, Bool, true, false}
use Rattle.std.proofs.Common.{arith}
use Rattle.foundation.specs.BitMasks.{bit_le}
use Rattle.model.specs.declared.Operator.{Operator}
use Rattle.model.specs.declared.Operator.TheVariants.{Whenever, AsLongAs, WheneverNot, Unless}
use Rattle.model.specs.declared.OptionTerm.{OptionTerm}
use Rattle.model.specs.declared.OptionTerm.TheVariants.{With, Without, Either}
use Rattle.model.specs.Requests.{operator_of}
use Rattle.model.specs.Encoding.{bit, head_flags, is_negative, has_option, option_flags, option_of}
use Rattle.model.specs.Encoding.{rule_flags}
use Rattle.model.specs.Encoding.{operator_number}

pub head_flags-back : (negative option : Bool) →
    (is_negative (head_flags negative option) ≡ negative) × (has_option (head_flags negative option) ≡ option)
head_flags-back true true = (refl, refl)
head_flags-back true false = (refl, refl)
head_flags-back false true = (refl, refl)
head_flags-back false false = (refl, refl)

pub rule_flags-back : (left right : Bool) (option : OptionTerm) →
    (bit 0 (rule_flags left right option) ≡ left) × (bit 1 (rule_flags left right option) ≡ right)
    × (option_of (rule_flags left right option) ≡ option)
rule_flags-back true true With = (refl, refl, refl)
rule_flags-back true true Without = (refl, refl, refl)
rule_flags-back true true Either = (refl, refl, refl)
rule_flags-back true false With = (refl, refl, refl)
rule_flags-back true false Without = (refl, refl, refl)
rule_flags-back true false Either = (refl, refl, refl)
rule_flags-back false true With = (refl, refl, refl)
rule_flags-back false true Without = (refl, refl, refl)
rule_flags-back false true Either = (refl, refl, refl)
rule_flags-back false false With = (refl, refl, refl)
rule_flags-back false false Without = (refl, refl, refl)
rule_flags-back false false Either = (refl, refl, refl)

pub operator-back : (o : Operator) → operator_of (operator_number o) ≡ o
operator-back Whenever = refl
operator-back AsLongAs = refl
operator-back WheneverNot = refl
operator-back Unless = refl

option_flags_lem : (o : OptionTerm) → option_flags o ≤ 8
option_flags_lem With = omega arith
option_flags_lem Without = omega arith
option_flags_lem Either = omega arith

pub head_flags-most : (negative option : Bool) → head_flags negative option ≤ 3
head_flags-most n o = omega (arith, bit_le n, bit_le o)

pub rule_flags-most : (left right : Bool) (option : OptionTerm) → rule_flags left right option ≤ 11
rule_flags-most l r o = omega (arith, bit_le l, bit_le r, option_flags_lem o)

pub operator-most : (o : Operator) → operator_number o ≤ 4
operator-most Whenever = omega arith
operator-most AsLongAs = omega arith
operator-most WheneverNot = omega arith
operator-most Unless = omega arith
