-- Flag bytes built from their bits. Assumes nothing.
use mathlib.Core.Path.{◌≡◌, refl}
use mathlib.Core.Bool.{Bool, true, false}
use Prim.Native.Nat.{◌*◌, ◌%◌}
use mir.Val.{bool_byte}
use lib.Bits.{bit_or}
use Rattle.model.specs.Encoding.{head_flags, option_flags, rule_flags}
use Rattle.model.specs.declared.OptionTerm.{OptionTerm}
use Rattle.model.specs.declared.OptionTerm.TheVariants.{With, Without, Either}

pub head_built : (n o : Bool) → bit_or (bool_byte n) (bool_byte o * 2 % 256) ≡ head_flags n o
head_built true true = refl
head_built true false = refl
head_built false true = refl
head_built false false = refl

pub rule_built : (l r : Bool) (o : OptionTerm) →
    bit_or (bit_or (bool_byte l) (bool_byte r * 2 % 256)) (option_flags o) ≡ rule_flags l r o
rule_built true true With = refl
rule_built true true Without = refl
rule_built true true Either = refl
rule_built true false With = refl
rule_built true false Without = refl
rule_built true false Either = refl
rule_built false true With = refl
rule_built false true Without = refl
rule_built false true Either = refl
rule_built false false With = refl
rule_built false false Without = refl
rule_built false false Either = refl
