-- A word of a list is joined to another (`join-word`), or gets a bit (`put-bit`).
use mathlib.Core.Path.{◌≡◌, sym, ap, ◌∙◌}
use mathlib.Core.Bool.{Bool, ◌&&◌, ◌||◌, and_comm}
use mathlib.Core.List.{List}
use Prim.Native.Nat.{ℕ, ◌*◌, ◌%◌, ◌^◌, ◌<◌}
use lib.Bits.{bit_or}
use lib.Dec.{eqb}
use lib.ListN.{length, get_or, set}
use Rattle.foundation.specs.Tests.{cases, true_eq, or_false}
use Rattle.foundation.specs.BitMasks.{bit}
use Rattle.foundation.specs.BitLaws.{bit_or_lem}
use Rattle.foundation.specs.BytesFacts.{set_word}
use Rattle.words.proofs.FieldLaws.{bit_shifted}
use Rattle.masks.proofs.SingleBits.{one_bit}

-- joining a word to another
pub join-word : (l : List ℕ) (at v w r : ℕ) → at < length l →
    bit r (get_or (set l at (bit_or (get_or l at 0) v)) w 0) ≡ bit r (get_or l w 0) || (eqb w at && bit r v)
join-word l at v w r h = ap (bit r) (set_word l at (bit_or (get_or l at 0) v) h w) ∙ cases (eqb w at)
    (λ q. rw (q, true_eq w at q) (bit_or_lem (get_or l at 0) v r))
    (λ q. rw q (sym (or_false (bit r (get_or l w 0)))))

-- bit i joined to a word
pub put-bit : (l : List ℕ) (at i w r : ℕ) → at < length l → i < 64 →
    bit r (get_or (set l at (bit_or (get_or l at 0) (1 * 2 ^ i % 18446744073709551616))) w 0)
    ≡ bit r (get_or l w 0) || (eqb r i && eqb w at)
put-bit l at i w r h k =
    join-word l at (1 * 2 ^ i % 18446744073709551616) w r h
    ∙ ap (λ (b : Bool). bit r (get_or l w 0) || b)
    (ap (λ (n : ℕ). eqb w at && bit r n) (bit_shifted i k) ∙ ap (λ (b : Bool). eqb w at && b) (one_bit i r)
    ∙ and_comm (eqb w at) (eqb r i))
