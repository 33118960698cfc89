use Rattle.std.proofs.Common.{ap, arith}
use Rattle.std.proofs.lemmas.List.{length-append}
use Rattle.std.specs.Prelude.{◌≡◌, ℕ, ◌<◌, ◌-◌, ◌*◌, ◌%◌, ◌^◌, [], ◌∷◌, ◌++◌, length}
use Rattle.std.specs.Int.Count.{count_leading_zeros}
use Rattle.words.specs.SetBits.{set_bits}
use Rattle.words.proofs.FieldLaws.{bit_shifted}
use Rattle.words.proofs.HighestBit.{Highest, highest, top_set, none_above, without_top}
use Rattle.words.proofs.SetBitFacts.{no_bits_below, bits_last}
use Rattle.words.proofs.bits.SetBitsDoubleEndedIterator.next_back.Goals as goal

at : (m : ℕ) → (m ≡ 0 → ⊥) → m < 18446744073709551616 → Highest m (63 - count_leading_zeros 64 m)
at m h l = highest m (omega arith) l

shifted : (m : ℕ) → (m ≡ 0 → ⊥) → m < 18446744073709551616 →
    1 * 2 ^ (63 - count_leading_zeros 64 m) % 18446744073709551616 ≡ 2 ^ (63 - count_leading_zeros 64 m)
shifted m h l = bit_shifted (63 - count_leading_zeros 64 m) (at m h l).place

last : (m : ℕ) → (m ≡ 0 → ⊥) → m < 18446744073709551616 →
    set_bits m ≡ set_bits (m - 1 * 2 ^ (63 - count_leading_zeros 64 m) % 18446744073709551616)
    ++ (63 - count_leading_zeros 64 m) ∷ []
last m h l =
    let k : ℕ = 63 - count_leading_zeros 64 m in
    let t = at m h l in
    rw (shifted m h l)
    (bits_last 64 k m (m - 2 ^ k) t.place (none_above m k t) (top_set m k t) (without_top m k t))

pub returns-then-self-eq0-clause-steps : goal.returns-then-self-eq0-clause-steps
returns-then-self-eq0-clause-steps c =
    let e = no_bits_below 64 c.args.self.now.left c.if-self-eq0.true in (e, e)

pub overflow_sub-self : goal.overflow_sub-self
overflow_sub-self c =
    let m = c.args.self.now.left in
    omega (arith, shifted m c.if-self-eq0.false (omega arith), (at m c.if-self-eq0.false (omega arith)).from)

pub returns-clause-steps : goal.returns-clause-steps
returns-clause-steps c = last c.args.self.now.left c.if-self-eq0.false (omega arith)

pub returns-clause-goes : goal.returns-clause-goes
returns-clause-goes c =
    let m = c.args.self.now.left in
    let k : ℕ = 63 - count_leading_zeros 64 m in
    let e = ap length (last m c.if-self-eq0.false (omega arith)) in
    let l = length-append (set_bits (m - 1 * 2 ^ k % 18446744073709551616)) (k ∷ []) in
    record { on = λ _. (tt, tt, omega arith); keeps = tt; rests = λ _. tt }
