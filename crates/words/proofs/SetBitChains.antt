-- Chains over the set bits of a mask: what a closure may be asked (`serves_bits`), what `find` finds
-- (`first_of_bits`) and what `any` says (`none_of_bits`). The calls leave the closure as it was.
use Rattle.std.specs.Prelude.{◌≡◌, Bool, true, false, List, [], ◌∷◌, ◌++◌, ℕ, suc, ◌<◌, eqb, ltb, MatchOption}
use Rattle.std.proofs.Common.{sym, ◌∙◌, subst, Option, None, Some, Bor}
use Rattle.std.proofs.lemmas.Bool.{false≢true}
use denote.Param.Members.{Mut}
use Rattle.std.specs.List.{FoldsTo}
use Rattle.std.specs.Fn.{Called, CalledAt}
use Rattle.std.specs.Iterator.{YieldsFirst, CallableAtEachTurn, FindsItem, ChecksAny}
use Rattle.foundation.specs.BitMasks.{bit}
use Rattle.foundation.specs.Tests.{or_cases, true_eq}
use Rattle.words.specs.declared.bits.SetBits.{SetBits}
use Rattle.words.specs.SetBits.{bits_left, among}
use Rattle.words.proofs.SetBitLoops.{turn, finished, among_all}

same : {P : Type 0} (R : P → ℕ → P → Type 0) {p : P} → ((x : ℕ) (q : P) → R p x q → q ≡ p) →
    (xs : List ℕ) (q : P) → FoldsTo R p xs q → q ≡ p
same R stays [] q c = sym c
same R stays (x ∷ xs) q c = same R stays xs q (subst (λ k. FoldsTo R k xs q) (stays x c.0 c.1) c.2)

pub serves_bits : {P : Type 0} {R : P → ℕ → P → Type 0} {Q : P → ℕ → Type 0} {s : SetBits} {p : P} {m : ℕ} →
    s.left ≡ m → ((x : ℕ) (q : P) → R p x q → q ≡ p) → ((r : ℕ) → r < 64 → bit r m ≡ true → Q p r) →
    CallableAtEachTurn (YieldsFirst bits_left) R Q s p
serves_bits {R} {Q} e stays f = record {
  at = λ xs t q x u y c n.
      let w = turn t e y n in subst (λ k. Q k x) (sym (same R stays xs q c)) (f x w.low w.own);
}

-- calls that leave the closure as it was, and say No of each item
none : {F : Type 0} (R : F → ℕ → F → Type 0) (No : ℕ → Type 0) {f : F} →
    ((x : ℕ) (q : F) → R f x q → (q ≡ f) × No x) → (xs : List ℕ) (q : F) → FoldsTo R f xs q →
    (i : ℕ) → among i xs ≡ true → No i
none R No misses [] q c i e = absurd (false≢true e)
none R No misses (x ∷ xs) q c i e =
    let w = misses x c.0 c.1 in
    or_cases (eqb i x) (among i xs) e
    (λ y. subst No (sym (true_eq i x y)) w.1)
    (λ y. none R No misses xs q (subst (λ k. FoldsTo R k xs q) w.0 c.2) i y)

-- `find`: none of the bits is so, or the one that was found is
pub first_of_bits : {F : Type 0} {g : Mut F (Bor ℕ × Unit {0}) Bool} {f : F} (Yes No : ℕ → Type 0) →
    ((x : ℕ) (q : F) → CalledAt g f x true q → Yes x) →
    ((x : ℕ) (q : F) → CalledAt g f x false q → (q ≡ f) × No x) →
    {s : SetBits} (u : SetBits) {m : ℕ} → s.left ≡ m → m < 18446744073709551616 → (r : Option ℕ) →
    FindsItem (YieldsFirst bits_left) g s f r u →
    MatchOption r ((i : ℕ) → bit i m ≡ true → No i) (λ d. (bit d m ≡ true) × Yes d)
first_of_bits {g} Yes No tells misses u {m} e h None w = λ i b.
    none (λ p x q. CalledAt g p x false q) No misses w.0 w.1 w.3 i
    (among_all i m w.0 h (finished w.2.0 e w.2.1 w.2.2) ∙ b)
first_of_bits {g} Yes No tells misses u {m} e h (Some d) w = (
  (turn w.2.0 e w.2.1 w.2.2).own,
  tells d w.4.0 (subst (λ k. CalledAt g k d true w.4.0)
      (same (λ p x q. CalledAt g p x false q) (λ x q k. (misses x q k).0) w.0 w.1 w.3) w.4.1),
)

-- `any`: where it is false, none of the bits is so
pub none_of_bits : {F : Type 0} {g : Mut F (ℕ × Unit {0}) Bool} {f : F} (No : ℕ → Type 0) →
    ((x : ℕ) (q : F) → Called g f (x, tt) false q → (q ≡ f) × No x) →
    {s : SetBits} (u : SetBits) {m : ℕ} → s.left ≡ m → m < 18446744073709551616 → (r : Bool) →
    ChecksAny (YieldsFirst bits_left) g s f r u → r ≡ false → (i : ℕ) → bit i m ≡ true → No i
none_of_bits {F} {g} {f} No misses {s} u {m} e h r w z i b = ends w.1 w.3.2 w.5
  where
    ends : (o : Option ℕ) → YieldsFirst bits_left w.3.0 o u →
        MatchOption o (r ≡ false) (λ x. (r ≡ true) × ((q : F) × Called g w.2 (x, tt) true q)) → No i
    ends None y t =
        none (λ p x q. Called g p (x, tt) false q) No misses w.0 w.2 w.4 i
        (among_all i m w.0 h (finished w.3.0 e w.3.1 y) ∙ b)
    ends (Some x) y t = absurd (false≢true (sym z ∙ t.0))
