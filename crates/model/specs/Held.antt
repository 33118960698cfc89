-- What is held, in the papers' words (01, "Rules"; 02, change request 7): an inductive reading of `holds` in
-- Rules, with no rounds and no fuel in it. An inductive type is the smallest set closed under its
-- constructors. THEOREM `held` in HeldFacts: with stratified rules `holds always b t p ≡ true` exactly if
-- `Held b t p`. THEOREM `right-held` there: a right side counts as held exactly if it is held and, unless it
-- is a denial itself, no denial of its access is. THEOREM `may-held` there: MAY says yes exactly if the
-- access is held and its denial is not.
use Rattle.std.specs.Prelude.{◌≡◌, ℕ, zero, suc, ◌≤◌, true, false}
use Rattle.foundation.specs.Lists.{Mem}
use Rattle.foundation.specs.Intervals.{in_interval}
use Rattle.model.specs.declared.Authorization.{Authorization}
use Rattle.model.specs.declared.Rule.{Rule}
use Rattle.model.specs.declared.Operator.{Operator}
use Rattle.model.specs.declared.Operator.TheVariants.{Whenever, AsLongAs, WheneverNot, Unless}
use Rattle.model.specs.Base.{Base}
use Rattle.model.specs.Stratification.{stratum}
use Rattle.model.specs.Rules.{Pattern, fits, derives_for, right_of, asked}

-- 01: "given by a line": an authorization that covers t is what is looked for
pub record ByAuthorization (b : Base) (t : ℕ) (p : Pattern) : Type 0 where
  pub authorization : Authorization
  pub listed : Mem authorization b.authorizations
  pub covers : in_interval authorization.interval t ≡ true
  pub fitting : fits p authorization.head ≡ true

-- 02: "a positive right side counts as held at t ... exactly if it is held and no denial for that subject,
-- object and mode is held at t, whoever gave it. A denial on the right counts as before": the second half.
-- `Lower` is what is held by the ranks below the rule's, which are those of the rules that give such denials
abbrev pub Undenied : (Lower : ℕ → Pattern → Type 0) → ℕ → Pattern → Type 0
Undenied Lower t p = p.negative ≡ false → Lower t (asked p.access true) → ⊥

module _ (b : Base) (k : ℕ) where
  -- 01: "In its interval": r is a rule of rank k with the operator o, its left side is what is looked for,
  -- and its interval has t
  pub record Applies (o : Operator) (r : Rule) (t : ℕ) (p : Pattern) : Type 0 where
    pub listed : Mem r b.rules
    pub rank : stratum b.rules r ≡ k
    pub operator : r.operator ≡ o
    pub left : derives_for b p r ≡ true
    pub inside : in_interval r.interval t ≡ true

  -- 01: "What is held is built rank by rank, each the smallest set closed under its rules": what is held up
  -- to rank k, `Lower` being what is held by the ranks below
  pub data HeldUpTo (Lower : ℕ → Pattern → Type 0) : ℕ → Pattern → Type 0 where
    -- what the ranks below hold stays
    lower : {t : ℕ} {p : Pattern} → Lower t p → HeldUpTo Lower t p
    -- 01: "WHENEVER gives the left side at t if the right is held at t"
    whenever : {t : ℕ} {p : Pattern} (r : Rule) → Applies Whenever r t p →
        HeldUpTo Lower t (right_of r p.access) → Undenied Lower t (right_of r p.access) →
        HeldUpTo Lower t p
    -- 01: "ASLONGAS if held at all instants from the rule's start to t"
    as_long_as : {t : ℕ} {p : Pattern} (r : Rule) → Applies AsLongAs r t p →
        ((u : ℕ) → r.interval.start ≤ u → u ≤ t → HeldUpTo Lower u (right_of r p.access)) →
        ((u : ℕ) → r.interval.start ≤ u → u ≤ t → Undenied Lower u (right_of r p.access)) →
        HeldUpTo Lower t p
    -- 01: "WHENEVERNOT and UNLESS likewise with 'not held'": not held by the ranks below
    whenever_not : {t : ℕ} {p : Pattern} (r : Rule) → Applies WheneverNot r t p →
        (Lower t (right_of r p.access) → Undenied Lower t (right_of r p.access) → ⊥) → HeldUpTo Lower t p
    unless : {t : ℕ} {p : Pattern} (r : Rule) → Applies Unless r t p →
        ((u : ℕ) → r.interval.start ≤ u → u ≤ t → Lower u (right_of r p.access) →
        Undenied Lower u (right_of r p.access) → ⊥) → HeldUpTo Lower t p

-- 01: "Held means given by a line or by a rule, denied or not": what is held by authorizations and by the
-- rules of the ranks below k
abbrev pub HeldBelow : Base → ℕ → ℕ → Pattern → Type 0
HeldBelow b zero t p = ByAuthorization b t p
HeldBelow b (suc k) t p = HeldUpTo b k (HeldBelow b k) t p

-- held by the ranks below some k
abbrev pub Held : Base → ℕ → Pattern → Type 0
Held b t p = (k : ℕ) × HeldBelow b k t p
