-- What feeding is, twice in 01's words: field by field (`feeds-fields`), and as "q's left side can fit r's
-- right" (`feeds-can`). What a link is, likewise: `links-fields` in 02's words, and `links-can`. Circles,
-- forbidden or not, and ranks rest on both.
use Rattle.std.specs.Prelude.{◌≡◌, refl, ◌↔◌, ◌⊎◌, ℕ, Bool, true, false, not, ◌||◌, [], ◌∷◌, eqb}
use Rattle.std.proofs.Common.{sym, ap, ◌∙◌, inl, inr, true≢false}
use Rattle.foundation.specs.Tests.{pick, cases, true_eq, eq_true, not-true, or_cases, or_intro_left}
use Rattle.foundation.specs.Tests.{or_true_right, beq_eq, beq_self}
use Rattle.model.specs.declared.OptionTerm.{OptionTerm}
use Rattle.model.specs.declared.OptionTerm.TheVariants.{With, Without, Either}
use Rattle.model.specs.declared.Rule.{Rule}
use Rattle.model.specs.declared.Access.{Access}
use Rattle.model.specs.Base.{Base, privilege, controls}
use Rattle.model.specs.Stratification.{is_star, meets, fits_option, feeds, links}
use Rattle.model.specs.Rules.{fits_grantor, right_of, stands_for, derives_for, asked}
use Rattle.model.proofs.SideFacts.{feeds_is, stands_is, fit_feeds, feeds_fit, links_is, fit_links}
use Rattle.model.proofs.SideFacts.{links_fit}

-- ---- field by field

-- "equal or starred on either side"; 0 is the star
abbrev pub Meets : ℕ → ℕ → Type 0
Meets a b = (a ≡ 0) ⊎ ((b ≡ 0) ⊎ (a ≡ b))

pub meets_is : (a b : ℕ) → (meets a b ≡ true) ↔ Meets a b
meets_is a b = (to, from)
  where
    to : meets a b ≡ true → Meets a b
    to e = or_cases (is_star a || is_star b) (eqb a b) e
        (λ s. or_cases (is_star a) (is_star b) s (λ x. inl (true_eq a 0 x)) (λ y. inr (inl (true_eq b 0 y))))
        (λ z. inr (inr (true_eq a b z)))

    from : Meets a b → meets a b ≡ true
    from (inl p) = or_intro_left (is_star a || is_star b) (eqb a b)
        (or_intro_left (is_star a) (is_star b) (eq_true a 0 p))
    from (inr (inl p)) = or_intro_left (is_star a || is_star b) (eqb a b)
        (or_true_right (is_star a) (is_star b) (eq_true b 0 p))
    from (inr (inr p)) = or_true_right (is_star a || is_star b) (eqb a b) (eq_true a b p)

-- "A star for granter ... fits any"
pub grantor_is : (wanted g : ℕ) → (fits_grantor wanted g ≡ true) ↔ ((wanted ≡ 0) ⊎ (wanted ≡ g))
grantor_is wanted g = (
  (λ e. or_cases (is_star wanted) (eqb wanted g) e (λ x. inl (true_eq wanted 0 x))
      (λ y. inr (true_eq wanted g y))),
  from,
)
  where
    from : (wanted ≡ 0) ⊎ (wanted ≡ g) → fits_grantor wanted g ≡ true
    from (inl p) = or_intro_left (is_star wanted) (eqb wanted g) (eq_true wanted 0 p)
    from (inr p) = or_true_right (is_star wanted) (eqb wanted g) (eq_true wanted g p)

-- "A star for ... option fits any"; `y` what is transferable, `n` what is not
abbrev pub FitsOption : OptionTerm → Bool → Type 0
FitsOption o has = (o ≡ Either) ⊎ (((o ≡ With) × (has ≡ true)) ⊎ ((o ≡ Without) × (has ≡ false)))

pub option_is : (o : OptionTerm) (has : Bool) → (fits_option o has ≡ true) ↔ FitsOption o has
option_is o has = (to o has, from)
  where
    to : (o : OptionTerm) (has : Bool) → fits_option o has ≡ true → FitsOption o has
    to With has e = inr (inl (refl, e))
    to Without has e = inr (inr (refl, not-true has e))
    to Either has e = inl refl

    from : FitsOption o has → fits_option o has ≡ true
    from (inl p) = ap (λ (x : OptionTerm). fits_option x has) p
    from (inr (inl w)) = ap (λ (x : OptionTerm). fits_option x has) w.0 ∙ w.1
    from (inr (inr w)) = ap (λ (x : OptionTerm). fits_option x has) w.0 ∙ ap not w.1

-- 01: "same sign and object, subject and mode equal or starred on either side, granter starred or q's author,
-- option starred or not transferable"; 02: "A starred object fits any in feeding"
pub record Feeds (q r : Rule) : Type 0 where
  pub sign : q.left.negative ≡ r.right.negative
  pub object : Meets q.left.object r.right.object
  pub subject : Meets q.left.subject r.right.subject
  pub mode : Meets q.left.mode r.right.mode
  pub grantor : (r.grantor ≡ 0) ⊎ (r.grantor ≡ q.author)
  pub option : FitsOption r.option false

pub feeds_fields : (q r : Rule) → (feeds q r ≡ true) ↔ Feeds q r
feeds_fields q r = (
  (λ e. let w = (feeds_is q r).0 e in
      record {
        sign = beq_eq q.left.negative r.right.negative w.0;
        object = (meets_is q.left.object r.right.object).0 w.1;
        subject = (meets_is q.left.subject r.right.subject).0 w.2;
        mode = (meets_is q.left.mode r.right.mode).0 w.3;
        grantor = (grantor_is r.grantor q.author).0 w.4;
        option = (option_is r.option false).0 w.5;
      }),
  (λ w. (feeds_is q r).1 (
    rw w.sign (beq_self r.right.negative),
    (meets_is q.left.object r.right.object).1 w.object,
    (meets_is q.left.subject r.right.subject).1 w.subject,
    (meets_is q.left.mode r.right.mode).1 w.mode,
    (grantor_is r.grantor q.author).1 w.grantor,
    (option_is r.option false).1 w.option,
  )),
)

-- 02: "a rule with a denial on its left also links to every rule whose positive right side has the same
-- object, with subject and mode equal or starred on either side"; "A starred object fits any in feeding and
-- in the links"
pub record Links (q r : Rule) : Type 0 where
  pub denial : q.left.negative ≡ true
  pub positive : r.right.negative ≡ false
  pub object : Meets q.left.object r.right.object
  pub subject : Meets q.left.subject r.right.subject
  pub mode : Meets q.left.mode r.right.mode

pub links_fields : (q r : Rule) → (links q r ≡ true) ↔ Links q r
links_fields q r = (
  (λ e. let w = (links_is q r).0 e in
      record {
        denial = w.0;
        positive = not-true r.right.negative w.1;
        object = (meets_is q.left.object r.right.object).0 w.2;
        subject = (meets_is q.left.subject r.right.subject).0 w.3;
        mode = (meets_is q.left.mode r.right.mode).0 w.4;
      }),
  (λ w. (links_is q r).1 (
    w.denial,
    ap not w.positive,
    (meets_is q.left.object r.right.object).1 w.object,
    (meets_is q.left.subject r.right.subject).1 w.subject,
    (meets_is q.left.mode r.right.mode).1 w.mode,
  )),
)

-- ---- can fit

-- numbers that meet fit: a right side's star stands for the left side's number
meets_fit : (n m : ℕ) → meets n m ≡ true → is_star n || eqb n (pick (is_star m) n m) ≡ true
meets_fit n m e = cases (is_star n)
    (λ a. rw a)
    (λ a. cases (is_star m) (λ b. rw (a, b) (eq_true n n refl)) (λ b. rw (a, b) (rw (a, b) at e)))

-- the access of q's left side, stars and all
leftmost : Rule → Access
leftmost q = record { subject = q.left.subject; mode = q.left.mode; object = q.left.object }

-- the access that r looks for where q's left side is asked about
abbrev sought : Rule → Rule → Access
sought q r = (right_of r (leftmost q)).access

-- a base in which q's author owns that object, and nothing else is
owning : Rule → Rule → Base
owning q r = record {
  clock = 0;
  last = 0;
  objects = privilege (sought q r).object q.author ∷ [];
  administrators = [];
  referrers = [];
  authorizations = [];
  rules = [];
}

owning_controls : (q r : Rule) → controls (owning q r) (sought q r).object q.author ≡ true
unfolding owning
owning_controls q r = rw (
  eq_true (sought q r).object (sought q r).object refl,
  eq_true q.author q.author refl,
)

-- where the numbers of both sides meet, q stands for that access: its author's powers matter only to a star
stands-sought : (b : Base) (q r : Rule) →
    (is_star q.left.object ≡ true → controls b (sought q r).object q.author ≡ true) →
    meets q.left.object r.right.object ≡ true → meets q.left.subject r.right.subject ≡ true →
    meets q.left.mode r.right.mode ≡ true → stands_for b q (sought q r) ≡ true
unfolding right_of leftmost
stands-sought b q r c o u m = (stands_is b q (sought q r)).1 (
  meets_fit q.left.subject r.right.subject u,
  meets_fit q.left.mode r.right.mode m,
  cases (is_star q.left.object)
      (λ a. rw a (c a))
      (λ a. rw a (rw a at (meets_fit q.left.object r.right.object o))),
)

-- 01: "Rule q feeds rule r if q's left side can fit r's right": for some access, in some base; a starred
-- object fits any, so that it is not asked who owns what
pub feeds_can : (q r : Rule) →
    (feeds q r ≡ true) ↔ ((b : Base) × ((x : Access) × (derives_for b (right_of r x) q ≡ true)))
feeds_can q r = (there, (λ c. fit_feeds c.0 q r c.1.0 c.1.1))
  where
    there : feeds q r ≡ true → (b : Base) × ((x : Access) × (derives_for b (right_of r x) q ≡ true))
    there e =
        let w = (feeds_is q r).0 e in
        let s = stands-sought (owning q r) q r (λ a. owning_controls q r) w.1 w.2 w.3 in
        (owning q r, (leftmost q, feeds_fit (owning q r) q r (leftmost q) e s))

-- of a rule that names its object, in every base
pub feeds_can_named : (b : Base) (q r : Rule) → is_star q.left.object ≡ false →
    (feeds q r ≡ true) ↔ ((x : Access) × (derives_for b (right_of r x) q ≡ true))
feeds_can_named b q r n = (there, (λ c. fit_feeds b q r c.0 c.1))
  where
    there : feeds q r ≡ true → (x : Access) × (derives_for b (right_of r x) q ≡ true)
    there e =
        let w = (feeds_is q r).0 e in
        let s = stands-sought b q r (λ a. absurd (true≢false (sym a ∙ n))) w.1 w.2 w.3 in
        (leftmost q, feeds_fit b q r (leftmost q) e s)

-- a link: for some access, in some base, q's left side is a denial of r's right, which is positive
pub links_can : (q r : Rule) → (links q r ≡ true)
    ↔ ((r.right.negative ≡ false)
    × ((b : Base) × ((x : Access) × (derives_for b (asked (right_of r x).access true) q ≡ true))))
links_can q r = (there, (λ c. fit_links c.1.0 q r c.1.1.0 c.0 c.1.1.1))
  where
    there : links q r ≡ true → (r.right.negative ≡ false)
        × ((b : Base) × ((x : Access) × (derives_for b (asked (right_of r x).access true) q ≡ true)))
    there e =
        let w = (links_is q r).0 e in
        let s = stands-sought (owning q r) q r (λ a. owning_controls q r) w.2 w.3 w.4 in
        let f = links_fit (owning q r) q r (leftmost q) e s in
        (not-true r.right.negative w.1, (owning q r, (leftmost q, f)))

-- of a rule that names its object, in every base
pub links_can_named : (b : Base) (q r : Rule) → is_star q.left.object ≡ false → (links q r ≡ true)
    ↔ ((r.right.negative ≡ false)
    × ((x : Access) × (derives_for b (asked (right_of r x).access true) q ≡ true)))
links_can_named b q r n = (there, (λ c. fit_links b q r c.1.0 c.0 c.1.1))
  where
    there : links q r ≡ true → (r.right.negative ≡ false)
        × ((x : Access) × (derives_for b (asked (right_of r x).access true) q ≡ true))
    there e =
        let w = (links_is q r).0 e in
        let s = stands-sought b q r (λ a. absurd (true≢false (sym a ∙ n))) w.2 w.3 w.4 in
        (not-true r.right.negative w.1, (leftmost q, links_fit b q r (leftmost q) e s))
