-- What is looked for and what is given: the laws of `fits`, `stands_for`, `derives_for`, `right_of`, `feeds` and
-- `links`. The equation of each says all of it (`fits-eq`, `right-eq` and so on). Outside `model` and `laws`
-- the six are used through these laws, and opened only to compute cases.
use Rattle.std.specs.Prelude.{◌≡◌, refl, ◌↔◌, ℕ, Bool, true, false, not, ◌&&◌, ◌||◌, eqb}
use Rattle.std.proofs.Common.{sym, ap, ◌∙◌, true≢false}
use Rattle.std.specs.Bool.{beq}
use Rattle.foundation.specs.Tests.{pick, cases, not-true, beq_eq, and_three, and-four, and_six}
use Rattle.model.specs.declared.Head.{Head}
use Rattle.model.specs.declared.Rule.{Rule}
use Rattle.model.specs.declared.Access.{Access}
use Rattle.model.specs.Base.{Base, controls}
use Rattle.model.specs.Stratification.{is_star, meets, fits_option, feeds, links}
use Rattle.model.specs.Rules.{Pattern, fits, fits_grantor, stands_on, stands_for, derives_for, right_of}
use Rattle.model.specs.Rules.{asked}

-- what is looked for has that access, that sign, and a grantor and an option that fit
pub fits_eq : (p : Pattern) (h : Head) → fits p h
    ≡ eqb h.subject p.access.subject
    && eqb h.mode p.access.mode
    && eqb h.object p.access.object
    && beq h.negative p.negative
    && fits_grantor p.grantor h.grantor
    && fits_option p.option h.option
unfolding fits
fits_eq p h = refl

-- an authorization with the head h is what is looked for
pub fits_is : (p : Pattern) (h : Head) → (fits p h ≡ true)
    ↔ ((eqb h.subject p.access.subject ≡ true)
    × (eqb h.mode p.access.mode ≡ true)
    × (eqb h.object p.access.object ≡ true)
    × (beq h.negative p.negative ≡ true)
    × (fits_grantor p.grantor h.grantor ≡ true)
    × (fits_option p.option h.option ≡ true))
fits_is p h = rw (fits_eq p h) (and_six
    (eqb h.subject p.access.subject) (eqb h.mode p.access.mode)
    (eqb h.object p.access.object)
    (beq h.negative p.negative) (fits_grantor p.grantor h.grantor)
    (fits_option p.option h.option))

-- a rule stands for the accesses that its left side fits, its stars fitting any
pub stands_eq : (b : Base) (r : Rule) (x : Access) → stands_for b r x
    ≡ (is_star r.left.subject || eqb r.left.subject x.subject)
    && (is_star r.left.mode || eqb r.left.mode x.mode)
    && stands_on b r x.object
unfolding stands_for
stands_eq b r x = refl

-- x is on the left of a rule that r stands for
pub stands_is : (b : Base) (r : Rule) (x : Access) → (stands_for b r x ≡ true)
    ↔ ((is_star r.left.subject || eqb r.left.subject x.subject ≡ true)
    × (is_star r.left.mode || eqb r.left.mode x.mode ≡ true)
    × (stands_on b r x.object ≡ true))
stands_is b r x = rw (stands_eq b r x) (and_three
    (is_star r.left.subject || eqb r.left.subject x.subject)
    (is_star r.left.mode || eqb r.left.mode x.mode) (stands_on b r x.object))

-- a rule that names its object stands for accesses to that one
pub stands-named : (b : Base) (r : Rule) (x : Access) → is_star r.left.object ≡ false →
    stands_for b r x
    ≡ (is_star r.left.subject || eqb r.left.subject x.subject)
    && (is_star r.left.mode || eqb r.left.mode x.mode)
    && eqb r.left.object x.object
stands-named b r x e = rw (stands_eq b r x, e)

-- one with starred objects for accesses to those that its author owns or administers, and no others
pub stands_starred : (b : Base) (r : Rule) (x : Access) → is_star r.left.object ≡ true →
    stands_for b r x
    ≡ (is_star r.left.subject || eqb r.left.subject x.subject)
    && (is_star r.left.mode || eqb r.left.mode x.mode)
    && controls b x.object r.author
stands_starred b r x e = rw (stands_eq b r x, e)

-- of a base only owners and administrators are looked at
pub stands_same : (b c : Base) (r : Rule) (x : Access) →
    controls b x.object r.author ≡ controls c x.object r.author →
    stands_for b r x ≡ stands_for c r x
stands_same b c r x e = rw (stands_eq b r x, stands_eq c r x, e)

-- what r derives has the access that it stands for, its left side's sign, its author as grantor, no option
pub derives_eq : (b : Base) (p : Pattern) (r : Rule) → derives_for b p r
    ≡ stands_for b r p.access
    && beq r.left.negative p.negative
    && fits_grantor p.grantor r.author
    && fits_option p.option false
unfolding derives_for
derives_eq b p r = refl

-- what r derives is what is looked for
pub derives_is : (b : Base) (p : Pattern) (r : Rule) → (derives_for b p r ≡ true)
    ↔ ((stands_for b r p.access ≡ true)
    × (beq r.left.negative p.negative ≡ true)
    × (fits_grantor p.grantor r.author ≡ true)
    × (fits_option p.option false ≡ true))
derives_is b p r = rw (derives_eq b p r) (and-four (stands_for b r p.access)
    (beq r.left.negative p.negative)
    (fits_grantor p.grantor r.author) (fits_option p.option false))

-- a rule that derives what is looked for stands for its access
pub derives-stands : (b : Base) (p : Pattern) (r : Rule) → derives_for b p r ≡ true →
    stands_for b r p.access ≡ true
derives-stands b p r e = ((derives_is b p r).0 e).0

-- ---- the right side

-- what r looks for where it stands for x: its right side, of which x gives what is starred
pub right_eq : (r : Rule) (x : Access) → right_of r x ≡ record {
  access = record {
    subject = pick (is_star r.right.subject) x.subject r.right.subject;
    mode = pick (is_star r.right.mode) x.mode r.right.mode;
    object = pick (is_star r.right.object) x.object r.right.object;
  };
  negative = r.right.negative;
  grantor = r.grantor;
  option = r.option;
}
unfolding right_of
right_eq r x = refl

-- it has the right side's sign
pub right_sign : (r : Rule) (x : Access) → (right_of r x).negative ≡ r.right.negative
right_sign r x = ap (λ (p : Pattern). p.negative) (right_eq r x)

-- ---- feeding

-- q feeds r if the sign of its left side is that of r's right, the sides meet, and author and option fit
pub feeds_eq : (q r : Rule) → feeds q r
    ≡ beq q.left.negative r.right.negative
    && meets q.left.object r.right.object
    && meets q.left.subject r.right.subject
    && meets q.left.mode r.right.mode
    && fits_grantor r.grantor q.author
    && fits_option r.option false
unfolding feeds
feeds_eq q r = refl

pub feeds_is : (q r : Rule) → (feeds q r ≡ true)
    ↔ ((beq q.left.negative r.right.negative ≡ true)
    × (meets q.left.object r.right.object ≡ true)
    × (meets q.left.subject r.right.subject ≡ true)
    × (meets q.left.mode r.right.mode ≡ true)
    × (fits_grantor r.grantor q.author ≡ true)
    × (fits_option r.option false ≡ true))
feeds_is q r = rw (feeds_eq q r) (and_six
    (beq q.left.negative r.right.negative) (meets q.left.object r.right.object)
    (meets q.left.subject r.right.subject) (meets q.left.mode r.right.mode)
    (fits_grantor r.grantor q.author) (fits_option r.option false))

-- a number of a left side that fits that of a right side, its star standing for z, meets it
fit_meets : (n m z : ℕ) → is_star n || eqb n (pick (is_star m) z m) ≡ true → meets n m ≡ true
fit_meets n m z e = cases (is_star n)
    (λ a. rw a)
    (λ a. cases (is_star m) (λ b. rw (a, b)) (λ b. rw (a, b) (rw (a, b) at e)))

-- the same of an object, a starred one standing for those that pass a test
fit_object : (n m z : ℕ) (c : Bool) → pick (is_star n) c (eqb n (pick (is_star m) z m)) ≡ true →
    meets n m ≡ true
fit_object n m z c e = cases (is_star n)
    (λ a. rw a)
    (λ a. cases (is_star m) (λ b. rw (a, b)) (λ b. rw (a, b) (rw (a, b) at e)))

-- a rule that stands for the access of a right side meets it in object, subject and mode
stand_meets : (b : Base) (q r : Rule) (x : Access) → stands_for b q (right_of r x).access ≡ true →
    (meets q.left.object r.right.object ≡ true)
    × (meets q.left.subject r.right.subject ≡ true)
    × (meets q.left.mode r.right.mode ≡ true)
unfolding right_of
stand_meets b q r x e =
    let s = (stands_is b q (right_of r x).access).0 e in (
      fit_object q.left.object r.right.object x.object
          (controls b (right_of r x).access.object q.author) s.2,
      fit_meets q.left.subject r.right.subject x.subject s.0,
      fit_meets q.left.mode r.right.mode x.mode s.1,
    )

-- what fits a rule's right side is derived by a rule that feeds it
pub fit_feeds : (b : Base) (q r : Rule) (x : Access) → derives_for b (right_of r x) q ≡ true → feeds q r ≡ true
unfolding right_of
fit_feeds b q r x e =
    let d = (derives_is b (right_of r x) q).0 e in
    let m = stand_meets b q r x d.0 in
    (feeds_is q r).1 (d.1, m.0, m.1, m.2, d.2, d.3)

-- and a rule that feeds it derives that where it stands for the access that r looks for
pub feeds_fit : (b : Base) (q r : Rule) (x : Access) → feeds q r ≡ true →
    stands_for b q (right_of r x).access ≡ true → derives_for b (right_of r x) q ≡ true
unfolding right_of
feeds_fit b q r x e s = let w = (feeds_is q r).0 e in (derives_is b (right_of r x) q).1 (s, w.0, w.4, w.5)

-- ---- links

-- q links to r if it derives denials, r's right side is positive, and the sides meet
pub links_eq : (q r : Rule) → links q r
    ≡ q.left.negative
    && not r.right.negative
    && meets q.left.object r.right.object
    && meets q.left.subject r.right.subject
    && meets q.left.mode r.right.mode
unfolding links
links_eq q r = refl

pub links_is : (q r : Rule) → (links q r ≡ true)
    ↔ ((q.left.negative ≡ true)
    × (not r.right.negative ≡ true)
    × (meets q.left.object r.right.object ≡ true)
    × (meets q.left.subject r.right.subject ≡ true)
    × (meets q.left.mode r.right.mode ≡ true))
links_is q r = rw (links_eq q r) (
  (λ e. let w = (and_three (n && m && o) u v).0 e in
      let d = (and_three n m o).0 w.0 in
      (d.0, d.1, d.2, w.1, w.2)),
  (λ w. (and_three (n && m && o) u v).1 ((and_three n m o).1 (w.0, w.1, w.2), w.3, w.4)),
)
  where
    n : Bool
    n = q.left.negative

    m : Bool
    m = not r.right.negative

    o : Bool
    o = meets q.left.object r.right.object

    u : Bool
    u = meets q.left.subject r.right.subject

    v : Bool
    v = meets q.left.mode r.right.mode

-- no rule both feeds another and links to it: their signs differ
pub feeds_or_links : (q r : Rule) → feeds q r ≡ true → links q r ≡ true → ⊥
feeds_or_links q r e l =
    let w = (links_is q r).0 l in
    true≢false (sym w.0 ∙ beq_eq q.left.negative r.right.negative ((feeds_is q r).0 e).0
    ∙ not-true r.right.negative w.1)

-- a denial of a positive right side's access is derived by a rule that links to it
pub fit_links : (b : Base) (q r : Rule) (x : Access) → r.right.negative ≡ false →
    derives_for b (asked (right_of r x).access true) q ≡ true → links q r ≡ true
unfolding right_of
fit_links b q r x n e =
    let d = (derives_is b (asked (right_of r x).access true) q).0 e in
    let m = stand_meets b q r x d.0 in
    (links_is q r).1 (beq_eq q.left.negative true d.1, ap not n, m.0, m.1, m.2)

-- and a rule that links to it derives that where it stands for the access that r looks for
pub links_fit : (b : Base) (q r : Rule) (x : Access) → links q r ≡ true →
    stands_for b q (right_of r x).access ≡ true → derives_for b (asked (right_of r x).access true) q ≡ true
links_fit b q r x e s = (derives_is b (asked (right_of r x).access true) q).1
    (s, ap (λ (n : Bool). beq n true) ((links_is q r).0 e).0, refl, refl)
