-- The masks give the rules that meet a right side (`meeting-bit`); with grantor and option those are the
-- rules that feed it (`feeders-same`), and the denials that meet a positive one link to it
-- (`preceders-same`): where there are none, no rule does (`none-link`).
use mathlib.Core.Path.{◌≡◌, refl, sym, ap, ap₂, ◌∙◌}
use mathlib.Core.Bool.{Bool, true, false, not, ◌&&◌, ◌||◌, beq}
use mathlib.Core.List.{List}
use Prim.Native.Nat.{ℕ, suc, ◌+◌, ◌*◌, ◌-◌, ◌/◌, ◌%◌, ◌≤◌, ◌<◌}
use native.Mathlib.Omega.{arith}
use lib.Bits.{bit_and, bit_or}
use lib.Dec.{eqb, ltb}
use lib.ListN.{get_or}
use Rattle.foundation.specs.Tests.{pick, cases, false_eq, ne_false, true-le, or_true, and_yes, and_or}
use Rattle.foundation.specs.Tests.{or_false, must_fail}
use Rattle.foundation.specs.Tests.{and-true, and-false, and_intro}
use Rattle.foundation.specs.BitMasks.{as_bit, bit, bit_le, bit-zero}
use Rattle.foundation.specs.BitLaws.{bit_or_lem, bit_and_lem}
use Rattle.model.specs.declared.Rule.{Rule}
use Rattle.model.specs.Stratification.{is_star, meets, feeds, links, precedes, fits_option}
use Rattle.model.proofs.FeedingLaws.{precedes_either}
use Rattle.model.specs.Rules.{fits_grantor}
use Rattle.model.proofs.SideFacts.{feeds_eq, links_eq, links_is}
use Rattle.encoding.specs.Format.{rules_in, rule_at}
use Rattle.outlines.specs.Coordinates.{HasCoordinates, Chart}
use Rattle.outlines.specs.Outline.{code_in}
use Rattle.outlines.specs.LeftMasks.{object_code, subject_code, mode_code_of, sign_code, CodesPlaced}
use Rattle.outlines.proofs.StandingRules.{star_is, code_small, subject_is, mode_is, sign_is, under}
use Rattle.outlines.proofs.StandingRules.{rule-bit}
use Rattle.outlines.specs.Feed.{Outlined, right_mode_word, meeting_word, linkers_word, feeders_of}
use Rattle.outlines.specs.Feed.{preceders_of}
use Rattle.masks.proofs.SameBits.{same_bits}

-- q's left side has the sign g, and its object, subject and mode meet r's right side
abbrev pub meets_right : Bool → Rule → Rule → Bool
meets_right g q r =
    beq q.left.negative g
    && meets q.left.object r.right.object
    && meets q.left.subject r.right.subject
    && meets q.left.mode r.right.mode

links-parts : (q r : Rule) → links q r ≡ not r.right.negative && meets_right true q r
links-parts q r = links_eq q r ∙ signs q.left.negative (not r.right.negative)
    (meets q.left.object r.right.object) (meets q.left.subject r.right.subject)
    (meets q.left.mode r.right.mode)
  where
    signs : (n m o s d : Bool) → n && m && o && s && d ≡ m && (beq n true && o && s && d)
    signs true true o s d = refl
    signs true false o s d = refl
    signs false true o s d = refl
    signs false false o s d = refl

meets-star : (u v : ℕ) → is_star v ≡ true → meets u v ≡ true
meets-star u v e = rw (e, or_true (is_star u))

meets-named : (u v : ℕ) → is_star v ≡ false → is_star u || eqb u v ≡ meets u v
meets-named u v e = rw (e, or_false (is_star u))

-- the tests of a rule in the order of the masks, and in that of the definition
four-tests : (g m s a : Bool) → ((g && m) && s) && a ≡ ((g && a) && s) && m
four-tests false m s a = refl
four-tests true true true true = refl
four-tests true true true false = refl
four-tests true true false true = refl
four-tests true true false false = refl
four-tests true false true true = refl
four-tests true false true false = refl
four-tests true false false true = refl
four-tests true false false false = refl

and_two : (t a s : Bool) → (t && a) && (t && s) ≡ t && (a && s)
and_two true a s = refl
and_two false a s = refl

guarded : (t a b c : Bool) → (t && a) && b && c ≡ t && (a && b && c)
guarded true a b c = refl
guarded false a b c = refl

-- of the rules w those of m, where m has the rules that meet a right side's number v; all of them for a star
narrow-meets : {field : Rule → ℕ} {n : ℕ} {body U : List ℕ} {size : ℕ} → HasCoordinates field n body U size →
    n ≤ 64 → (u v w m q code : ℕ) (a : Bool) → code ≡ code_in U v →
    (is_star v ≡ false → bit q m ≡ ltb q n && (is_star u || eqb u v)) → bit q w ≡ ltb q n && a →
    bit q (pick (eqb code 255) w (bit_and w m)) ≡ ltb q n && (a && meets u v)
narrow-meets {n = n} t few u v w m q code a c e z =
    let f : eqb code 255 ≡ is_star v = ap (λ (k : ℕ). eqb k 255) c ∙ star_is t few v in
    cases (is_star v)
    (λ s. rw (f ∙ s, meets-star u v s) (z ∙ ap (λ (b : Bool). ltb q n && b) (sym (and_yes a))))
    (λ s. rw (f ∙ s) (bit_and_lem w m q
    ∙ ap₂ (λ (x y : Bool). x && y) z (e s ∙ ap (λ (b : Bool). ltb q n && b) (meets-named u v s))
    ∙ and_two (ltb q n) a (meets u v)))

module _ {n : ℕ} {body left right sides : List ℕ} (o : Outlined n body left right sides) (i : ℕ) (h : i < n)
  where
    abbrev rule : ℕ → Rule
    rule q = rule_at body q

    abbrev C : Chart
    C = o.chart

    abbrev object : ℕ
    object = get_or right (4 * i) 0

    abbrev subject : ℕ
    subject = get_or right (4 * i + 1) 0

    abbrev mode : ℕ
    mode = get_or right (4 * i + 2) 0

    abbrev sign : ℕ
    sign = get_or sides (4 * i + 3) 0 / 2

    -- the codes of the right side
    object_code_lem : is_star (rule i).right.object ≡ false →
        object ≡ get_or C.objects (rule i).right.object 0
    object_code_lem e = (o.rights i h).object ∙ rw e

    subject_code_lem : is_star (rule i).right.subject ≡ false →
        subject ≡ get_or C.subjects (rule i).right.subject 0
    subject_code_lem e = (o.rights i h).subject ∙ rw e

    pub sign_bit : sign ≡ as_bit (rule i).right.negative
    sign_bit = omega (
      arith,
      (o.lefts i h).signs,
      bit_le (rule i).left.negative,
      bit_le (rule i).right.negative,
    )

    mode_code_lem : is_star (rule i).right.mode ≡ false → mode ≡ (rule i).right.mode - 1
    mode_code_lem e = (o.rights i h).mode ∙ rw e

    mode-star : is_star (rule i).right.mode ≡ true → mode ≡ 255
    mode-star e = (o.rights i h).mode ∙ rw e

    right_mode-star : (k : ℕ) → is_star (rule i).right.mode ≡ true → right_mode_word mode k ≡ 146 + k
    right_mode-star k e = rw (mode-star e)

    right_mode-named : (k : ℕ) → is_star (rule i).right.mode ≡ false → right_mode_word mode k ≡ 130 + (mode + 8
        * k)
    right_mode-named k e = rw (ne_false mode 255 (λ z. omega (
      arith,
      mode_code_lem e,
      (o.well_formed.right i h
          ).mode,
    )))

    pub right_placed : CodesPlaced right i
    right_placed = record {
      object = code_small o.charted.objects o.well_formed.few (rule i).right.object
          (o.rights i h).object;
      subject = code_small o.charted.subjects o.well_formed.few (rule i).right.subject
          (o.rights i h).subject;
      mode = λ ne. cases (is_star (rule i).right.mode)
          (λ e. absurd (ne (mode-star e)))
          (λ e. let z = false_eq (rule i).right.mode 0 e in
          omega (arith, mode_code_lem e, (o.well_formed.right i h).mode));
    }

    -- a rule on the left
    object-meets : (w q : ℕ) (a : Bool) → bit q w ≡ ltb q n && a →
        bit q (pick (eqb object 255) w (bit_and w (bit_or (get_or left 151 0) (get_or left object 0))))
        ≡ ltb q n && (a && meets (rule q).left.object (rule i).right.object)
    object-meets w q a =
        let u = (rule q).left.object in
        let v = (rule i).right.object in
        let few = o.well_formed.few in
        narrow-meets o.charted.objects few u v w (bit_or (get_or left 151 0) (get_or left object 0)) q object a
        (o.rights i h).object
        (λ e. let c = o.charted.objects.named i h e in
        let d = object_code_lem e in
        let m = o.charted.objects.below v in
        let k = o.charted.objects.few in
        bit_or_lem (get_or left 151 0) (get_or left object 0) q
        ∙ ap₂ (λ (x y : Bool). x || y) (o.masks.starred q)
        (o.masks.object object q (omega arith) (omega arith))
        ∙ and_or (ltb q n) (eqb (object_code sides q) 255) (eqb (object_code sides q) object)
        ∙ under (ltb q n) (eqb (object_code sides q) 255 || eqb (object_code sides q) object)
        (is_star u || eqb u v)
        (λ y. let l = true-le (suc q) n y in
        rw ((o.lefts q l).object, d) (subject_is o.charted.objects few u v c)))

    subject-meets : (w q : ℕ) (a : Bool) → bit q w ≡ ltb q n && a →
        bit q (pick (eqb subject 255) w (bit_and w (get_or left (65 + subject) 0)))
        ≡ ltb q n && (a && meets (rule q).left.subject (rule i).right.subject)
    subject-meets w q a =
        let u = (rule q).left.subject in
        let v = (rule i).right.subject in
        let few = o.well_formed.few in
        narrow-meets o.charted.subjects few u v w (get_or left (65 + subject) 0) q subject a
        (o.rights i h).subject
        (λ e. let c = o.charted.subjects.named i h e in
        let d = subject_code_lem e in
        let m = o.charted.subjects.below v in
        o.masks.sided.subject subject q (omega arith) (omega arith)
        ∙ under (ltb q n) (eqb (subject_code sides q) 255 || eqb (subject_code sides q) subject)
        (is_star u || eqb u v)
        (λ y. let l = true-le (suc q) n y in
        rw ((o.lefts q l).subject, d) (subject_is o.charted.subjects few u v c)))

    sign-meets : (g : Bool) (q : ℕ) → q < n →
        eqb (sign_code sides q) (as_bit g) ≡ beq (rule q).left.negative g
    sign-meets g q l =
        ap (λ (k : ℕ). eqb (k % 2) (as_bit g)) (o.lefts q l).signs ∙ sign_is (rule q) g

    mode-meets : (g : Bool) (q : ℕ) → bit q (get_or left (right_mode_word mode (as_bit g)) 0)
        ≡ ltb q n && (beq (rule q).left.negative g
        && meets (rule q).left.mode (rule i).right.mode)
    mode-meets g q =
        let u = (rule q).left.mode in
        let v = (rule i).right.mode in
        let t = beq (rule q).left.negative g in
        let s : ℕ = as_bit g in
        let b = bit_le g in
        cases (is_star v)
        (λ e. ap (λ (k : ℕ). bit q (get_or left k 0)) (right_mode-star s e)
        ∙ o.masks.sided.sign s q (omega arith)
        ∙ under (ltb q n) (eqb (sign_code sides q) s) (t && meets u v)
        (λ y. sign-meets g q (true-le (suc q) n y) ∙ sym (and_yes t)
        ∙ ap (λ (x : Bool). t && x) (sym (meets-star u v e))))
        (λ e. let d = mode_code_lem e in
        let z = false_eq v 0 e in
        let r = (o.well_formed.right i h).mode in
        ap (λ (k : ℕ). bit q (get_or left k 0)) (right_mode-named s e)
        ∙ o.masks.sided.mode mode s q (omega arith) (omega arith)
        ∙ under (ltb q n)
        (eqb (sign_code sides q) s && (eqb (mode_code_of sides q) 255 || eqb (mode_code_of sides q) mode))
        (t && meets u v)
        (λ y. let l = true-le (suc q) n y in
        ap₂ (λ (x w : Bool). x && w) (sign-meets g q l)
        (ap₂ (λ (k j : ℕ). eqb k 255 || eqb k j) (o.lefts q l).mode d
        ∙ mode_is u v (o.well_formed.left q l).mode (omega arith) r ∙ meets-named u v e)))

    pub meeting_bit : (g : Bool) (q : ℕ) →
        bit q (meeting_word left right i (as_bit g)) ≡ ltb q n && meets_right g (rule q) (rule i)
    unfolding meeting_word
    meeting_bit g q =
        let w = get_or left (right_mode_word mode (as_bit g)) 0 in
        let t = beq (rule q).left.negative g in
        let a = meets (rule q).left.object (rule i).right.object in
        let u = meets (rule q).left.subject (rule i).right.subject in
        let m = meets (rule q).left.mode (rule i).right.mode in
        object-meets (pick (eqb subject 255) w (bit_and w (get_or left (65 + subject) 0))) q ((t && m) && u)
        (subject-meets w q (t && m) (mode-meets g q))
        ∙ ap (λ (b : Bool). ltb q n && b) (four-tests t m u a)

    -- the rules that have the sign of the right side
    own_bit : (f : ℕ) → f ≡ meeting_word left right i sign → (q : ℕ) →
        bit q f ≡ ltb q n && meets_right (rule i).right.negative (rule q) (rule i)
    own_bit f e q =
        ap (bit q) (e ∙ ap (meeting_word left right i) sign_bit) ∙ meeting_bit (rule i).right.negative q

    pub meeting_inside : (f : ℕ) → f ≡ meeting_word left right i sign → (q : ℕ) → bit q f ≡ true → q < n
    meeting_inside f e q y = true-le (suc q) n
        (and-true (ltb q n) (meets_right (rule i).right.negative (rule q) (rule i))
        (sym (own_bit f e q) ∙ y)).0

    pub feeders_same : (f x : ℕ) → f ≡ meeting_word left right i sign →
        ((q : ℕ) → bit q x ≡ bit q f && fits_grantor (rule i).grantor (rule q).author
        && fits_option (rule i).option false) →
        x ≡ feeders_of (rules_in n body) (rule i)
    feeders_same f x e z = same_bits x (feeders_of (rules_in n body) (rule i))
        (λ q. z q
        ∙ ap (λ (b : Bool). b && fits_grantor (rule i).grantor (rule q).author
        && fits_option (rule i).option false) (own_bit f e q)
        ∙ guarded (ltb q n) (meets_right (rule i).right.negative (rule q) (rule i))
        (fits_grantor (rule i).grantor (rule q).author) (fits_option (rule i).option false)
        ∙ ap (λ (b : Bool). ltb q n && b) (sym (feeds_eq (rule q) (rule i)))
        ∙ sym (rule-bit n body (λ p. feeds p (rule i)) q))

    linkers_bit : (q : ℕ) → bit q (linkers_word left right sides i) ≡ ltb q n && links (rule q) (rule i)
    unfolding linkers_word
    linkers_bit q = cases (rule i).right.negative
        (λ e. let s : sign ≡ 1 = sign_bit ∙ ap as_bit e in
        rw (s, links-parts (rule q) (rule i), e) (bit-zero q ∙ sym (and-false (ltb q n))))
        (λ e. let s : sign ≡ 0 = sign_bit ∙ ap as_bit e in
        rw (s, links-parts (rule q) (rule i), e) (meeting_bit true q))

    -- where no rule has a denial on the left
    pub none_link : get_or left 147 0 ≡ 0 → linkers_word left right sides i ≡ 0
    none_link z = same_bits (linkers_word left right sides i) 0
        (λ q. must_fail (bit q (get_or left 147 0)) (bit q (linkers_word left right sides i))
        (ap (bit q) z ∙ bit-zero q)
        (λ y. let w = and-true (ltb q n) (links (rule q) (rule i)) (sym (linkers_bit q) ∙ y) in
        let d = ((links_is (rule q) (rule i)).0 w.1).0 in
        o.masks.sided.sign 1 q (omega arith) ∙ and_intro (ltb q n) (eqb (sign_code sides q) 1) w.0
        (sign-meets true q (true-le (suc q) n w.0) ∙ ap (λ (b : Bool). beq b true) d))
        ∙ sym (bit-zero q))

    pub preceders_same : bit_or (feeders_of (rules_in n body) (rule i)) (linkers_word left right sides i)
        ≡ preceders_of (rules_in n body) (rule i)
    preceders_same =
        let f = feeders_of (rules_in n body) (rule i) in
        same_bits (bit_or f (linkers_word left right sides i)) (preceders_of (rules_in n body) (rule i))
        (λ q. bit_or_lem f (linkers_word left right sides i) q
        ∙ ap₂ (λ (a b : Bool). a || b) (rule-bit n body (λ p. feeds p (rule i)) q) (linkers_bit q)
        ∙ and_or (ltb q n) (feeds (rule q) (rule i)) (links (rule q) (rule i))
        ∙ ap (λ (b : Bool). ltb q n && b) (sym (precedes_either (rule q) (rule i)))
        ∙ sym (rule-bit n body (λ p. precedes p (rule i)) q))
