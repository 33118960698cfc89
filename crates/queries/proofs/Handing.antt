-- What is handed on: words are copied, bytes are packed and unpacked, a word at a time; the parts are put
-- together (`put-together`), and are what is drawn of the rules of a base (`handed-on`, `handed-lent`).
use mathlib.Core.Path.{◌≡◌, refl, sym, ap, ◌∙◌, subst}
use mathlib.Core.Bool.{true}
use mathlib.Core.List.{List, [], ◌∷◌, ◌++◌, append-nil}
use Prim.Native.Nat.{ℕ, ◌+◌, ◌*◌, ◌≤◌, ◌<◌}
use native.Mathlib.Nat.{zero-add}
use native.Mathlib.Numerals.{add-one}
use native.Mathlib.Omega.{arith}
use lib.ListN.{length, get_or, set, take, drop, length-set, drop_of_length-le}
use lib.Seq.{take-suc, take-suc-set, take-add, take_all, length-take-le, take-set-le, drop-set-add}
use lib.Seq.{drop-drop, get_or-set_same, get_or-set_other}
use Rattle.foundation.specs.Lists.{each_append, length-each}
use Rattle.foundation.specs.Bytes.{le, bytes_of, length-bytes_of}
use Rattle.foundation.specs.BytesFacts.{Bytes, bytes_of-le_at}
use Rattle.fields.specs.Field.{splice}
use Rattle.fields.proofs.ByteLaws.{splice-then}
use Rattle.model.specs.Base.{Base}
use Rattle.encoding.specs.declared.Counts.{Counts}
use Rattle.model.specs.Encoding.{decode}
use Rattle.model.specs.Soundness.{sound_bytes}
use Rattle.encoding.specs.Format.{counts_of, authorizations_at, rules_at}
use Rattle.encoding.proofs.SoundBodies.{lent, rest_of}
use Rattle.sections.specs.Sections.{left_of, feed_of, sides_of, rights_of, subjects_of, objects_of}
use Rattle.sections.proofs.SectionWrites.{put_back, back-length, back_own, back-before, same_front}
use Rattle.outlines.specs.Coordinates.{WellFormed}
use Rattle.queries.specs.declared.Extent.{Extent}
use Rattle.queries.specs.Drawing.{RulesDrawn, chart_for}
use Rattle.queries.specs.Asking.{body_in}
use Rattle.queries.specs.HandedOn.{bytes_in, coordinates_in, extent_in, totals_of}
use Rattle.queries.specs.HandedOn.{HandedBy, HandedIn, HandedOn}
use Rattle.queries.proofs.QuestionBodies.{records-bodies}

-- ---- words

-- a store behind those that are written
pub one_stored : (l : List ℕ) (i v : ℕ) → i < length l → take (i + 1) (set l i v) ≡ take i l ++ (v ∷ [])
one_stored l i v h = ap (λ (n : ℕ). take n (set l i v)) (add-one i) ∙ take-suc-set l i v h

pub one_more : (l : List ℕ) (i : ℕ) → i < length l → take (i + 1) l ≡ take i l ++ (get_or l i 0 ∷ [])
one_more l i h = ap (λ (n : ℕ). take n l) (add-one i) ∙ take-suc l i 0 h

pub one_copied : (from to : List ℕ) (i : ℕ) → i < length from → i < length to → take i to ≡ take i from →
    take (i + 1) (set to i (get_or from i 0)) ≡ take (i + 1) from
one_copied from to i h k e = one_stored to i (get_or from i 0) k
    ∙ ap (λ (l : List ℕ). l ++ (get_or from i 0 ∷ [])) e ∙ sym (one_more from i h)

-- ---- bytes

-- the bytes of one word more
bytes_snoc : (l : List ℕ) (w : ℕ) → bytes_in (l ++ (w ∷ [])) ≡ bytes_in l ++ bytes_of 8 w
bytes_snoc l w = each_append l (w ∷ []) (bytes_of 8)
    ∙ ap (λ (b : List ℕ). bytes_in l ++ b) (append-nil (bytes_of 8 w))

pub bytes_long : (l : List ℕ) (n : ℕ) → length l ≡ n → length (bytes_in l) ≡ 8 * n
bytes_long l n e = omega (arith, length-each l (bytes_of 8) 8 (length-bytes_of 8))

pub one_packed : (bytes words : List ℕ) (i : ℕ) → i < length words → 8 * i + 8 ≤ length bytes → Bytes bytes →
    bytes_in (take i words) ≡ take (8 * i) bytes →
    bytes_in (take (i + 1) (set words i (le 8 (drop (8 * i) bytes)))) ≡ take (8 * (i + 1)) bytes
one_packed bytes words i h k b e =
    let w : ℕ = le 8 (drop (8 * i) bytes) in
    let q : 8 * i + 8 ≡ 8 * (i + 1) = omega arith in
    ap bytes_in (one_stored words i w h)
    ∙ bytes_snoc (take i words) w
    ∙ (λ j. e j ++ bytes_of-le_at 8 (8 * i) bytes k b j)
    ∙ sym (take-add (8 * i) 8 bytes)
    ∙ ap (λ (n : ℕ). take n bytes) q

pub one_unpacked : (words s : List ℕ) (i : ℕ) {s₁ s₂ : List ℕ} → i < length words →
    length s ≡ 8 * length words → s₁ ≡ splice 0 (bytes_in (take i words)) s →
    s₂ ≡ splice (8 * i) (bytes_of 8 (get_or words i 0)) s₁ → s₂ ≡ splice 0 (bytes_in (take (i + 1) words)) s
one_unpacked words s i {s₁} {s₂} h l p q =
    let w : ℕ = get_or words i 0 in
    splice-then 0 (8 * i) (bytes_in (take i words)) (bytes_of 8 w) s (omega arith)
    (bytes_long (take i words) i (length-take-le i words (omega arith))) p
    (q ∙ ap (λ (n : ℕ). splice n (bytes_of 8 w) s₁) (sym (zero-add (8 * i))))
    ∙ ap (λ (bs : List ℕ). splice 0 bs s)
    (sym (bytes_snoc (take i words) w) ∙ ap bytes_in (sym (one_more words i h)))

pub none_unpacked : (words s : List ℕ) → s ≡ splice 0 (bytes_in (take 0 words)) s
unfolding splice
none_unpacked words s = refl

pub all_unpacked : (words s : List ℕ) (i : ℕ) → length s ≡ 8 * length words → length words ≤ i →
    splice 0 (bytes_in (take i words)) s ≡ bytes_in words
unfolding splice
all_unpacked words s i l h =
    let b : List ℕ = bytes_in words in
    let n : length s ≤ 0 + length (bytes_in words) = omega (arith, bytes_long words (length words) refl) in
    ap (λ (ws : List ℕ). take 0 s ++ bytes_in ws ++ drop (0 + length (bytes_in ws)) s) (take_all i words h)
    ∙ ap (λ (t : List ℕ). bytes_in words ++ t) (drop_of_length-le s n) ∙ append-nil b

-- ---- the parts of what is handed on

-- what is drawn, by equal parts
pub drawn_same : {holder : Base} {n n' : ℕ} {body body' o o' p p' : List ℕ} {e e' : Extent} →
    n ≡ n' → body ≡ body' → o ≡ o' → p ≡ p' → e ≡ e' →
    RulesDrawn holder n (chart_for (subjects_of p) (objects_of p) e) body (left_of o) (feed_of o) (sides_of p)
    (rights_of p) e.choosy →
    RulesDrawn holder n' (chart_for (subjects_of p') (objects_of p') e') body' (left_of o') (feed_of o')
    (sides_of p') (rights_of p') e'.choosy
drawn_same {holder} {n} {n'} {body} {body'} {o} {o'} {p} {p'} {e} {e'} a b c d f w =
    let drawn : ℕ → List ℕ → List ℕ → List ℕ → Extent → Type 0 = λ m l u v x. RulesDrawn holder m
    (chart_for (subjects_of v) (objects_of v) x) l (left_of u) (feed_of u) (sides_of v) (rights_of v) x.choosy in
    subst (λ (m : ℕ). drawn m body' o' p' e') a
    (subst (λ (l : List ℕ). drawn n l o' p' e') b
    (subst (λ (u : List ℕ). drawn n body u p' e') c
    (subst (λ (v : List ℕ). drawn n body o v e') d
    (subst (λ (x : Extent). drawn n body o p x) f w))))

module _ (l y p : List ℕ) (e : Extent) (long : length l ≡ 492) (first : length y ≡ 280)
    (second : length p ≡ 209) where
  abbrev begun : List ℕ
  begun = put_back l 0 280 y

  begun_long : length begun ≡ 492
  begun_long = back-length l 0 280 y (omega arith) first ∙ long

  -- the outline and the packed words, then the three numbers
  abbrev filled : List ℕ
  filled = put_back begun 280 209 p

  filled_long : length filled ≡ 492
  filled_long = back-length begun 280 209 p (omega (arith, begun_long)) second ∙ begun_long

  abbrev once : List ℕ
  once = set filled 489 e.subjects

  once_long : length once ≡ 492
  once_long = length-set filled 489 e.subjects ∙ filled_long

  pub second_in : 490 < length once
  second_in = omega (arith, once_long)

  abbrev twice : List ℕ
  twice = set once 490 e.objects

  twice_long : length twice ≡ 492
  twice_long = length-set once 490 e.objects ∙ once_long

  pub third_in : 491 < length twice
  third_in = omega (arith, twice_long)

  abbrev handed : List ℕ
  handed = set twice 491 e.choosy

  pub handed_long : length handed ≡ 492
  handed_long = length-set twice 491 e.choosy ∙ twice_long

  handed_outline : take 280 handed ≡ y
  handed_outline = take-set-le 280 twice 491 e.choosy (omega arith)
      ∙ take-set-le 280 once 490 e.objects (omega arith)
      ∙ take-set-le 280 filled 489 e.subjects (omega arith)
      ∙ same_front begun filled (filled_long ∙ sym begun_long) 280
      (λ k h. back-before begun 280 209 p (omega (arith, begun_long)) second k h)
      ∙ back_own l 0 280 y (omega arith) first

  -- a store behind them leaves the words that are packed
  behind : (w : List ℕ) (i v : ℕ) → 209 ≤ i → take 209 (drop 280 (set w (280 + i) v)) ≡ take 209 (drop 280 w)
  behind w i v h = ap (take 209) (drop-set-add 280 w i v) ∙ take-set-le 209 (drop 280 w) i v h

  handed-packed : take 209 (drop 280 handed) ≡ p
  handed-packed = behind twice 211 e.choosy (omega arith) ∙ behind once 210 e.objects (omega arith)
      ∙ behind filled 209 e.subjects (omega arith)
      ∙ back_own begun 280 209 p (omega (arith, begun_long)) second

  handed_extent : e ≡ extent_in handed
  handed_extent =
      let a : get_or handed 489 0 ≡ e.subjects =
      get_or-set_other twice 491 489 e.choosy 0 (λ z. omega arith)
      ∙ get_or-set_other once 490 489 e.objects 0 (λ z. omega arith)
      ∙ get_or-set_same filled 489 e.subjects 0 (omega (arith, filled_long)) in
      let b : get_or handed 490 0 ≡ e.objects =
      get_or-set_other twice 491 490 e.choosy 0 (λ z. omega arith)
      ∙ get_or-set_same once 490 e.objects 0 second_in in
      let c : get_or handed 491 0 ≡ e.choosy = get_or-set_same twice 491 e.choosy 0 third_in in
      λ i. record { subjects = sym a i; objects = sym b i; choosy = sym c i }

  -- where the words are the bytes that begin with the coordinates q
  pub put_together : {holder : Base} {n : ℕ} {body : List ℕ} (bytes q : List ℕ) → 1666 ≤ length bytes →
      length q ≡ 1666 → bytes_in p ≡ put_back bytes 0 1666 q →
      RulesDrawn holder n (chart_for (subjects_of q) (objects_of q) e) body (left_of y) (feed_of y) (sides_of q)
      (rights_of q) e.choosy → HandedBy holder n body handed
  put_together bytes q room third packs d =
      let same : coordinates_in handed ≡ q =
      ap (λ (w : List ℕ). take 1666 (bytes_in w)) handed-packed ∙ ap (take 1666) packs
      ∙ back_own bytes 0 1666 q (omega arith) third in
      drawn_same refl refl (sym handed_outline) (sym same) handed_extent d

-- ---- the base

-- the rules lie behind the authorizations
pub rules_lie : (s : List ℕ) (c : Counts) (at : ℕ) → at ≡ rules_at c →
    lent s at ≡ body_in (drop (authorizations_at c) s) (totals_of c)
rules_lie s c at e = rest_of s at (authorizations_at c + c.authorizations * 24) (omega arith)
    ∙ sym (drop-drop (c.authorizations * 24) (authorizations_at c) s)

module _ (s : List ℕ) (e : sound_bytes s ≡ true) (c : Counts) (q : c ≡ counts_of s) (at : ℕ)
    (al : at ≡ rules_at c) where
  pub rules_formed : WellFormed c.rules (lent s at)
  rules_formed = subst (WellFormed c.rules)
      (ap (drop (c.authorizations * 24)) (rest_of s (authorizations_at c) (authorizations_at c) refl)
      ∙ sym (rules_lie s c at al))
      (records-bodies s e c q (authorizations_at c) refl).well_formed

-- as it is lent from the authorizations on
pub handed-lent : (s words : List ℕ) (c : Counts) → c ≡ counts_of s → (at : ℕ) → at ≡ authorizations_at c →
    HandedOn s words → HandedIn (lent s at) (totals_of c) words (decode s)
handed-lent s words c q at e h =
    subst (λ (records : List ℕ). HandedIn records (totals_of c) words (decode s))
    (sym (rest_of s at (authorizations_at c) e))
    (subst (λ (d : Counts). HandedIn (drop (authorizations_at d) s) (totals_of d) words (decode s)) (sym q)
    h.drawn)

-- what is drawn of the rules that are lent
pub handed_on : (s words : List ℕ) (c : Counts) → c ≡ counts_of s → (at : ℕ) → at ≡ rules_at c →
    HandedBy (decode s) c.rules (lent s at) words →
    HandedIn (drop (authorizations_at (counts_of s)) s) (totals_of (counts_of s)) words (decode s)
handed_on s words c q at e w =
    subst (λ (d : Counts). HandedIn (drop (authorizations_at d) s) (totals_of d) words (decode s)) q
    (subst (λ (body : List ℕ). HandedBy (decode s) c.rules body words) (rules_lie s c at e) w)
