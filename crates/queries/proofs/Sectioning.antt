-- The tables of a question in their sections, as those who were lent a section leave them; and what is known
-- of the tables, by the sections that they are now in.
use mathlib.Core.Path.{◌≡◌, sym, ap, ◌∙◌, subst}
use mathlib.Core.Bool.{true}
use mathlib.Core.List.{List}
use Prim.Native.Nat.{ℕ, suc, ◌+◌, ◌*◌, ◌/◌, ◌%◌, ◌≤◌, ◌<◌}
use native.Mathlib.Omega.{arith}
use lib.Dec.{ltb}
use lib.ListN.{length, get_or, take, drop}
use lib.Seq.{get_or-take}
use Rattle.foundation.specs.Tests.{cases, true-le, false-le}
use Rattle.foundation.specs.BitMasks.{bit}
use Rattle.foundation.specs.BytesFacts.{rest_behind}
use Rattle.model.specs.declared.Access.{Access}
use Rattle.model.specs.Base.{Base}
use Rattle.sections.specs.Sections.{left_of, feed_of, first_of, starts_of}
use Rattle.sections.specs.Sections.{sides_of, rights_of, subjects_of, objects_of, numbered_of, listed_of}
use Rattle.sections.proofs.SectionWrites.{put_back, back-length, back_own, back-before, back_rest, same_front}
use Rattle.sections.proofs.SectionWrites.{same_part, in_part, beyond_part, front_part, front_same}
use Rattle.reach.specs.Net.{standing}
use Rattle.masks.specs.RuleMasks.{Needed, need_at}
use Rattle.tables.specs.declared.Frame.{Frame}
use Rattle.outlines.specs.Coordinates.{Chart, Charted, HasCoordinates, subject_on_right, object_on_right}
use Rattle.outlines.specs.Outline.{RightSides, LeftSides}
use Rattle.grounding.specs.RuleTurns.{Prepared, prepared}
use Rattle.engine.specs.declared.Query.{Query}
use Rattle.places.specs.declared.Grid.{Grid}
use Rattle.queries.specs.Drawing.{RulesDrawn, Mapped}
use Rattle.queries.specs.Asking.{AskedOutline}
use Rattle.queries.specs.Starting.{WalkGiven}

-- ---- numbers: y came back to the front, then z behind it

module _ (l y z : List ℕ) (size w v : ℕ) (p : w ≡ size) (q : v ≡ size) (room : 2 * size ≤ length l)
    (e : length y ≡ size) (g : length z ≡ size) where
  abbrev once : List ℕ
  once = put_back l 0 w y

  once_long : length once ≡ length l
  once_long = back-length l 0 w y (omega arith) (omega arith)

  once-number : take size once ≡ y
  once-number = ap (λ (k : ℕ). take k once) (sym p) ∙ back_own l 0 w y (omega arith) (omega arith)

  abbrev twice : List ℕ
  twice = put_back once size v z

  second_in : size + v ≤ length once
  second_in = omega (arith, once_long)

  pub twice-number : (n : ℕ) → n ≡ size → numbered_of n twice ≡ y
  twice-number n e = ap (λ (k : ℕ). take k twice) e
      ∙ same_front once twice (back-length once size v z second_in (omega arith)) size
      (λ k b. back-before once size v z second_in (omega arith) k b)
      ∙ once-number

  pub twice-listed : (n : ℕ) → n ≡ size → listed_of n twice ≡ z
  twice-listed n e = ap (λ (k : ℕ). listed_of k twice) e ∙ ap (λ (k : ℕ). take k (drop size twice)) (sym q)
      ∙ back_own once size v z second_in (omega arith)

pub map_moved : {C : Chart} {left right need number number' codes codes' : List ℕ} {g : Grid} →
    number' ≡ number → codes' ≡ codes → Mapped C left right need number codes g →
    Mapped C left right need number' codes' g
map_moved {C} {left} {right} {need} {number} {number'} {codes} {codes'} {g} a b m =
    subst (λ (u : List ℕ). Mapped C left right need u codes' g) (sym a)
    (subst (λ (u : List ℕ). Mapped C left right need number u g) (sym b) m)

-- rules are needed by the pairs that are listed, whatever lies behind these
pub needed_front : {left need : List ℕ} (codes : List ℕ) (size : ℕ) {subjects pairs m : ℕ} → pairs ≤ size →
    Needed left need codes subjects pairs m → Needed left need (take size codes) subjects pairs m
needed_front {left} {need} codes size {subjects} {pairs} h e = record {
  all = λ n k r b p q.
      let z = get_or-take size codes n 0 (omega arith) in
      e.all n k r b (subst (λ (c : ℕ). bit k (need_at need subjects c) ≡ true) z p)
      (subst (λ (c : ℕ). bit r (standing left (c / 256) (c % 256) k) ≡ true) z q);
  only = λ r b.
      let w = e.only r b in
      let z = get_or-take size codes w.0 0 (omega (arith, w.1)) in
      (w.0, w.1, subst (λ (c : ℕ). bit r (get_or left (c / 256) 0) ≡ true) (sym z) w.2);
}

-- the slice from the listed pairs on is lent, longer than their section
module _ (numbers : List ℕ) (size n : ℕ) (e : n ≡ size) where
  pub listed_at : (i : ℕ) → i < n → get_or (listed_of n numbers) i 0 ≡ get_or (drop size numbers) i 0
  listed_at i h = get_or-take n (drop n numbers) i 0 h ∙ ap (λ (k : ℕ). get_or (drop k numbers) i 0) e

  pub needed-listed : {left need : List ℕ} {subjects pairs m : ℕ} → pairs ≤ n →
      Needed left need (drop size numbers) subjects pairs m →
      Needed left need (listed_of n numbers) subjects pairs m
  needed-listed {left} {need} {subjects} {pairs} {m} h d =
      subst (λ (k : ℕ). Needed left need (take n (drop k numbers)) subjects pairs m) (sym e)
      (needed_front (drop size numbers) n h d)

-- ---- an outline: the masks of left sides came back

module _ (o left : List ℕ) (left_in : 152 ≤ length o) (e : length left ≡ 152) where
  pub left_long : length (put_back o 0 152 left) ≡ length o
  left_long = back-length o 0 152 left left_in e

  pub left_back : left_of (put_back o 0 152 left) ≡ left
  left_back = back_own o 0 152 left left_in e

  pub left_feed : feed_of (put_back o 0 152 left) ≡ feed_of o
  left_feed = ap (take 128) (back_rest o 0 152 left left_in e)

-- or where tables start, first of fields, then of broken bits
module _ (o first starts : List ℕ) (long : length o ≡ 536) (e : length first ≡ 64) (g : length starts ≡ 64)
  where
    abbrev half : List ℕ
    half = put_back o 280 64 first

    within : 280 + 64 ≤ length o
    within = omega arith

    half_long : length half ≡ 536
    half_long = back-length o 280 64 first within e ∙ long

    abbrev full : List ℕ
    full = put_back half 344 64 starts

    between : 344 + 64 ≤ length half
    between = omega (arith, half_long)

    pub laid_long : length full ≡ 536
    laid_long = back-length half 344 64 starts between g ∙ half_long

    pub laid_front : take 280 full ≡ take 280 o
    laid_front = same_front o full (laid_long ∙ sym long) 280 (λ k b.
        back-before half 344 64 starts between g k (omega arith) ∙ back-before o 280 64 first within e k b)

    pub laid_first : first_of full ≡ first
    laid_first = same_part half full (laid_long ∙ sym half_long) 280 64
        (λ k a b. back-before half 344 64 starts between g k b)
        ∙ back_own o 280 64 first within e

    pub laid_starts : starts_of full ≡ starts
    laid_starts = back_own half 344 64 starts between g

-- its first 280 words are as they were
module _ (o o' : List ℕ) (same : take 280 o' ≡ take 280 o) where
  pub front_left : left_of o' ≡ left_of o
  front_left = front_same 0 152 280 o o' (omega arith) same

  pub front_feed : feed_of o' ≡ feed_of o
  front_feed = front_same 152 128 280 o o' (omega arith) same

-- they are the words y
module _ (o y : List ℕ) (same : take 280 o ≡ y) where
  pub drawn_left : left_of o ≡ left_of y
  drawn_left = sym (front_part 0 152 280 o (omega arith)) ∙ ap left_of same

  pub drawn_feed : feed_of o ≡ feed_of y
  drawn_feed = sym (front_part 152 128 280 o (omega arith)) ∙ ap feed_of same

-- ---- coordinates: numbers are given, then the codes of right sides, then those of left sides

module _ (one two three : List ℕ) (r : drop 512 two ≡ drop 512 one) (l : drop 256 three ≡ drop 256 two) where
  behind_left : drop 512 three ≡ drop 512 two
  behind_left = rest_behind two three 256 512 (omega arith) l

  subjects_left : subjects_of three ≡ subjects_of two
  subjects_left = ap (take 1024) behind_left

  objects_left : objects_of three ≡ objects_of two
  objects_left = ap (take 130) (rest_behind two three 512 1536 (omega arith) behind_left)

  subjects_same : subjects_of three ≡ subjects_of one
  subjects_same = subjects_left ∙ ap (take 1024) r

  objects_same : objects_of three ≡ objects_of one
  objects_same = objects_left ∙ ap (take 130) (rest_behind one two 512 1536 (omega arith) r)

  rights_same : rights_of three ≡ rights_of two
  rights_same = ap (take 256) l

  module _ (n : ℕ) (body : List ℕ) where
    pub still_charted : (width height : ℕ) → HasCoordinates subject_on_right n body (subjects_of one) width →
        HasCoordinates object_on_right n body (objects_of one) height →
        Charted n body (record {
          subjects = subjects_of three;
          objects = objects_of three;
          width = width;
          height = height;
        })
    still_charted width height s o = record {
      subjects = subst (λ (u : List ℕ). HasCoordinates subject_on_right n body u width) (sym subjects_same) s;
      objects = subst (λ (u : List ℕ). HasCoordinates object_on_right n body u height) (sym objects_same) o;
    }

    pub still_rights : RightSides (subjects_of one) (objects_of one) n body (rights_of two) →
        RightSides (subjects_of three) (objects_of three) n body (rights_of three)
    still_rights d =
        subst (λ (u : List ℕ). RightSides u (objects_of three) n body (rights_of three)) (sym subjects_same)
        (subst (λ (u : List ℕ). RightSides (subjects_of one) u n body (rights_of three)) (sym objects_same)
        (subst (λ (u : List ℕ). RightSides (subjects_of one) (objects_of one) n body u) (sym rights_same) d))

    pub still_lefts : LeftSides (subjects_of two) (objects_of two) n body (sides_of three) →
        LeftSides (subjects_of three) (objects_of three) n body (sides_of three)
    still_lefts d =
        subst (λ (u : List ℕ). LeftSides u (objects_of three) n body (sides_of three)) (sym subjects_left)
        (subst (λ (u : List ℕ). LeftSides (subjects_of two) u n body (sides_of three)) (sym objects_left) d)

    pub still_behind : ((v : ℕ) → v < 512 → get_or one v 0 ≡ 0) →
        ((k : ℕ) → n ≤ k / 4 → get_or (rights_of two) k 0 ≡ get_or (rights_of one) k 0) →
        (k : ℕ) → n ≤ k / 4 → get_or (rights_of three) k 0 ≡ 0
    still_behind zero kept k h = ap (λ (u : List ℕ). get_or u k 0) rights_same ∙ kept k h
        ∙ cases (ltb k 256)
        (λ e. let b = true-le (suc k) 256 e in in_part 256 256 one k b ∙ zero (256 + k) (omega arith))
        (λ e. let b = false-le (suc k) 256 e in beyond_part 256 (drop 256 one) k (omega arith))

-- ---- what is known of tables, wherever they now are

module _ {holder : Base} {n : ℕ} {C : Chart} {body left left' feed feed' sides right : List ℕ} {choosy : ℕ}
    (l : left' ≡ left) (f : feed' ≡ feed) where
  pub drawn_moved : RulesDrawn holder n C body left feed sides right choosy →
      RulesDrawn holder n C body left' feed' sides right choosy
  drawn_moved d =
      subst (λ (u : List ℕ). RulesDrawn holder n C body u feed' sides right choosy) (sym l)
      (subst (λ (u : List ℕ). RulesDrawn holder n C body left u sides right choosy) (sym f) d)

  pub outline_moved : {x own : Access} {s o : ℕ} →
      AskedOutline holder n C x own s o body left feed sides right choosy →
      AskedOutline holder n C x own s o body left' feed' sides right choosy
  outline_moved {x} {own} {s} {o} k =
      subst (λ (u : List ℕ). AskedOutline holder n C x own s o body u feed' sides right choosy) (sym l)
      (subst (λ (u : List ℕ). AskedOutline holder n C x own s o body left u sides right choosy) (sym f) k)

-- the coordinates of what is asked are read elsewhere
pub outline_at : {holder : Base} {n : ℕ} {C : Chart} {body left feed sides right : List ℕ} {choosy : ℕ}
    {x own : Access} {s s' o o' : ℕ} → s' ≡ s → o' ≡ o →
    AskedOutline holder n C x own s o body left feed sides right choosy →
    AskedOutline holder n C x own s' o' body left feed sides right choosy
outline_at p q k = record {
  outline = k.outline;
  own_is = k.own_is;
  subject = p ∙ k.subject;
  object = q ∙ k.object;
  some = k.some;
  few = k.few;
}

pub ground_moved : {lines : List ℕ} {total n rules lasts bits : ℕ} {q : Query} {C : Chart}
    {body left left' feed feed' sides right need codes number first first' starts starts' : List ℕ}
    {f : Frame} {base : Base} {x : Access} → left' ≡ left → feed' ≡ feed → first' ≡ first → starts' ≡ starts →
    WalkGiven lines total n rules lasts bits q C
    (prepared body left feed sides right need codes number first starts f) base x →
    WalkGiven lines total n rules lasts bits q C
    (prepared body left' feed' sides right need codes number first' starts' f) base x
ground_moved {lines} {total} {n} {rules} {lasts} {bits} {q} {C} {body} {left} {left'} {feed} {feed'} {sides}
    {right} {need} {codes} {number} {first} {first'} {starts} {starts'} {f} {base} {x} a b c d g =
    let same : ◌≡◌ {A = Prepared} (prepared body left feed sides right need codes number first starts f)
    (prepared body left' feed' sides right need codes number first' starts' f) =
    λ i. prepared body (sym a i) (sym b i) sides right need codes number (sym c i) (sym d i) f in
    subst (λ (p : Prepared). WalkGiven lines total n rules lasts bits q C p base x) same g
