-- One block's replies, whatever its neighbour does (02, CR 9): over two sound bases that agree on a block of
-- meters, MAY and WHEN about the block, and a batch of such questions, get equal replies and leave equal
-- lists. What a reader has to believe is in `Isolation`: `Agree`, `RightsInside`; in 02's plain words `Whole`,
-- `Closed`. First the lemmas, then the theorems: of the answers (`may_isolated`, `when_isolated`,
-- `batch_isolated`; as text `may-text`, `when-text`), of all that meets the contracts of the code (`may-code`,
-- `when-code`, `batch-code`), and in 02's plain words (`may_estate`, `when_estate`, `batch_estate`).
-- `Neighbours` has two bases that they are about.
use Rattle.std.specs.Prelude.{◌≡◌, refl, true, false, ◌&&◌, ◌||◌, ltb, eqb}
use Rattle.std.proofs.Math.Path.{sym, ap, ap₂, fun_ext}
use Rattle.std.proofs.Common.{◌∙◌, subst, inl, inr, arith}
use Prim.Native.Nat.{ℕ, ◌*◌, ◌/◌}
use Rattle.std.proofs.Math.Bool.{Bool, not}
use Rattle.std.specs.Bool.{beq}
use mathlib.Core.List.{List, [], ◌∷◌, ◌++◌, map}
use Rattle.std.proofs.Math.ListN.{length, drop}
use Rattle.foundation.specs.Tests.{cases, agree, true_eq, and-true, and_three, or_cases, beq_eq}
use Rattle.foundation.specs.Lists.{anyb, keep_if, Mem, any_mem, mem_any, all_mem, keep_if-mem, kept, mem-map}
use Rattle.foundation.specs.Lists.{map-mem, mem_left, mem_right}
use Rattle.foundation.specs.declared.Interval.{Interval}
use Rattle.foundation.specs.Intervals.{in_interval, always, maximal}
use Rattle.model.specs.declared.Privilege.{Privilege}
use Rattle.model.specs.declared.Authorization.{Authorization}
use Rattle.model.specs.declared.Rule.{Rule}
use Rattle.model.specs.declared.Access.{Access}
use Rattle.model.specs.declared.Pattern.{Pattern}
use Rattle.model.specs.declared.Question.{Question}
use Rattle.model.specs.declared.Reply.{Reply}
use Rattle.model.specs.declared.Reply.TheVariants.{Refused, Runs}
use Rattle.model.specs.Ranges.{is_instant, last_instant}
use Rattle.model.specs.Base.{Base, is_privilege, listed, exists, controls}
use Rattle.model.specs.Support.{live}
use Rattle.model.proofs.SupportFacts.{mem-live, live-mem}
use Rattle.model.specs.Stratification.{is_star}
use Rattle.model.specs.Stratification.{unlabelled}
use Rattle.model.specs.Rules.{fits, stands_on, stands_for, right_of, asked, may_with, holds, may, when}
use Rattle.model.proofs.SideFacts.{fits_eq, fits_is, stands_eq, stands_is, stands_same, right_eq}
use Rattle.model.specs.Step.{row, refused_or}
use Rattle.model.specs.Encoding.{decode}
use Rattle.model.specs.Soundness.{sound_bytes}
use Rattle.model.specs.SoundnessFacts.{Sound, decoded-sound}
use Rattle.model.specs.Answers.{Answer, answering, refusing, access_in, may_reply, words, may_answer, when_answer}
use Rattle.model.specs.Text.{asks_may, asks_when, read_line}
use Rattle.model.specs.Session.{when_list, reply_line}
use Rattle.model.specs.Batch.{reply_byte, byte_for, batch_refusal, batch_bytes, Batched}
use Rattle.laws.specs.Dependence.{Relabelled, depends_access}
use Rattle.laws.specs.Matching.{direct, StandsInside, Matched, Alike}
use Rattle.laws.specs.Transfer.{holds_alike}
use Rattle.theorems.specs.Isolation.{Share, unstamped, seen, Agree, RightsInside, Closed, Whole}

fits-unstamped : (p : Pattern) (a : Authorization) → fits p a.head ≡ fits p (unstamped a).head
fits-unstamped p a = fits_eq p a.head ∙ sym (fits_eq p (unstamped a).head)

-- The block: which objects are in the set.
module _ (block : ℕ → Bool) where
  pub agree_whole : (b c : Base) → Whole block b c → Agree block b c
  agree_whole b c w = ap seen w

  -- ---- what is in one list is in the other, but for what f leaves out

  moved : {A : Type 0} (f : A → A) (xs ys : List A) → map f xs ≡ map f ys → (x : A) → Mem x xs →
      (y : A) × Mem y ys × (f x ≡ f y)
  moved f xs ys g x m = map-mem f ys (f x) (subst (λ (l : List _). Mem (f x) l) g (mem-map f xs x m))

  -- a rule under another label stands for the same accesses
  stands_relabelled : (b : Base) (r s : Rule) → Relabelled r s → (x : Access) →
      stands_for b r x ≡ stands_for b s x
  stands_relabelled b r s e x =
      let without : (z : Rule) → stands_for b z x ≡ stands_for b (unlabelled z) x =
      λ z. stands_eq b z x ∙ sym (stands_eq b (unlabelled z) x) in
      without r ∙ ap (λ (z : Rule). stands_for b z x) e ∙ sym (without s)

  -- ---- privileges

  any_kept : (test : Privilege → Bool) (ps qs : List Privilege) →
      keep_if (λ p. block p.object) ps ≡ keep_if (λ p. block p.object) qs →
      ((p : Privilege) → test p ≡ true → block p.object ≡ true) →
      anyb test ps ≡ true → anyb test qs ≡ true
  any_kept test ps qs g h e =
      let near : Privilege → Bool = λ p. block p.object in
      let m = any_mem test ps e in
      mem_any test qs m.0 (kept near qs m.0 (subst (λ (l : List Privilege). Mem m.0 l) g
      (keep_if-mem near ps m.0 m.1 (h m.0 m.2)))).0 m.2

  any_same : (test : Privilege → Bool) (ps qs : List Privilege) →
      keep_if (λ p. block p.object) ps ≡ keep_if (λ p. block p.object) qs →
      ((p : Privilege) → test p ≡ true → block p.object ≡ true) →
      anyb test ps ≡ anyb test qs
  any_same test ps qs g h = agree (anyb test ps) (anyb test qs)
      (any_kept test ps qs g h) (any_kept test qs ps (sym g) h)

  listed_same : (ps qs : List Privilege) →
      keep_if (λ p. block p.object) ps ≡ keep_if (λ p. block p.object) qs →
      (o u : ℕ) → block o ≡ true → listed ps o u ≡ listed qs o u
  listed_same ps qs g o u h = any_same (is_privilege o u) ps qs g
      (λ p e. ap block (true_eq p.object o (and-true (eqb p.object o) (eqb p.subject u) e).0) ∙ h)

  -- ---- the starred rules by authors who have a meter in the block

  abbrev here : List Privilege → List Privilege
  here ps = keep_if (λ p. block p.object) ps

  abbrev starry : Base → List Rule
  starry b = keep_if (λ r. is_star r.left.object) b.rules

  abbrev author : Base → Rule → Bool
  author b r = anyb (λ p. eqb p.subject r.author) (here b.objects ++ here b.administrators)

  abbrev nearby : Base → List Rule
  nearby b = keep_if (author b) (starry b)

  -- one who owns or administers a meter of the block is named there
  named : (ps : List Privilege) (o u : ℕ) → block o ≡ true → listed ps o u ≡ true →
      (p : Privilege) × Mem p (keep_if (λ p. block p.object) ps) × (eqb p.subject u ≡ true)
  named ps o u h e =
      let m = any_mem (is_privilege o u) ps e in
      let p = m.0 in
      let w = and-true (eqb p.object o) (eqb p.subject u) m.2 in
      (p, keep_if-mem (λ p. block p.object) ps p m.1 (ap block (true_eq p.object o w.0) ∙ h), w.1)

  author_near : (b : Base) (o : ℕ) (r : Rule) → block o ≡ true → controls b o r.author ≡ true →
      anyb (λ p. eqb p.subject r.author) (keep_if (λ p. block p.object) b.objects
      ++ keep_if (λ p. block p.object) b.administrators) ≡ true
  author_near b o r h e =
      let u = r.author in
      let all = here b.objects ++ here b.administrators in
      or_cases (listed b.objects o u) (listed b.administrators o u) e
      (λ a. let w = named b.objects o u h a in
      mem_any (λ p. eqb p.subject u) all w.0
      (mem_left w.0 (here b.objects) (here b.administrators) w.1) w.2)
      (λ a. let w = named b.administrators o u h a in
      mem_any (λ p. eqb p.subject u) all w.0
      (mem_right w.0 (here b.objects) (here b.administrators) w.1) w.2)

  module _ (b c : Base) (g : Agree block b c) where
    abbrev own : keep_if (λ p. block p.object) b.objects ≡ keep_if (λ p. block p.object) c.objects
    own = ap (λ (z : Share). z.owners) g

    abbrev managed : keep_if (λ p. block p.object) b.administrators
        ≡ keep_if (λ p. block p.object) c.administrators
    managed = ap (λ (z : Share). z.administrators) g

    -- an object of the block exists in both or in neither,
    pub exists_same : (o : ℕ) → block o ≡ true → exists b o ≡ exists c o
    exists_same o h = any_same (λ p. eqb p.object o) b.objects c.objects own
        (λ p e. ap block (true_eq p.object o e) ∙ h)

    -- and has the same owner and administrators
    controls_same : (o u : ℕ) → block o ≡ true → controls b o u ≡ controls c o u
    controls_same o u h = ap₂ ◌||◌ (listed_same b.objects c.objects own o u h)
        (listed_same b.administrators c.administrators managed o u h)

    -- what no rule of one base leads out of, no rule of the other does
    pub rights_inside_too : RightsInside block b → RightsInside block c
    rights_inside_too k r m z h =
        let near : Rule → Bool = λ r. block r.left.object in
        let w = moved unlabelled (keep_if near c.rules) (keep_if near b.rules)
        (ap (λ (z : Share). z.rules) (sym g)) r (keep_if-mem near c.rules r m h) in
        subst (λ (q : Rule). block q.right.object ≡ true) (sym w.2)
        (k w.0 (kept near b.rules w.0 w.1).0
        (subst (λ (q : Rule). is_star q.left.object ≡ false) w.2 z)
        (subst (λ (q : Rule). block q.left.object ≡ true) w.2 h))

    pub closed_too : Closed block b → Closed block c
    closed_too k = record {
      existing = λ o h. sym (exists_same o h) ∙ k.existing o h;
      rights_inside = rights_inside_too k.rights_inside;
    }

    -- ---- lines

    direct_more : (t : ℕ) (p : Pattern) → block p.access.object ≡ true →
        direct b t p ≡ true → direct c t p ≡ true
    direct_more t p h e =
        let m = any_mem (fits p) (live t b.authorizations) e in
        let v = live-mem t b.authorizations m.0 m.1 in
        let a = v.0 in
        let f : fits p a.head ≡ true = ap (fits p) v.2 ∙ m.2 in
        let o = ap block (true_eq a.head.object p.access.object ((fits_is p a.head).0 f).2) ∙ h in
        let near : Authorization → Bool = λ a. block a.head.object in
        let w = moved unstamped (keep_if near b.authorizations) (keep_if near c.authorizations)
        (ap (λ (z : Share). z.lines) g) a (keep_if-mem near b.authorizations a v.1 o) in
        mem_any (fits p) (live t c.authorizations) w.0.head
        (mem-live t c.authorizations w.0 (kept near c.authorizations w.0 w.1).0
        (subst (λ (x : Authorization). in_interval x.interval t ≡ true) w.2 v.3))
        (fits-unstamped p w.0 ∙ ap (λ (x : Authorization). fits p x.head) (sym w.2)
        ∙ sym (fits-unstamped p a) ∙ f)

    -- ---- rules

    -- a rule that stands for an access to the block has its left object there, or starred
    left_inside : (r : Rule) (x : Access) → block x.object ≡ true → stands_for b r x ≡ true →
        is_star r.left.object ≡ false → block r.left.object ≡ true
    left_inside r x h st z =
        let on : stands_on b r x.object ≡ true = ((stands_is b r x).0 st).2 in
        ap block (true_eq r.left.object x.object (rw z at on)) ∙ h

    -- the same rule is in the other base,
    relabelled : (r : Rule) (x : Access) → StandsInside (λ x. block x.object) 0 b r x →
        (s : Rule) × Mem s c.rules × (unlabelled r ≡ unlabelled s)
    relabelled r x w = cases (is_star r.left.object)
        (λ z. let star : Rule → Bool = λ r. is_star r.left.object in
        let on : stands_on b r x.object ≡ true = ((stands_is b r x).0 w.stands).2 in
        let v = moved unlabelled (nearby b) (nearby c) (ap (λ (z : Share). z.starred) g) r
        (keep_if-mem (author b) (starry b) r (keep_if-mem star b.rules r w.listed z)
        (author_near b x.object r w.inside (rw z at on))) in
        (v.0, (kept star c.rules v.0 (kept (author c) (starry c) v.0 v.1).0).0, v.2))
        (λ z. let near : Rule → Bool = λ r. block r.left.object in
        let v = moved unlabelled (keep_if near b.rules) (keep_if near c.rules)
        (ap (λ (z : Share). z.rules) g) r
        (keep_if-mem near b.rules r w.listed (left_inside r x w.inside w.stands z)) in
        (v.0, (kept near c.rules v.0 v.1).0, v.2))

    -- which stands for the access there,
    matched : Matched (λ x. block x.object) 0 b c
    matched r x w =
        let st = sym (stands_same b c r x (controls_same x.object r.author w.inside)) ∙ w.stands in
        let v = relabelled r x w in
        (v.0, v.1, v.2, sym (stands_relabelled c r v.0 v.2 x) ∙ st)

    -- and looks at the block alone
    right_inside : Sound b → RightsInside block b → (r : Rule) (x : Access) → StandsInside (λ x. block x.object)
        0 b r x →
        block (right_of r x).access.object ≡ true
    right_inside s k r x w =
        let z = (and_three
        (beq (is_star r.left.subject) (is_star r.right.subject))
        (beq (is_star r.left.mode) (is_star r.right.mode))
        (beq (is_star r.left.object) (is_star r.right.object))).0
        (all_mem _ b.rules s.stars r w.listed) in
        let both = beq_eq (is_star r.left.object) (is_star r.right.object) z.2 in
        cases (is_star r.left.object)
        (λ e. rw (right_eq r x, sym both ∙ e) w.inside)
        (λ e. rw (right_eq r x, sym both ∙ e) (k r w.listed e (left_inside r x w.inside w.stands e)))

  direct_same : (b c : Base) → Agree block b c → (t : ℕ) (p : Pattern) → block p.access.object ≡ true →
      direct b t p ≡ direct c t p
  direct_same b c g t p h = agree (direct b t p) (direct c t p)
      (direct_more b c g t p h) (direct_more c b (sym g) t p h)

  alike : (b c : Base) → Agree block b c → Sound b → RightsInside block b → Alike (λ x. block x.object) 0 b c
  alike b c g s k = record {
    inward = λ r x w. right_inside b c g s k r x w;
    lines = λ r x w p e t l. direct_same b c g t p
        (ap (λ (y : Access). block y.object) (depends_access r x p e) ∙ right_inside b c g s k r x w);
    fresh = λ r x w e. omega arith;
  }

  -- ---- what MAY and WHEN say of two bases

  module _ (b c : Base) (sb : Sound b) (sc : Sound c) (k : RightsInside block b) (g : Agree block b c) where
    holds_same : (t : ℕ) (p : Pattern) → block p.access.object ≡ true →
        holds always b t p ≡ holds always c t p
    holds_same t p h = holds_alike (λ x. block x.object) 0 b c sb.strata sc.strata
        (matched b c g) (matched c b (sym g)) (alike b c g sb k) t (omega arith) p h
        (direct_same b c g t p h)

    pub may_same : (x : Access) → block x.object ≡ true → (t : ℕ) → may b x t ≡ may c x t
    unfolding may may_with
    may_same x h t = ap₂ (λ (y z : Bool). y && not z)
        (holds_same t (asked x false) h) (holds_same t (asked x true) h)

    pub when_same : (x : Access) → block x.object ≡ true → when b x ≡ when c x
    unfolding when
    when_same x h = ap (maximal 0 last_instant) (fun_ext (may_same x h))

  -- ---- the answers

  module _ (s s' : List ℕ) (e : sound_bytes s ≡ true) (e' : sound_bytes s' ≡ true) (k : RightsInside block (decode s))
      (g : Agree block (decode s) (decode s')) where
    abbrev sb : Sound (decode s)
    sb = decoded-sound s e

    abbrev sc : Sound (decode s')
    sc = decoded-sound s' e'

    -- THEOREM. 02: "every MAY (here and later the main engine's) ... about the set gets equal replies"
    pub may_isolated : (q : Question) → block q.access.object ≡ true → may_answer s q ≡ may_answer s' q
    unfolding may_answer
    may_isolated q h =
        let reply : Bool → Bool → Bool → Reply = λ sound known yes?. refused_or
        (row 2 (not sound) ∷ row 3 (not (access_in q.access && is_instant q.instant))
        ∷ row 6 (not known) ∷ []) Refused (may_reply yes?) in
        λ i. reply ((e ∙ sym e') i) (exists_same (decode s) (decode s') g q.access.object h i)
        (may_same (decode s) (decode s') sb sc k g q.access h q.instant i)

    -- THEOREM. 02: "and WHEN about the set gets equal replies, given equal lists, and leaves these equal"
    pub when_isolated : (x : Access) → block x.object ≡ true → (list : List ℕ) →
        when_answer s x list ≡ when_answer s' x list
    unfolding when_answer
    when_isolated x h list =
        let answer : Bool → Bool → List Interval → Answer = λ sound known runs. refused_or
        (row 2 (not sound) ∷ row 3 (not (access_in x)) ∷ row 6 (not known)
        ∷ row 13 (ltb (length list / 2) (length runs)) ∷ [])
        (refusing list) (answering (Runs (length runs)) (words runs ++ drop (2 * length runs) list)) in
        λ i. answer ((e ∙ sym e') i) (exists_same (decode s) (decode s') g x.object h i)
        (when_same (decode s) (decode s') sb sc k g x h i)

    -- a question's byte in a batch, whatever the others ask about
    pub byte_isolated : (q : Question) → block q.access.object ≡ true → byte_for s q ≡ byte_for s' q
    unfolding byte_for
    byte_isolated q h = ap reply_byte (may_isolated q h)

    bytes_isolated : (questions : List Question) →
        ((q : Question) → Mem q questions → block q.access.object ≡ true) →
        map (byte_for s) questions ≡ map (byte_for s') questions
    bytes_isolated [] h = refl
    bytes_isolated (q ∷ rest) h =
        ap₂ ◌∷◌ (byte_isolated q (h q (inl refl))) (bytes_isolated rest (λ r m. h r (inr m)))

    -- 2 and 13 look at no meter
    pub refusal_isolated : (questions room : ℕ) →
        batch_refusal s questions room ≡ batch_refusal s' questions room
    unfolding batch_refusal
    refusal_isolated questions room = rw (e, e')

    -- THEOREM. The same of CR 2's questions in one call, all of them about the set
    pub batch_isolated : (questions : List Question) →
        ((q : Question) → Mem q questions → block q.access.object ≡ true) → (bytes : List ℕ) →
        batch_bytes s questions bytes ≡ batch_bytes s' questions bytes
    unfolding batch_bytes
    batch_isolated questions h bytes =
        let after : Bool → List ℕ → List ℕ = λ sound written. refused_or
        (row 2 (not sound) ∷ row 13 (ltb (length bytes) (length questions)) ∷ []) (λ n. bytes)
        (written ++ drop (length questions) bytes) in
        λ i. after ((e ∙ sym e') i) (bytes_isolated questions h i)

    -- THEOREM. The same of questions put as text: the line that is printed
    pub may-text : (line : List ℕ) (q : Question) → read_line line ≡ asks_may q →
        block q.access.object ≡ true → reply_line s line ≡ reply_line s' line
    may-text line q r h = rw (r, may_isolated q h)

    pub when-text : (line : List ℕ) (x : Access) → read_line line ≡ asks_when x →
        block x.object ≡ true → reply_line s line ≡ reply_line s' line
    when-text line x r h = rw (r, when_isolated x h when_list)

    -- ---- the same of the code: whatever replies and lists its contracts allow

    pub may-code : (q : Question) → block q.access.object ≡ true → (r r' : Reply) →
        r ≡ may_answer s q → r' ≡ may_answer s' q → r ≡ r'
    may-code q h r r' a a' = a ∙ may_isolated q h ∙ sym a'

    pub when-code : (x : Access) → block x.object ≡ true → (list : List ℕ) (r r' : Reply)
        (after after' : List ℕ) →
        answering r after ≡ when_answer s x list → answering r' after' ≡ when_answer s' x list →
        (r ≡ r') × (after ≡ after')
    when-code x h list r r' after after' a a' =
        let same = a ∙ when_isolated x h list ∙ sym a' in
        (ap (λ (z : Answer). z.reply) same, ap (λ (z : Answer). z.lent) same)

    -- of `batch`, and with `questions_in words` for the questions of `batch_words`
    pub batch-code : (questions : List Question) →
        ((q : Question) → Mem q questions → block q.access.object ≡ true) →
        (bytes : List ℕ) (r r' : ℕ) (after after' : List ℕ) →
        Batched s questions bytes r after → Batched s' questions bytes r' after' →
        (r ≡ r') × (after ≡ after')
    batch-code questions h bytes r r' after after' a a' = (
      a.refusal ∙ refusal_isolated (length questions) (length bytes) ∙ sym a'.refusal,
      a.replies ∙ batch_isolated questions h bytes ∙ sym a'.replies,
    )

  -- ---- in 02's plain words: existing objects, and whole records that are equal

  module _ (s s' : List ℕ) (e : sound_bytes s ≡ true) (e' : sound_bytes s' ≡ true) (k : Closed block (decode s))
      (w : Whole block (decode s) (decode s')) where
    abbrev g : Agree block (decode s) (decode s')
    g = agree_whole (decode s) (decode s') w

    pub may_estate : (q : Question) → block q.access.object ≡ true → (r r' : Reply) →
        r ≡ may_answer s q → r' ≡ may_answer s' q → r ≡ r'
    may_estate = may-code s s' e e' k.rights_inside g

    pub when_estate : (x : Access) → block x.object ≡ true → (list : List ℕ) (r r' : Reply)
        (after after' : List ℕ) →
        answering r after ≡ when_answer s x list → answering r' after' ≡ when_answer s' x list →
        (r ≡ r') × (after ≡ after')
    when_estate = when-code s s' e e' k.rights_inside g

    pub batch_estate : (questions : List Question) →
        ((q : Question) → Mem q questions → block q.access.object ≡ true) →
        (bytes : List ℕ) (r r' : ℕ) (after after' : List ℕ) →
        Batched s questions bytes r after → Batched s' questions bytes r' after' →
        (r ≡ r') × (after ≡ after')
    batch_estate = batch-code s s' e e' k.rights_inside g
