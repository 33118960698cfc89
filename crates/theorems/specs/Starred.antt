-- Rules with starred objects. 02: such a rule "stands for each object on which its author is owner or
-- administrator at the time of the question"; "withdrawing administration narrows it and doesn't delete it".
-- THEOREM `starred-where`: for which accesses it stands, by the records of the base; `named-where`: for which
-- another does. THEOREM `starred-refused`: what one is refused for. THEOREM `starred-kept`: no request but
-- DROPRULE removes such a rule. THEOREM `starred-narrowed`: after an accepted REVOKEADM the subject's rules
-- with starred objects stand for no access to the object. THEOREM `starred-elsewhere`: they, and those of
-- others, stand for all other accesses as before. THEOREM `starred-referring`: REVOKEREF changes nothing of
-- it.
use Rattle.std.specs.Prelude.{◌≡◌, refl, ◌≢◌, ◌↔◌, ◌⊎◌, Bool, true, false, not, ◌&&◌, ◌||◌, List, [], ◌∷◌, ℕ, suc, leb, eqb}
use Rattle.std.proofs.Common.{sym, ap, ap₂, ◌∙◌, subst, ⊎_elim, inl, inr, true≢false, arith}
use Rattle.std.specs.Bool.{beq}
use Rattle.foundation.specs.Tests.{cases, agree, and-true, and_intro, and-false, ne_false, eq_true, true_eq}
use Rattle.foundation.specs.Tests.{false_eq, true-le}
use Rattle.foundation.specs.Tests.{not-true, must_pass, beq_eq, or_cases, or_intro_left}
use Rattle.foundation.specs.Tests.{or_true_right}
use Rattle.foundation.specs.Lists.{Mem, all_mem, any_mem, mem_any, mem_left, keep_if-mem, kept}
use Rattle.model.specs.declared.Privilege.{Privilege}
use Rattle.model.specs.declared.Rule.{Rule}
use Rattle.model.specs.declared.Request.{Request}
use Rattle.model.specs.declared.Access.{Access}
use Rattle.model.specs.Ranges.{is_object}
use Rattle.model.specs.Base.{Base, privilege, is_privilege, listed, owns, administers, controls}
use Rattle.model.specs.Stratification.{is_star}
use Rattle.model.specs.Rules.{stands_on, stands_for}
use Rattle.model.proofs.SideFacts.{stands_is, stands_starred, stands_same}
use Rattle.model.specs.Requests.{ADDRULE, DROPRULE, REVOKEADM, REVOKEREF, is, new_rule, drops, without}
use Rattle.model.specs.Means.{plainly}
use Rattle.model.specs.declared.Term.TheVariants.{Any}
use Rattle.model.specs.Step.{row, first_number, out_of_range, behind_clock, bad_interval, not_stratified, full}
use Rattle.model.specs.Step.{refusal, effect, not_held, step, Outcome}
use Rattle.model.specs.Step.{Accepted}
use Rattle.model.proofs.StepFacts.{accepted, step-accepted, step-refused}
use Rattle.model.specs.Kinds.{kind_is}
use Rattle.model.specs.Soundness.{sound}
use Rattle.model.specs.SoundnessFacts.{Sound, sound_tests_lem}
use Rattle.model.specs.SoundTests.{owners_test}
use Rattle.laws.specs.Rows.{object_in_lem}

-- ---- where

-- a term of a rule is a star, or names the number
abbrev pub Names : ℕ → ℕ → Type 0
Names term n = (term ≡ 0) ⊎ (term ≡ n)

-- the base has it on record that the subject owns or administers the object
abbrev pub InControl : Base → ℕ → ℕ → Type 0
InControl b o u = Mem (privilege o u) b.objects ⊎ Mem (privilege o u) b.administrators

names_is : (term n : ℕ) → (is_star term || eqb term n ≡ true) ↔ Names term n
names_is term n = (
  (λ e. or_cases (is_star term) (eqb term n) e (λ z. inl (true_eq term 0 z)) (λ z. inr (true_eq term n z))),
  (λ w. ⊎_elim (λ z. or_intro_left (is_star term) (eqb term n) (eq_true term 0 z))
      (λ z. or_true_right (is_star term) (eqb term n) (eq_true term n z)) w),
)

listed_is : (ps : List Privilege) (o u : ℕ) → (listed ps o u ≡ true) ↔ Mem (privilege o u) ps
listed_is ps o u = (
  (λ e. let w = any_mem (is_privilege o u) ps e in
      let p = w.0 in
      let d = and-true (eqb p.object o) (eqb p.subject u) w.2 in
      let same : p ≡ privilege o u =
      λ i. privilege (true_eq p.object o d.0 i) (true_eq p.subject u d.1 i) in
      subst (λ (x : Privilege). Mem x ps) same w.1),
  (λ m. mem_any (is_privilege o u) ps (privilege o u) m
      (and_intro (eqb o o) (eqb u u) (eq_true o o refl) (eq_true u u refl))),
)

controls_is : (b : Base) (o u : ℕ) → (controls b o u ≡ true) ↔ InControl b o u
controls_is b o u = (
  (λ e. or_cases (owns b o u) (administers b o u) e (λ z. inl ((listed_is b.objects o u).0 z))
      (λ z. inr ((listed_is b.administrators o u).0 z))),
  (λ w. ⊎_elim (λ m. or_intro_left (owns b o u) (administers b o u) ((listed_is b.objects o u).1 m))
      (λ m. or_true_right (owns b o u) (administers b o u) ((listed_is b.administrators o u).1 m)) w),
)

module _ (b : Base) (r : Rule) (x : Access) where
  -- the rule stands for the access, if it does on its object
  where_is : (On : Type 0) → (stands_on b r x.object ≡ true) ↔ On →
      (stands_for b r x ≡ true)
      ↔ (Names r.left.subject x.subject × Names r.left.mode x.mode × On)
  where_is On on = (
    (λ e. let w = (stands_is b r x).0 e in (
      (names_is r.left.subject x.subject).0 w.0,
      (names_is r.left.mode x.mode).0 w.1,
      on.0 w.2,
    )),
    (λ w. (stands_is b r x).1 (
      (names_is r.left.subject x.subject).1 w.0,
      (names_is r.left.mode x.mode).1 w.1,
      on.1 w.2,
    )),
  )

  pub starred_where : r.left.object ≡ 0 → (stands_for b r x ≡ true)
      ↔ (Names r.left.subject x.subject × Names r.left.mode x.mode
      × InControl b x.object r.author)
  starred_where z = where_is (InControl b x.object r.author)
      (rw (eq_true r.left.object 0 z) (controls_is b x.object r.author))

  pub named_where : (r.left.object ≡ 0 → ⊥) → (stands_for b r x ≡ true)
      ↔ (Names r.left.subject x.subject × Names r.left.mode x.mode
      × (r.left.object ≡ x.object))
  named_where n = where_is (r.left.object ≡ x.object)
      (rw (ne_false r.left.object 0 n)
      (true_eq r.left.object x.object, eq_true r.left.object x.object))

-- ---- set up

-- 02: "6 and 8 are not tested for it at ADDRULE": of the table the rows 3, 4, 5, 12 and 13 are left
pub starred_refused : (b : Base) (q : Request) → q.kind ≡ ADDRULE → q.rule.left.object ≡ Any →
    refusal plainly b q ≡ first_number (row 3 (out_of_range q) ∷ row 4 (behind_clock b q) ∷ row 5 (bad_interval q)
    ∷ row 12 (not_stratified b q) ∷ row 13 (full plainly b q) ∷ [])
starred_refused b q k e = rw (k, e)

-- ---- kept

-- a star is no object that a request names
unnamed : (n o : ℕ) → is_star n ≡ true → is_object o ≡ true → eqb n o ≡ false
unnamed n o z e = ne_false n o
    (λ i. omega (arith, true_eq n 0 z, true-le 1 o (and-true (leb 1 o) (leb o 128) e).0))

-- sound rules are starred on both sides
both_starred : (b : Base) → Sound b → (r : Rule) → Mem r b.rules → is_star r.left.object ≡ true →
    is_star r.right.object ≡ true
both_starred b s r m e =
    let two : Rule → Bool = λ r. beq (is_star r.left.subject) (is_star r.right.subject)
    && beq (is_star r.left.mode) (is_star r.right.mode) in
    let one : Rule → Bool = λ r. beq (is_star r.left.object) (is_star r.right.object) in
    let t = (and-true (two r) (one r) (all_mem (λ r. two r && one r) b.rules s.stars r m)).1 in
    sym (beq_eq (is_star r.left.object) (is_star r.right.object) t) ∙ e

module _ (b : Base) (q : Request) (g : Accepted b q) (r : Rule) (left : is_star r.left.object ≡ true)
    (right : is_star r.right.object ≡ true) where
  named : is_object q.object ≡ true → (eqb r.left.object q.object ≡ false)
      × (eqb r.right.object q.object ≡ false)
  named e = (unnamed r.left.object q.object left e, unnamed r.right.object q.object right e)

  not_dropped : q.kind ≢ DROPRULE → drops b q r ≡ false
  not_dropped n = cases (is q (REVOKEADM ∷ []))
      (λ a. let e = kind_is q REVOKEADM a in
      let w = named (object_in_lem b q g (rw e)) in
      rw (e, w.0, w.1, and-false (eqb r.author q.subject)))
      (λ a. cases (is q (REVOKEREF ∷ []))
      (λ c. let e = kind_is q REVOKEREF c in
      let w = named (object_in_lem b q g (rw e)) in
      rw (e, w.1, and-false (eqb r.author q.subject)))
      (λ c. rw (ne_false q.kind DROPRULE n, a, c)))

  stays : q.kind ≢ DROPRULE → Mem r b.rules → Mem r (effect plainly b q).rules
  stays n m = cases (is q (ADDRULE ∷ []))
      (λ k. rw k (mem_left r b.rules (new_rule (suc b.last) q ∷ []) m))
      (λ k. cases (is q (DROPRULE ∷ REVOKEADM ∷ REVOKEREF ∷ []))
      (λ l. rw (k, l) (keep_if-mem (λ r. not (drops b q r)) b.rules r m (ap not (not_dropped n))))
      (λ l. rw (k, l) m))

-- a rule with starred objects is removed by nothing but DROPRULE, whatever is withdrawn from its author
pub starred_kept : (b : Base) → sound b ≡ true → (r : Rule) → Mem r b.rules →
    is_star r.left.object ≡ true → (q : Request) → q.kind ≢ DROPRULE → Mem r (step b q).base.rules
starred_kept b s r m e q n = cases (eqb (refusal plainly b q) 0)
    (λ z. let k = true_eq (refusal plainly b q) 0 z in
    subst (λ (o : Outcome). Mem r o.base.rules) (sym (step-accepted b q k))
    (stays b q (accepted b q k) r e (both_starred b (sound_tests_lem b s) r m e) n m))
    (λ z. subst (λ (o : Outcome). Mem r o.base.rules)
    (sym (step-refused b q (false_eq (refusal plainly b q) 0 z))) m)

-- ---- narrowed

-- a privilege that is left out is there no more,
without_gone : (o s : ℕ) (ps : List Privilege) → listed (without o s ps) o s ≡ false
without_gone o s ps = cases (listed (without o s ps) o s)
    (λ e. let w = any_mem (is_privilege o s) (without o s ps) e in
    let k = kept (λ p. not (is_privilege o s p)) ps w.0 w.1 in
    absurd (true≢false (sym w.2 ∙ not-true (is_privilege o s w.0) k.1)))
    (λ e. e)

-- and others are as before
without_other : (o s : ℕ) (ps : List Privilege) (p u : ℕ) → (p ≡ o → u ≡ s → ⊥) →
    listed (without o s ps) p u ≡ listed ps p u
without_other o s ps p u n = agree (listed (without o s ps) p u) (listed ps p u)
    (λ e. let w = any_mem (is_privilege p u) (without o s ps) e in
    mem_any (is_privilege p u) ps w.0 (kept (λ x. not (is_privilege o s x)) ps w.0 w.1).0 w.2)
    (λ e. let w = any_mem (is_privilege p u) ps e in
    mem_any (is_privilege p u) (without o s ps) w.0
    (keep_if-mem (λ x. not (is_privilege o s x)) ps w.0 w.1 (ap not (other w.0 w.2))) w.2)
  where
    other : (x : Privilege) → is_privilege p u x ≡ true → is_privilege o s x ≡ false
    other x e = cases (is_privilege o s x)
        (λ f. let a = and-true (eqb x.object p) (eqb x.subject u) e in
        let c = and-true (eqb x.object o) (eqb x.subject s) f in
        absurd (n (sym (true_eq x.object p a.0) ∙ true_eq x.object o c.0)
        (sym (true_eq x.subject u a.1) ∙ true_eq x.subject s c.1)))
        (λ f. f)

module _ (b : Base) (s : sound b ≡ true) (q : Request) (z : refusal plainly b q ≡ 0)
    (k : q.kind ≡ REVOKEADM) where
  abbrev after : Base
  after = effect plainly b q

  -- who is withdrawn was an administrator, and so is not the owner
  not_owner_lem : owns b q.object q.subject ≡ false
  not_owner_lem =
      let h = must_pass (not_held b q) (administers b q.object q.subject) (accepted b q z).held
      (λ e. rw (k, e)) in
      let w = any_mem (is_privilege q.object q.subject) b.administrators h in
      let i = and-true (eqb w.0.object q.object) (eqb w.0.subject q.subject) w.2 in
      let n = not-true (owns b w.0.object w.0.subject)
      (all_mem (λ p. not (owns b p.object p.subject)) b.administrators
      (owners_test b (sound_tests_lem b s) _ (inl refl)) w.0 w.1) in
      sym (ap₂ (λ (o u : ℕ). owns b o u) (true_eq w.0.object q.object i.0)
      (true_eq w.0.subject q.subject i.1)) ∙ n

  no_control : controls after q.object q.subject ≡ false
  no_control = rw (k, not_owner_lem, without_gone q.object q.subject b.administrators)

  -- the subject's rules with starred objects no longer stand for the object
  pub starred_narrowed : (r : Rule) → is_star r.left.object ≡ true → r.author ≡ q.subject →
      (x : Access) → x.object ≡ q.object → stands_for (step b q).base r x ≡ false
  starred_narrowed r e a x o =
      let fit = (is_star r.left.subject || eqb r.left.subject x.subject)
      && (is_star r.left.mode || eqb r.left.mode x.mode) in
      ap (λ (c : Outcome). stands_for c.base r x) (step-accepted b q z)
      ∙ stands_starred after r x e
      ∙ ap (λ (c : Bool). fit && c) (rw (a, o) no_control)
      ∙ and-false fit

  -- these and all others stand for everything else as before
  pub starred_elsewhere : (r : Rule) (x : Access) → (x.object ≡ q.object → r.author ≡ q.subject → ⊥) →
      stands_for (step b q).base r x ≡ stands_for b r x
  starred_elsewhere r x n =
      ap (λ (c : Outcome). stands_for c.base r x) (step-accepted b q z)
      ∙ stands_same after b r x (rw k (ap (λ (c : Bool). owns b x.object r.author || c)
      (without_other q.object q.subject b.administrators x.object r.author n)))

-- withdrawing a reference takes nothing from a starred rule
pub starred_referring : (b : Base) (q : Request) → q.kind ≡ REVOKEREF → (r : Rule) (x : Access) →
    stands_for (step b q).base r x ≡ stands_for b r x
starred_referring b q k r x = cases (eqb (refusal plainly b q) 0)
    (λ z. ap (λ (c : Outcome). stands_for c.base r x)
    (step-accepted b q (true_eq (refusal plainly b q) 0 z))
    ∙ stands_same (effect plainly b q) b r x (rw k))
    (λ z. ap (λ (c : Outcome). stands_for c.base r x)
    (step-refused b q (false_eq (refusal plainly b q) 0 z)))
