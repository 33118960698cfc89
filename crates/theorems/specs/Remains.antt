-- An instant of an accepted grant or denial remains in the bytes after a list exactly if a chain was behind
-- it right after that request, and it survives the later ones (theorem 9): `remains`. What stands after a
-- list was given by one of its requests: `stood-or-entered`.
use Rattle.std.specs.Prelude.{◌≡◌, refl, ◌≢◌, ◌⊎◌, ◌↔◌, ℕ, suc, ◌≤◌, Bool, true, false, List, [], ◌∷◌, ◌++◌, leb, eqb}
use Rattle.std.proofs.Common.{sym, ◌∙◌, subst, inl, inr, ⊎_elim, arith, true≢false}
use Rattle.std.proofs.Math.Path.{ap}
use Rattle.std.proofs.Math.Bool.{not}
use Rattle.foundation.specs.Tests.{cases, not-true, le-true, true_eq, false_eq, and_intro}
use Rattle.foundation.specs.Lists.{Mem, keep_if, keep_if-mem, kept}
use Rattle.foundation.specs.Intervals.{in_interval}
use Rattle.model.specs.declared.Head.{Head}
use Rattle.model.specs.declared.Authorization.{Authorization}
use Rattle.model.specs.declared.Request.{Request}
use Rattle.model.specs.Base.{Base}
use Rattle.model.specs.Support.{supported, live, root}
use Rattle.model.proofs.SupportChains.{supported-chain}
use Rattle.model.specs.Withdrawal.{restrict}
use Rattle.model.specs.Requests.{GRANT, DENY, grants, withdraws, new_head, takes, leave, root_after}
use Rattle.model.specs.Means.{plainly}
use Rattle.model.specs.Step.{refusal, effect, step, play}
use Rattle.model.specs.Step.{Accepted}
use Rattle.model.proofs.StepFacts.{accepted as passed}
use Rattle.model.specs.Encoding.{encode, decode}
use Rattle.model.specs.EncodingFacts.{decode-encode}
use Rattle.model.specs.Answers.{Answer, refusal_number, request}
use Rattle.model.specs.Soundness.{sound}
use Rattle.model.specs.SoundnessFacts.{Sound, sound_tests_lem}
use Rattle.model.proofs.SupportFacts.{live-last, live-old, live-new, chain_more}
use Rattle.model.specs.Survival.{Gives, grant, denial, after, Given, TakesBack, LosesAdministration, Stands}
use Rattle.model.specs.Survival.{Behind}
use Rattle.model.specs.Survival.{Survives, end, refused, accepted}
use Rattle.model.proofs.SurvivalFacts.{taken}
use Rattle.model.specs.Kinds.{grant_kinds, label_kinds, is_kinds}
use Rattle.laws.specs.KeepFacts.{live-keep}
use Rattle.laws.specs.SoundFacts.{all_supported_lem}
use Rattle.laws.specs.SoundPrivileges.{last-stays}
use Rattle.laws.specs.AuthorizationsAfter.{new_authorization, granted_authorizations, same_authorizations}
use Rattle.laws.specs.Restriction.{withdrawn_all}
use Rattle.laws.specs.Preservation.{sound-after, effect-sound}
use Rattle.laws.specs.RequestFacts.{request-accepted}
use Rattle.theorems.specs.RefusalNumbers.{done_passes, number-refused, refused-number}
use Rattle.theorems.specs.PlayFacts.{base-accepted, base-refused, step-sound, base_after, after-sound}
use Rattle.theorems.specs.PlayFacts.{after_bytes, after-base, after_one, after_more, done-accepted}
use Rattle.theorems.specs.PlayFacts.{done-label, no_takes}

-- ---- one accepted request

module _ (b : Base) (q : Request) (s : Sound b) (g : Accepted b q) (h : Head) (t : ℕ) where
  abbrev next : Base
  next = effect plainly b q

  -- what stands has a chain behind it
  pub stands_behind : Stands next h t → Behind next h t
  stands_behind m = (supported-chain (root next) (live t next.authorizations) h).0
      (all_supported_lem next (sound-after b q s g) t h m)

  -- what the request leaves, before unsupported instants go
  abbrev remaining : List Authorization
  remaining = leave q b.authorizations

  -- and what then stays
  abbrev stays : Head → Bool
  stays k = supported (root_after b q) (live t remaining) k

  -- what a withdrawal leaves standing
  withdrawn : withdraws q ≡ true → live t next.authorizations ≡ keep_if stays (live t remaining)
  unfolding restrict
  withdrawn w = ap (live t) (withdrawn_all b q s w)
      ∙ live-keep (λ k u. supported (root_after b q) (live u remaining) k) remaining t

  left : live t remaining ≡ keep_if (λ k. not (takes q k t)) (live t b.authorizations)
  unfolding leave
  left = live-keep (λ k u. not (takes q k u)) b.authorizations t

  -- what stands is new, or stood before and was not taken
  pub entered : Stands next h t →
      (Stands b h t × (takes q h t ≡ false))
      ⊎ ((grants q ≡ true) × (h ≡ new_head (suc b.last) q) × (in_interval q.interval t ≡ true))
  entered m = cases (withdraws q)
      (λ w. let x = (kept stays (live t remaining) h (rw (withdrawn w) at m)).0 in
      let y = kept (λ k. not (takes q k t)) (live t b.authorizations) h (rw left at x) in
      inl (y.0, not-true (takes q h t) y.1))
      (λ w. cases (grants q)
      (λ e. ⊎_elim
      (λ y. inl (y, no_takes q w h t))
      (λ v. inr (e, v.0, v.1))
      (live-last t b.authorizations (new_authorization b q) h (rw (granted_authorizations b q e) at m)))
      (λ e. inl (rw (same_authorizations b q e w) at m, no_takes q w h t)))

  -- what has an old label is not new
  pub stood : h.label ≤ b.last → Stands next h t → Stands b h t × (takes q h t ≡ false)
  stood l m = ⊎_elim
      (λ y. y)
      (λ v. let z : h.label ≡ suc b.last = ap (λ (k : Head). k.label) v.1 in absurd (omega arith))
      (entered m)

  -- what stood, was not taken and has a chain behind it stands
  pub still_stands : Stands b h t → takes q h t ≡ false → Behind next h t → Stands next h t
  still_stands m e c = cases (withdraws q)
      (λ w. let x : Mem h (live t remaining) = rw left
      (keep_if-mem (λ k. not (takes q k t)) (live t b.authorizations) h m (ap not e)) in
      rw (withdrawn w) (keep_if-mem stays (live t remaining) h x
      ((supported-chain (root_after b q) (live t remaining) h).1
      (chain_more (root next) (root_after b q) (live t next.authorizations) (live t remaining) (λ k r. r)
      (λ k n. (kept stays (live t remaining) k (rw (withdrawn w) at n)).0) h c))))
      (λ w. cases (grants q)
      (λ f. rw (granted_authorizations b q f) (live-old t b.authorizations (new_authorization b q) h m))
      (λ f. rw (same_authorizations b q f w) m))

-- ---- a list of requests

module _ (h : Head) (t : ℕ) where
  -- what stands after a list, and has a label from before it, stood before and survived
  survived : (later : List Request) (b : Base) → sound b ≡ true → h.label ≤ b.last →
      Stands (play later b) h t →
      Stands b h t × Survives h t later (encode b)
  survived [] b s l m = (m, end)
  survived (q ∷ later) b s l m = cases (eqb (refusal plainly b q) 0)
      (λ e. let z = true_eq (refusal plainly b q) 0 e in
      let k = sound_tests_lem b s in
      let g = passed b q z in
      let c : Base = effect plainly b q in
      let p = survived later c (effect-sound b q s z) (omega (arith, last-stays b q))
      (subst (λ (d : Base). Stands (play later d) h t) (base-accepted b q z) m) in
      let w = stood b q k g h t l p.0 in
      let none : ¬ (TakesBack q h t ⊎ LosesAdministration q h) =
      λ x. true≢false (sym ((taken b q g h t w.0).1 x) ∙ w.1) in
      let bytes : (request (encode b) q).lent ≡ encode c =
      ap (λ (a : Answer). a.lent) (request-accepted b q s z) in
      let base : decode (request (encode b) q).lent ≡ c =
      ap decode bytes ∙ decode-encode c (effect-sound b q s z) in (
        w.0,
        accepted (ap (λ (a : Answer). a.reply) (request-accepted b q s z)) (λ x. none (inl x))
            (λ x. none (inr x))
            (subst (λ (d : Base). Behind d h t) (sym base) (stands_behind b q k g h t p.0))
            (subst (λ (x : List ℕ). Survives h t later x) (sym bytes) p.1),
      ))
      (λ e. let n = false_eq (refusal plainly b q) 0 e in
      let p = survived later b s l (subst (λ (c : Base). Stands (play later c) h t) (base-refused b q n) m) in
      (p.0, refused (refused-number b q s n) p.1))

  -- what stands and survives the list stands after it
  surviving : (later : List Request) (b : Base) → sound b ≡ true → Stands b h t → (x : List ℕ) →
      x ≡ encode b →
      Survives h t later x → Stands (play later b) h t
  surviving [] b s m x i end = m
  surviving (q ∷ later) b s m x i (refused n v) =
      let k = number-refused b q s (subst (λ (y : List ℕ). refusal_number (request y q).reply ≢ 0) i n) in
      subst (λ (c : Base). Stands (play later c) h t) (sym (base-refused b q k)) (surviving later b s m x i v)
  surviving (q ∷ later) b s m x i (accepted done back lost chain v) =
      let z = done_passes b q s (ap (λ (y : List ℕ). (request y q).reply) (sym i) ∙ done) in
      let g = passed b q z in
      let c : Base = effect plainly b q in
      let bytes : (request x q).lent ≡ encode c =
      ap (λ (y : List ℕ). (request y q).lent) i ∙ ap (λ (a : Answer). a.lent) (request-accepted b q s z) in
      let base : decode (request x q).lent ≡ c = ap decode bytes ∙ decode-encode c (effect-sound b q s z) in
      let untouched : takes q h t ≡ false =
      cases (takes q h t) (λ e. absurd (⊎_elim back lost ((taken b q g h t m).0 e))) (λ e. e) in
      let still = still_stands b q (sound_tests_lem b s) g h t m untouched
      (subst (λ (d : Base). Behind d h t) base chain) in
      subst (λ (c : Base). Stands (play later c) h t) (sym (base-accepted b q z))
      (surviving later c (effect-sound b q s z) still (request x q).lent bytes v)

  -- a grant or denial of the list, which the table let pass, gave the instant
  pub record Entered (qs : List Request) (b : Base) : Type 0 where
    pub earlier : List Request
    pub giving : Request
    pub later : List Request
    pub place : qs ≡ earlier ++ (giving ∷ later)
    pub passes : refusal plainly (play earlier b) giving ≡ 0
    pub is_grant : grants giving ≡ true
    pub head : h ≡ new_head (suc (play earlier b).last) giving
    pub inside : in_interval giving.interval t ≡ true

  -- what stands after a list stood before it, or the list gave it
  pub stood_or_entered : (qs : List Request) (b : Base) → sound b ≡ true → Stands (play qs b) h t →
      Stands b h t ⊎ Entered qs b
  stood_or_entered [] b s m = inl m
  stood_or_entered (q ∷ qs) b s m =
      ⊎_elim now later_on (stood_or_entered qs (step b q).base (step-sound b q s) m)
    where
      now : Stands (step b q).base h t → Stands b h t ⊎ Entered (q ∷ qs) b
      now n = cases (eqb (refusal plainly b q) 0)
          (λ e. let z = true_eq (refusal plainly b q) 0 e in ⊎_elim
          (λ w. inl w.0)
          (λ w. inr (record {
            earlier = [];
            giving = q;
            later = qs;
            place = refl;
            passes = z;
            is_grant = w.0;
            head = w.1;
            inside = w.2;
          }))
          (entered b q (sound_tests_lem b s) (passed b q z) h t
          (subst (λ (c : Base). Stands c h t) (base-accepted b q z) n)))
          (λ e. inl (subst (λ (c : Base). Stands c h t)
          (base-refused b q (false_eq (refusal plainly b q) 0 e)) n))

      later_on : Entered qs (step b q).base → Stands b h t ⊎ Entered (q ∷ qs) b
      later_on w = inr (record {
        earlier = q ∷ w.earlier;
        giving = w.giving;
        later = w.later;
        place = ap (λ (xs : List Request). q ∷ xs) w.place;
        passes = w.passes;
        is_grant = w.is_grant;
        head = w.head;
        inside = w.inside;
      })

-- ---- what a grant or denial gives

module _ (g : Request) (label : ℕ) (h : Head) where
  pub gives_head : Gives g label h → (grants g ≡ true) × (h ≡ new_head label g)
  gives_head (grant k e) = (rw k, e ∙ rw k)
  gives_head (denial k e) = (rw k, e ∙ rw k)

  pub head_gives : grants g ≡ true → h ≡ new_head label g → Gives g label h
  head_gives e w = cases (eqb g.kind GRANT)
      (λ x. let k = true_eq g.kind GRANT x in grant k (w ∙ rw k))
      (λ x. cases (eqb g.kind DENY)
      (λ y. let k = true_eq g.kind DENY y in denial k (w ∙ rw k))
      (λ y. absurd (true≢false (sym e ∙ rw (x, y)))))

-- ---- the claim

-- the instants of an accepted grant stand right after it
fresh : (b : Base) (g : Request) (t : ℕ) → grants g ≡ true → in_interval g.interval t ≡ true →
    Stands (effect plainly b g) (new_head (suc b.last) g) t
fresh b g t e i = rw (granted_authorizations b g e) (live-new t b.authorizations (new_authorization b g) i)

given-label : (b : Base) (g : Request) → grants g ≡ true →
    (new_head (suc b.last) g).label ≤ (effect plainly b g).last
given-label b g e = rw (is_kinds g grant_kinds label_kinds refl e) (omega arith)

module _ (qs earlier : List Request) (g : Request) (later : List Request) (h : Head) (t : ℕ)
    (given : Given qs earlier g later h t) where
  abbrev base : Base
  base = base_after earlier

  passes : refusal plainly base g ≡ 0
  passes = done-accepted earlier g given.label given.count given.done

  is_grant : grants g ≡ true
  is_grant = (gives_head g given.label h given.gives).0

  pub given_head : h ≡ new_head (suc base.last) g
  given_head =
      (gives_head g given.label h given.gives).1
      ∙ ap (λ (l : ℕ). new_head l g)
      (done-label earlier g given.label given.count given.done
      ∙ rw (is_kinds g grant_kinds label_kinds refl is_grant))

  inside : in_interval g.interval t ≡ true
  inside = and_intro (leb g.interval.start t) (leb t g.interval.end)
      (le-true g.interval.start t given.starts) (le-true t g.interval.end given.ends)

  -- An instant that a grant or denial of the list gives remains in the bytes after the list exactly if a
  -- chain was behind it after that request, and it survives the later ones
  pub remains :
      let s = after (earlier ++ (g ∷ [])) in
      Stands (decode (after qs)) h t ↔ (Behind (decode s) h t × Survives h t later s)
  remains =
      let b = effect plainly base g in
      let s = after-sound earlier in
      let s' = effect-sound base g s passes in
      let l : h.label ≤ b.last =
      subst (λ (k : Head). k.label ≤ b.last) (sym given_head) (given-label base g is_grant) in
      let now : Stands b h t = subst (λ (k : Head). Stands b k t) (sym given_head)
      (fresh base g t is_grant inside) in
      let now-behind = stands_behind base g (sound_tests_lem base s) (passed base g passes) h t now in
      let next : decode (after (earlier ++ (g ∷ []))) ≡ b =
      after-base (earlier ++ (g ∷ [])) ∙ after_one earlier g passes in
      let bytes : after (earlier ++ (g ∷ [])) ≡ encode b =
      after_bytes (earlier ++ (g ∷ [])) ∙ ap encode (after_one earlier g passes) in
      let last : decode (after qs) ≡ play later b =
      after-base qs ∙ ap base_after given.place ∙ after_more earlier g later passes in (
        (λ m. (
          subst (λ (c : Base). Behind c h t) (sym next) now-behind,
          subst (λ (x : List ℕ). Survives h t later x) (sym bytes)
              (survived h t later b s' l (subst (λ (c : Base). Stands c h t) last m)).1,
        )),
        (λ p. subst (λ (c : Base). Stands c h t) (sym last)
            (surviving h t later b s' now (after (earlier ++ (g ∷ []))) bytes p.1)),
      )
