-- Labels: of two accepted requests the later one has the greater label (`labels-differ`), so that a label has
-- one place in a list (`one_place`).
use Rattle.std.specs.Prelude.{◌≡◌, refl, ◌⊎◌, ◌≢◌, ℕ, suc, ◌≤◌, ◌<◌}
use Rattle.std.proofs.Common.{sym, ap, ap₂, ◌∙◌, subst, inl, inr, ⊎_elim, arith}
use mathlib.Core.List.{List, [], ◌∷◌, ◌++◌, head-eq_of_cons-eq, tail-eq_of_cons-eq}
use Rattle.foundation.specs.Tests.{cases}
use Rattle.model.specs.declared.Head.{Head}
use Rattle.model.specs.declared.Request.{Request}
use Rattle.model.specs.declared.Reply.TheVariants.{Done}
use Rattle.model.specs.Base.{Base}
use Rattle.model.specs.Requests.{labels}
use Rattle.model.specs.Means.{plainly}
use Rattle.model.specs.Step.{effect}
use Rattle.model.specs.Answers.{request}
use Rattle.model.specs.Survival.{Gives, grant, denial, after, Given}
use Rattle.theorems.specs.PlayFacts.{base_after, play-last, after_more, done-accepted, done-label}
use Rattle.theorems.specs.Remains.{given_head}

-- q is accepted after `earlier`, and r after q and those between: r's label, if it takes one, is greater
pub labels_differ : (earlier : List Request) (q : Request) (between : List Request) (r : Request)
    (label count label' count' : ℕ) →
    (request (after earlier) q).reply ≡ Done label count →
    (request (after (earlier ++ (q ∷ between))) r).reply ≡ Done label' count' →
    label' ≢ 0 → label < label'
labels_differ earlier q between r label count label' count' e f n =
    let b = effect plainly (base_after earlier) q in
    let c = base_after (earlier ++ (q ∷ between)) in
    let up : b.last ≤ c.last = subst (λ (d : Base). b.last ≤ d.last)
    (sym (after_more earlier q between (done-accepted earlier q label count e))) (play-last between b) in
    let l : label ≤ b.last = subst (λ (k : ℕ). k ≤ b.last) (sym (done-label earlier q label count e))
    (cases (labels q) (λ k. rw k (omega arith)) (λ k. rw k (omega arith))) in
    let d = done-label (earlier ++ (q ∷ between)) r label' count' f in
    cases (labels r) (λ k. omega (arith, rw k at d)) (λ k. absurd (n (rw k at d)))

-- ---- places in a list

-- two places in a list are one, or the one is in front of the other
places : {A : Type 0} (xs : List A) (x : A) (xs' ys : List A) (y : A) (ys' : List A) →
    xs ++ (x ∷ xs') ≡ ys ++ (y ∷ ys') →
    ((xs ≡ ys) × (x ≡ y) × (xs' ≡ ys'))
    ⊎ (((m : List A) × (ys ≡ xs ++ (x ∷ m))) ⊎ ((m : List A) × (xs ≡ ys ++ (y ∷ m))))
places {A} [] x xs' [] y ys' e = inl (refl, head-eq_of_cons-eq e, tail-eq_of_cons-eq e)
places {A} [] x xs' (z ∷ ys) y ys' e =
    inr (inl (ys, ap (λ (w : A). w ∷ ys) (sym (head-eq_of_cons-eq e))))
places {A} (z ∷ xs) x xs' [] y ys' e = inr (inr (xs, ap (λ (w : A). w ∷ xs) (head-eq_of_cons-eq e)))
places {A} (z ∷ xs) x xs' (w ∷ ys) y ys' e = ⊎_elim
    (λ p. inl (ap₂ (λ (v : A) (vs : List A). v ∷ vs) h p.0, p.1, p.2))
    (⊎_elim
    (λ p. inr (inl (p.0, ap₂ (λ (v : A) (vs : List A). v ∷ vs) (sym h) p.1)))
    (λ p. inr (inr (p.0, ap₂ (λ (v : A) (vs : List A). v ∷ vs) h p.1))))
    (places xs x xs' ys y ys' (tail-eq_of_cons-eq e))
  where
    h : z ≡ w
    h = head-eq_of_cons-eq e

-- ---- a label has one place

-- the head's label is the reply's
own : (g : Request) (label : ℕ) (h : Head) → Gives g label h → h.label ≡ label
own g label h (grant k e) = ap (λ (x : Head). x.label) e
own g label h (denial k e) = ap (λ (x : Head). x.label) e

-- of two grants or denials of a list, the later one has the greater label
later-label : (qs earlier : List Request) (g : Request) (later : List Request) (h : Head) (t : ℕ)
    (earlier' : List Request) (g' : Request) (later' : List Request) (h' : Head) (t' : ℕ) →
    Given qs earlier g later h t → Given qs earlier' g' later' h' t' →
    (m : List Request) → earlier' ≡ earlier ++ (g ∷ m) → h.label < h'.label
later-label qs earlier g later h t earlier' g' later' h' t' x y m e =
    let up : h'.label ≡ suc (base_after earlier').last =
    ap (λ (k : Head). k.label) (given_head qs earlier' g' later' h' t' y) in
    let l = own g x.label h x.gives in
    let l' = own g' y.label h' y.gives in
    let less = labels_differ earlier g m g' x.label x.count y.label y.count x.done
    (subst (λ (xs : List Request). (request (after xs) g').reply ≡ Done y.label y.count) e y.done)
    (λ z. omega (arith, up, l', z)) in
    omega (arith, l, l', less)

pub one_place : (qs earlier : List Request) (g : Request) (later : List Request) (h : Head) (t : ℕ)
    (earlier' : List Request) (g' : Request) (later' : List Request) (h' : Head) (t' : ℕ) →
    Given qs earlier g later h t → Given qs earlier' g' later' h' t' → h.label ≡ h'.label →
    (earlier ≡ earlier') × (g ≡ g') × (later ≡ later')
one_place qs earlier g later h t earlier' g' later' h' t' x y e = ⊎_elim
    (λ p. p)
    (⊎_elim
    (λ p. absurd (omega (
      arith,
      e,
      later-label qs earlier g later h t earlier' g' later' h' t' x y p.0 p.1,
    )))
    (λ p. absurd (omega (
      arith,
      e,
      later-label qs earlier' g' later' h' t' earlier g later h t y x p.0 p.1,
    ))))
    (places earlier g later earlier' g' later' (sym x.place ∙ y.place))
