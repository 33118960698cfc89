-- The pieces of a part put into the body one after the other: the state between two of them, and how it goes
-- on. Then one part after the other.
use mathlib.Core.Path.{◌≡◌, refl, sym, ap, ◌∙◌}
use Prim.Native.Nat.{ℕ, ◌+◌, ◌-◌, ◌≤◌, ◌<◌, min, max}
use native.Mathlib.Omega.{arith}
use mathlib.Core.Bool.{Bool, not, false≢true}
use mathlib.Core.List.{List, [], ◌∷◌, ◌++◌}
use lib.ListN.{length, length-append}
use Rattle.foundation.specs.Intervals.{interval}
use Rattle.model.specs.declared.Head.{Head}
use Rattle.model.specs.declared.Authorization.{Authorization}
use Rattle.model.specs.Withdrawal.{authorization}
use Rattle.cover.specs.First.{first}
use Rattle.cover.specs.Cover.{want_of, covered_by}
use Rattle.foundation.specs.Lists.{placed}
use Rattle.pieces.specs.declared.cut.Stretch.{Stretch}
use Rattle.std.specs.Prelude.{Result, Ok, Err, IsErr}
use Rattle.pieces.specs.declared.body.Full.{Full}
use Rattle.pieces.specs.Stretches.{maximal_to}
use Rattle.pieces.specs.Puts.{Puts, Makes}
use Rattle.pieces.proofs.BodyFacts.{placed_none, placed-then, length-placed}
use Rattle.pieces.specs.CutParts.{may_grant, pieces_to, parts_of}
use Rattle.pieces.proofs.PartFacts.{covered-pieces, pieces_same, pieces_past, pieces_end, pieces_next}
use Rattle.pieces.proofs.PartFacts.{pieces_off}

-- The pieces of h from a on, before b, are put into ys at `at`: those before t are in, which gives zs, and the
-- others go in at the place p. For h's grantor zs covers what ys does.
pub record Putting (root : Bool) (ys : List Authorization) (h : Head) (a b at p t : ℕ) (zs : List Authorization) :
    Type 0 where
  pub place : p ≤ length zs
  pub count : p + length ys ≡ at + length zs
  pub final : placed p (pieces_to root ys h t b) zs ≡ placed at (pieces_to root ys h a b) ys
  pub same : (u : ℕ) → covered_by (want_of h) zs u ≡ covered_by (want_of h) ys u

module _ (root : Bool) (ys : List Authorization) (h : Head) (a b at p t : ℕ) (zs : List Authorization)
    (g : Putting root ys h a b at p t zs) where
  -- none is left
  done : pieces_to root ys h t b ≡ [] → Puts at (pieces_to root ys h a b) ys (Ok p) zs
  done e =
      let f : zs ≡ placed at (pieces_to root ys h a b) ys =
      sym (placed_none p zs) ∙ ap (λ (x : List Authorization). placed p x zs) (sym e) ∙ g.final in
      let n = ap (λ (x : List Authorization). length x) f in
      (f, omega (arith, g.count, n, length-placed at (pieces_to root ys h a b) ys))

  pub putting_past : b ≤ t → Puts at (pieces_to root ys h a b) ys (Ok p) zs
  putting_past l = done (pieces_past root ys h t b l)

  abbrev may_not : ℕ → Bool
  may_not u = not (may_grant root (want_of h) zs u)

  module _ (on : ℕ) (l : t ≤ b) (e : on ≡ first (may_grant root (want_of h) zs) t b) where
    pub putting_end : b ≤ on → Puts at (pieces_to root ys h a b) ys (Ok p) zs
    putting_end j = done (pieces_end root ys zs h t b on g.same l e j)

    module _ (j : on < b) where
      next : (off : ℕ) → off ≡ first may_not on b →
          pieces_to root ys h t b ≡ authorization h (interval on (off - 1)) ∷ pieces_to root ys h off b
      next off f = pieces_next root ys zs h t b on g.same l e off j f

      -- one more is too many
      pub putting_full : 1024 ≤ length zs → 1024 < length (placed at (pieces_to root ys h a b) ys)
      putting_full q =
          let n = ap (λ (x : List Authorization). length x) (next (first may_not on b) refl) in
          let m = ap (λ (x : List Authorization). length x) g.final in
          omega (arith, n, m, length-placed p (pieces_to root ys h t b) zs)

      module _ (off : ℕ) (f : off ≡ first may_not on b) where
        pub putting_off : (t ≤ on) × (on < off) × (off ≤ b)
        putting_off = pieces_off root ys zs h t b on g.same l e off j f

        -- it goes in
        pub putting_next : (zs' : List Authorization) →
            zs' ≡ placed p (authorization h (interval on (off - 1)) ∷ []) zs →
            Putting root ys h a b at (p + 1) off zs'
        putting_next zs' i =
            let x = authorization h (interval on (off - 1)) in
            let q = g.place in
            let n = length-placed p (x ∷ []) zs in
            let m = ap (λ (y : List Authorization). length y) i in
            record {
              place = omega (arith, n, m);
              count = omega (arith, n, m, g.count);
              final = ap (placed (p + 1) (pieces_to root ys h off b)) i
                  ∙ placed-then p (x ∷ []) (pieces_to root ys h off b) zs q
                  ∙ ap (λ (y : List Authorization). placed p y zs) (sym (next off f))
                  ∙ g.final;
              same = λ u.
                  ap (λ (y : List Authorization). covered_by (want_of h) y u) i
                  ∙ covered-pieces (want_of h) p h (interval on (off - 1) ∷ []) zs u (omega arith)
                  ∙ g.same u;
            }

-- ---- what was answered

module _ (p : ℕ) (ps ys zs : List Authorization) where
  pub puts_err : (r : Result ℕ Full) → IsErr r → 1024 < length (placed p ps ys) → Puts p ps ys r zs
  puts_err (Ok q) h l = absurd (false≢true h)
  puts_err (Err e) h l = l

  pub puts-within : (q : ℕ) → p ≤ length ys → Puts p ps ys (Ok q) zs → q ≤ length zs
  puts-within q h e = omega (arith, e.1, ap (λ (z : List Authorization). length z) e.0, length-placed p ps ys)

pub makes_err : {A : Type 0} (ys zs : List Authorization) (r : Result A Full) → IsErr r → 1024 < length ys →
    Makes ys r zs
makes_err ys zs (Ok q) h l = absurd (false≢true h)
makes_err ys zs (Err e) h l = l

-- ---- both parts of an authorization

module _ (taken : Stretch) (root : Bool) (ys : List Authorization) (x : Authorization) (at b : ℕ)
    (g : b ≡ min (x.interval.end + 1) taken.from) where
  abbrev part : ℕ → ℕ → List Authorization
  part a e = pieces_to root ys x.head a e

  first_part : part x.interval.start (min (x.interval.end + 1) taken.from)
      ≡ part x.interval.start b
  first_part = ap (part x.interval.start) (sym g)

  -- where the first is too long, both are
  pub parts-full : 1024 < length (placed at (pieces_to root ys x.head x.interval.start b) ys) →
      1024 < length (placed at (parts_of taken root ys x) ys)
  unfolding parts_of
  parts-full h =
      let s = x.interval.start in
      let e = x.interval.end + 1 in
      omega (
        arith,
        h,
        ap (λ (z : List Authorization). length z) first_part,
        length-placed at (part s b) ys,
        length-placed at (parts_of taken root ys x) ys,
        length-append (part s (min e taken.from)) (part (max s taken.to) e),
      )

  -- The second goes in behind the first: it is what it would be without, since the first supports none of it
  module _ (q a : ℕ) (zs : List Authorization) (l : at ≤ length ys) (f : a ≡ max x.interval.start taken.to)
      (p : Puts at (pieces_to root ys x.head x.interval.start b) ys (Ok q) zs) where
    abbrev e : ℕ
    e = x.interval.end + 1

    tail : pieces_to root zs x.head a e ≡ part (max x.interval.start taken.to) e
    unfolding pieces_to
    tail =
        let s = x.interval.start in
        pieces_same root ys zs x.head a e
        (λ u. ap (λ (z : List Authorization). covered_by (want_of x.head) z u) p.0
        ∙ covered-pieces (want_of x.head) at x.head
        (maximal_to s b (may_grant root (want_of x.head) ys)) ys u
        (omega arith))
        ∙ ap (λ (i : ℕ). part i e) f

    both : placed q (pieces_to root zs x.head a e) zs ≡ placed at (parts_of taken root ys x) ys
    unfolding parts_of
    both =
        let s = x.interval.start in
        (λ i. placed (p.1 i) (tail i) (p.0 i))
        ∙ placed-then at (part s b) (part (max s taken.to) e) ys l
        ∙ ap (λ (z : List Authorization). placed at (z ++ part (max s taken.to) e) ys) (sym first_part)

    behind : q + length (pieces_to root zs x.head a e) ≡ at + length (parts_of taken root ys x)
    unfolding parts_of
    behind =
        let s = x.interval.start in
        omega (
          arith,
          p.1,
          ap (λ (z : List Authorization). length z) tail,
          ap (λ (z : List Authorization). length z) first_part,
          length-append (part s (min e taken.from)) (part (max s taken.to) e),
        )

    pub parts_then : (zs' : List Authorization) (r : Result ℕ Full) →
        Puts q (pieces_to root zs x.head a (x.interval.end + 1)) zs r zs' →
        Puts at (parts_of taken root ys x) ys r zs'
    parts_then zs' (Ok k) h = (h.0 ∙ both, h.1 ∙ behind)
    parts_then zs' (Err w) h = rw both at h
