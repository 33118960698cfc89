-- Walks in n words that were just made: what is asked before one (`walk-ready`) and what it finds
-- (`walk-finds`).
use native.Mathlib.Omega.{arith}
use mathlib.Core.Path.{◌≡◌, sym, subst}
use mathlib.Core.List.{List}
use Prim.Native.Nat.{ℕ, ◌-◌}
use lib.ListN.{length, replicate}
use Rattle.std.proofs.lemmas.List.{length-replicate}
use Rattle.model.specs.Base.{Base}
use Rattle.model.specs.declared.Access.{Access}
use Rattle.tables.specs.declared.Frame.{Frame}
use Rattle.engine.specs.declared.Found.{Found}
use Rattle.engine.specs.declared.WindowWalk.{WindowWalk}
use Rattle.engine.specs.Going.{Roomy, WalksIn}
use Rattle.engine.specs.Posed.{Finds}
use Rattle.queries.specs.Starting.{BegunIn, Sectioned, Sized, RoomFor, broken_words}
use Rattle.queries.proofs.StartingFacts.{framed, zeros_at, begun-roomy, begun-walk, begun_fields}
use Rattle.queries.proofs.StartingFacts.{begun-bits}

module _ (records outline coordinates need numbers : List ℕ) (w : WindowWalk) where
  abbrev Begins : Type 0
  Begins = (base : Base) × (x : Access) × BegunIn records outline coordinates need numbers w base x

module _ {records outline coordinates need numbers : List ℕ} {w : WindowWalk} (n : ℕ)
    (p : Sectioned records outline coordinates need numbers w × RoomFor n w
    × Begins records outline coordinates need numbers w)
    -- the frame g has fields as wide as the words have room for beside k for the broken bits
    {g : Frame} {k : ℕ} (e : k ≡ broken_words w.bits) (s : Sized w.frame (n - k) g) where
  abbrev work : List ℕ
  work = replicate n 0

  long : n ≡ length work
  long = sym (length-replicate n 0)

  room : RoomFor (length work) w
  room = subst (λ (m : ℕ). RoomFor m w) long p.1

  beside : Sized w.frame (length work - broken_words w.bits) g
  beside = subst (λ (m : ℕ). Sized w.frame (m - broken_words w.bits) g) long
      (subst (λ (m : ℕ). Sized w.frame (n - m) g) e s)

  pub walk_ready : Roomy records outline coordinates need numbers work (framed w g)
      × ((base : Base) × (x : Access)
      × WalksIn records outline coordinates need numbers work (framed w g) base x)
  walk_ready =
      let r = begun-walk p.0 work room.0 (zeros_at n) g beside p.2.2 in
      (begun-roomy p.0 work room.0 (zeros_at n) g beside, (r.small, p.2.1, r.walks))

  pub walk_finds : {r : Found} {old new : List ℕ} →
      ((base : Base) (x : Access) →
      WalksIn records outline coordinates need numbers work (framed w g) base x →
      Finds w.query base x r old new) →
      (base : Base) (x : Access) → BegunIn records outline coordinates need numbers w base x →
      Finds w.query base x r old new
  walk_finds {r = r} {old} {new} f base x b =
      let y = begun-walk p.0 work room.0 (zeros_at n) g beside b in
      y.found r old new (f y.small x y.walks)

-- 5,975 words have room for any base, by the bounds of all fields and of all broken bits
pub any_room : (records outline coordinates need numbers : List ℕ) (w : WindowWalk) →
    Sectioned records outline coordinates need numbers w → Begins records outline coordinates need numbers w →
    RoomFor 5975 w
any_room records outline coordinates need numbers w h b =
    (omega (arith, begun-bits b.2), omega (arith, begun_fields b.2, begun-bits b.2))
