use borrow.Author.Rules.{rules}
use mathlib.Core.Path.{◌≡◌, sym, ◌∙◌}
use Prim.Native.Nat.{ℕ}
use native.Mathlib.Omega.{arith}
use mathlib.Core.Bool.{Bool, true, false, ◌&&◌, ◌||◌}
use mathlib.Core.List.{List}
use lib.Dec.{leb, eqb}
use lib.ListN.{drop}
use Rattle.foundation.specs.Tests.{or_false}
use Rattle.foundation.specs.Bytes.{le}
use Rattle.model.specs.declared.Request.{Request}
use Rattle.model.specs.Encoding.{decode}
use Rattle.model.specs.EncodingFacts.{sound-length}
use Rattle.model.specs.Soundness.{sound_bytes}
use Rattle.model.specs.SoundnessFacts.{decoded-sound}
use Rattle.model.specs.Requests.{NEW, ADDRULE, GRANTADM, GRANTREF, labels, withdraws, grants}
use Rattle.model.specs.Means.{plainly}
use Rattle.model.specs.Step.{full}
use Rattle.encoding.specs.declared.Counts.{Counts}
use Rattle.encoding.specs.Format.{counts_of}
use Rattle.encoding.proofs.FormatFacts.{decoded_lengths}
use Rattle.effects.proofs.AllowedEffects.{last-read}
use Rattle.requests.proofs.RoomFacts.{no_room, room_is}
use Rattle.requests.proofs.room.no_room.Goals as goal

-- what the code asks
abbrev room_asked : ℕ → Counts → Bool → Bool → ℕ → Bool
room_asked k c granting labelling last =
    (eqb k NEW && leb 128 c.objects)
    || (eqb k GRANTADM && leb 128 c.administrators)
    || (eqb k GRANTREF && leb 128 c.referrers)
    || (granting && leb 1024 c.authorizations)
    || (eqb k ADDRULE && leb 64 c.rules)
    || (labelling && leb 65535 last)

asked_is : (s : List ℕ) (q : Request) → sound_bytes s ≡ true → withdraws q ≡ false →
    (c : Counts) → c ≡ counts_of s → (g : Bool) → g ≡ grants q → (l : Bool) → l ≡ labels q →
    (n : ℕ) → n ≡ le 2 (drop 8 s) →
    room_asked q.kind c g l n ≡ full plainly (decode s) q
asked_is s q e w c ec g eg l el n en =
    let b = decode s in
    let d = decoded_lengths s in
    let a : room_asked q.kind (counts_of s) (grants q) (labels q) (decode s).last ≡ no_room (decode s) q =
    rw (d.0, d.1, d.2, d.3, d.4) (simp or_false) in
    (λ i. room_asked q.kind (ec i) (eg i) (el i) (last-read s n en i)) ∙ a
    ∙ sym (room_is b q (decoded-sound s e).counts w)

pub counts_of-c-requires : goal.counts_of-c-requires
counts_of-c-requires c = omega (arith, sound-length c.args.s.now c.requires.0)

pub le16-last-requires : goal.le16-last-requires
le16-last-requires c = omega (
  arith,
  sound-length c.args.s.now
      c.requires.0,
)

pub returns : goal.returns
returns c =
    let g = c in
    let n = g in
    let k = n in
    let d = k in
    asked_is d.args.s.now d.args.q d.requires.0 d.requires.1 k.counts_of-c.result
    k.counts_of-c.ensures g.is_grant.result g.is_grant.ensures
    c.is_labelling.result c.is_labelling.ensures n.le16-last.result n.le16-last.ensures
