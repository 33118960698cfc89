-- What has passed a channel: the digests of the bytes that were read and of those that were handed to be
-- written, how many reads there were, what the last one answered, and whether every write worked. That a read
-- gives what was sent, and that what is handed over is written, is left to trust.
use Rattle.std.specs.Prelude.{◌≡◌, ◌⊎◌, true, List, ℕ, ◌+◌, ◌≤◌, ◌<◌, length, take}
use Rattle.std.proofs.Common.{⊎_elim, arith, sym, ◌∙◌}
use Rattle.channel.specs.Counts.{clamp_len}
use Rattle.channel.specs.Digests.{digest}
use Rattle.channel.specs.declared.Channel.{Channel}
use Rattle.channel.specs.declared.Got.{Got}
use Rattle.channel.specs.declared.Got.TheVariants.{Unasked, End, Failed}

-- what a read that answered `got` left at the front of the buffer
abbrev pub arrived : Got → List ℕ → List ℕ
arrived got buf = take (clamp_len got (length buf)) buf

-- nothing has passed, and no read has said that the input has ended
pub record Opened (c : Channel) : Type 0 where
  pub seen : c.seen ≡ 0
  pub sent : c.sent ≡ 0
  pub reads : c.reads ≡ 0
  pub got : c.got ≡ Unasked
  pub ok : c.ok ≡ true

-- `r` has one read more than `c`, whose bytes are at the front of `buf`
pub record Fetched (c : Channel) (buf : List ℕ) (r : Channel) : Type 0 where
  pub seen : r.seen ≡ digest c.seen (arrived r.got buf)
  pub reads : r.reads ≡ c.reads + 1

-- nothing was read between `c` and `r`
pub record Unread (c r : Channel) : Type 0 where
  pub seen : r.seen ≡ c.seen
  pub reads : r.reads ≡ c.reads
  pub got : r.got ≡ c.got

-- nothing was written
pub record Unwritten (c r : Channel) : Type 0 where
  pub sent : r.sent ≡ c.sent
  pub ok : r.ok ≡ c.ok

-- `bytes` were handed to be written, and nothing was read; a write that failed before is not forgotten
pub record Handed (c : Channel) (bytes : List ℕ) (r : Channel) : Type 0 where
  pub sent : r.sent ≡ digest c.sent bytes
  pub unread : Unread c r
  pub ok : r.ok ≡ true → c.ok ≡ true

-- `input` has the digest that was kept of what was read; and where the last read is said to have said that the
-- input has ended, one was counted
pub record Read (input : List ℕ) (c : Channel) : Type 0 where
  pub seen : c.seen ≡ digest 0 input
  pub asked : c.got ≡ End → 0 < c.reads

-- the last read said that the input has ended, or failed
abbrev pub Through : Channel → Type 0
Through c = (c.got ≡ End) ⊎ (c.got ≡ Failed)

-- where every write worked, that is why the program stopped, or its reads can no longer be counted
abbrev pub Stopped : Channel → Type 0
Stopped c = c.ok ≡ true → Through c ⊎ (18446744073709551615 ≤ c.reads)

-- where nothing was read and every write worked, the program is not to stop
pub unread_goes_on : {b c : Channel} → Opened b → Unread b c → c.ok ≡ true → Stopped c → ⊥
unread_goes_on o u ok stop = ⊎_elim
    (λ t. ⊎_elim
    (λ z. let n : ◌≡◌ {A = Got} Unasked End = sym o.got ∙ sym u.got ∙ z in cc)
    (λ z. let n : ◌≡◌ {A = Got} Unasked Failed = sym o.got ∙ sym u.got ∙ z in cc) t)
    (λ h. omega (arith, o.reads, u.reads))
    (stop ok)
