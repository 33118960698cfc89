-- The digest so far, going on over the rest, is that of all.
use Rattle.std.proofs.Common.{◌≡◌, drop}
use Rattle.channel.specs.Digests.{digest}
use Rattle.channel.proofs.mix_all.Given as goal

abbrev pub invariant-loop-b : goal.invariant-loop-b
invariant-loop-b l = digest l.before l.bytes ≡ digest l.d (drop l.b-index l.bytes)
