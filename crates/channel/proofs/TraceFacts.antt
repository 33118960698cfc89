-- What was read by the trace, one read or none at a time.
use Rattle.std.specs.Prelude.{◌≡◌, refl, List, [], ◌++◌, ℕ}
use Rattle.std.proofs.Common.{sym, ap, ◌∙◌, arith}
use Rattle.channel.specs.Digests.{digest}
use Rattle.channel.specs.declared.Channel.{Channel}
use Rattle.channel.specs.declared.Got.{Got}
use Rattle.channel.specs.declared.Got.TheVariants.{Unasked, End}
use Rattle.channel.specs.Trace.{arrived, Opened, Fetched, Unread, Read}
use Rattle.channel.proofs.DigestFacts.{digest_none, digest-twice}

-- at the start
pub read_none : {c : Channel} → Opened c → Read [] c
read_none o = record {
  seen = o.seen ∙ sym (digest_none 0);
  asked = λ z. let n : ◌≡◌ {A = Got} Unasked End = sym o.got ∙ z in absurd cc;
}

-- one read more
pub read_more : {input buf : List ℕ} {c r : Channel} → Read input c → Fetched c buf r →
    Read (input ++ arrived r.got buf) r
read_more {input} {buf} {c} {r} w f = record {
  seen = f.seen ∙ ap (λ (n : ℕ). digest n (arrived r.got buf)) w.seen
      ∙ digest-twice 0 input (arrived r.got buf);
  asked = λ z. omega (arith, f.reads);
}

-- and nothing between that read and `r`
pub fetched_then : {buf : List ℕ} {b c r : Channel} → Fetched b buf c → Unread c r → Fetched b buf r
fetched_then {buf} {b} f u = record {
  seen = u.seen ∙ f.seen ∙ ap (λ (z : Got). digest b.seen (arrived z buf)) (sym u.got);
  reads = u.reads ∙ f.reads;
}

-- no read in between
pub read_same : {input : List ℕ} {c r : Channel} → Read input c → Unread c r → Read input r
read_same w u = record {
  seen = u.seen ∙ w.seen;
  asked = λ z. omega (arith, u.reads, w.asked (sym u.got ∙ z));
}

pub unread_none : (c : Channel) → Unread c c
unread_none c = record { seen = refl; reads = refl; got = refl }

pub unread_then : {a b c : Channel} → Unread a b → Unread b c → Unread a c
unread_then u v = record {
  seen = v.seen ∙ u.seen;
  reads = v.reads ∙ u.reads;
  got = v.got ∙ u.got;
}
