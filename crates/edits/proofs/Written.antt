-- Bytes of which it is said that they are how a base is written are sound exactly if the base is.
use mathlib.Core.Path.{◌≡◌, ap}
use Prim.Native.Nat.{ℕ}
use mathlib.Core.Bool.{true}
use mathlib.Core.List.{List}
use Rattle.model.specs.Base.{Base}
use Rattle.model.specs.Encoding.{encode, decode}
use Rattle.model.specs.Soundness.{sound_bytes}
use Rattle.model.specs.SoundnessFacts.{sound_bytes_lem}
use Rattle.model.specs.FitsFacts.{BaseFits, base-fits}
use Rattle.model.specs.EncodingFacts.{decode-fits}
use Rattle.edits.specs.Edits.{Written}

-- ---- bytes

pub written-sound : (s : List ℕ) → sound_bytes s ≡ true → Written s
written-sound s e =
    let t = sound_bytes_lem s e in
    record { encoded = t.0; fits = base-fits (decode s) t.1 }

pub written-encode : (b : Base) → BaseFits b → Written (encode b)
written-encode b f = record { encoded = ap encode (decode-fits b f); fits = rw (decode-fits b f) f }
