-- What a request does that the rows before 13 let pass: row 13 is asked of its effect, and either refuses it
-- or leaves the effect's bytes (`CarriedOut`).
use Rattle.std.specs.Prelude.{◌≡◌, true, List, ℕ}
use Rattle.foundation.specs.Tests.{pick}
use Rattle.model.specs.declared.Request.{Request}
use Rattle.model.specs.declared.Reply.{Reply}
use Rattle.model.specs.declared.Reply.TheVariants.{Refused}
use Rattle.model.specs.Encoding.{encode, decode}
use Rattle.model.specs.Soundness.{sound_bytes}
use Rattle.model.specs.Means.{plainly}
use Rattle.model.specs.Step.{first_number, full, effect, accepting}
use Rattle.laws.specs.EarlyRows.{early_rows}

-- the bytes are sound, and none of the rows before 13 applies
pub record PassesEarly (s : List ℕ) (q : Request) : Type 0 where
  pub sound : sound_bytes s ≡ true
  pub early : first_number (early_rows (decode s) q) ≡ 0

-- the reply r, and the bytes s' that are left in the place of s
pub record CarriedOut (s : List ℕ) (q : Request) (r : Reply) (s' : List ℕ) : Type 0 where
  pub reply : r ≡ pick (full plainly (decode s) q) (Refused 13)
      (accepting (decode s) q (effect plainly (decode s) q))
  pub bytes : s' ≡ pick (full plainly (decode s) q) s (encode (effect plainly (decode s) q))
