-- MAY of the simple engine (02, change request 6: "A simple engine to compare with"): its refusals, and that
-- its answer is the main one's where it gives one. What it is to be is here; the engine itself is crate
-- simple. THEOREMS in SimpleFacts: `simple-main`, `simple-circular`.
use Rattle.std.specs.Prelude.{ℕ, not, List, [], ◌∷◌, ◌++◌}
use Rattle.model.specs.declared.Question.{Question}
use Rattle.model.specs.declared.Reply.{Reply}
use Rattle.model.specs.declared.Reply.TheVariants.{Refused}
use Rattle.model.specs.Base.{Base}
use Rattle.model.specs.Circles.{circular}
use Rattle.model.specs.Rules.{may}
use Rattle.model.specs.Step.{Row, row, refused_or}
use Rattle.model.specs.Encoding.{decode}
use Rattle.model.specs.Soundness.{sound_bytes}
use Rattle.model.specs.Answers.{may_table, may_reply}

-- 02: "Turned away: 15, circular, by the simple engine only, exactly if some feeding circle exists; it comes
-- last", and of change request 7's links: "For CR 6 such links count as feeding"
abbrev pub simple_table : Base → Question → List Row
simple_table b q = may_table b q ++ (row 15 (circular b.rules) ∷ [])

-- the simple engine's MAY over lent bytes, which it leaves as they are
unfoldable pub simple_answer : List ℕ → Question → Reply
simple_answer s q =
    let r = may_reply (may (decode s) q.access q.instant) in
    refused_or (row 2 (not (sound_bytes s)) ∷ simple_table (decode s) q) Refused r
