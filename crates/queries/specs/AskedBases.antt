-- A sound base as a question is put to it.
use Rattle.model.specs.Base.{Base}
use Rattle.model.specs.Encoding.{decode}
use Rattle.queries.specs.declared.asked.AskedBase.{AskedBase}
use Rattle.queries.specs.Asking.{BodiesIn}

-- the bodies are those of a base, with the owners and administrators of the bytes
abbrev pub Asked : AskedBase → Base → Type 0
Asked a base = BodiesIn a.records.now a.totals (decode a.bytes.now) base

abbrev pub IsAsked : AskedBase → Type 0
IsAsked a = (base : Base) × Asked a base
