-- What is handed on of a base, for many questions: words that hold what is drawn of its rules.
use Rattle.std.specs.Prelude.{◌≡◌, List, ℕ, length, get_or, take, drop}
use Rattle.foundation.specs.Lists.{each}
use Rattle.foundation.specs.Bytes.{bytes_of}
use Rattle.model.specs.Base.{Base}
use Rattle.model.specs.Encoding.{decode}
use Rattle.encoding.specs.declared.Counts.{Counts}
use Rattle.encoding.specs.Format.{counts_of, authorizations_at}
use Rattle.sections.specs.Sections.{left_of, feed_of, sides_of, rights_of, subjects_of, objects_of}
use Rattle.queries.specs.declared.Extent.{Extent}
use Rattle.queries.specs.declared.Totals.{Totals}
use Rattle.queries.specs.Drawing.{RulesDrawn, chart_for}
use Rattle.queries.specs.Asking.{body_in}

-- the bytes of words, eight a word
abbrev pub bytes_in : List ℕ → List ℕ
bytes_in words = each words (bytes_of 8)

module _ (words : List ℕ) where
  -- the sections of the outline that are drawn of the rules alone
  abbrev pub outline_in : List ℕ
  outline_in = take 280 words

  abbrev pub coordinates_in : List ℕ
  coordinates_in = take 1666 (bytes_in (take 209 (drop 280 words)))

  abbrev pub extent_in : Extent
  extent_in = record {
    subjects = get_or words 489 0;
    objects = get_or words 490 0;
    choosy = get_or words 491 0;
  }

-- the words hold what is drawn of the n rules in a body
abbrev pub HandedBy : Base → ℕ → List ℕ → List ℕ → Type 0
HandedBy holder n body words = RulesDrawn holder n
    (chart_for (subjects_of (coordinates_in words)) (objects_of (coordinates_in words)) (extent_in words)) body
    (left_of (outline_in words)) (feed_of (outline_in words)) (sides_of (coordinates_in words))
    (rights_of (coordinates_in words)) (extent_in words).choosy

-- of those behind the authorizations
abbrev pub HandedIn : List ℕ → Totals → List ℕ → Base → Type 0
HandedIn records n words holder = HandedBy holder n.rules (body_in records n) words

abbrev pub totals_of : Counts → Totals
totals_of c = record { authorizations = c.authorizations; rules = c.rules }

-- of those in the bytes s of a base
pub record HandedOn (s words : List ℕ) : Type 0 where
  pub size : length words ≡ 492
  pub drawn : HandedIn (drop (authorizations_at (counts_of s)) s) (totals_of (counts_of s)) words (decode s)
