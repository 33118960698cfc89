-- Which authorizations are needed: a table says for each place, a subject's and an object's coordinate, which
-- modes are, with both signs.
use Rattle.std.specs.Prelude.{◌≡◌, ℕ, ◌+◌, ◌-◌, ◌*◌, ◌<◌, ◌≤◌, Bool, false, not, ◌&&◌, ◌||◌, List, length, ◌==◌, nat_eq, slice_index}
use Rattle.foundation.specs.Lists.{keep_if}
use Rattle.foundation.specs.CoordinateTables.{coordinate}
use Rattle.foundation.specs.declared.Interval.{Interval}
use Rattle.model.specs.declared.Access.{Access}
use Rattle.model.specs.declared.Authorization.{Authorization}
use Rattle.model.specs.declared.Head.{Head}
use Rattle.encoding.specs.Format.{authorizations_in}
use Rattle.sections.specs.Sections.{subjects_of, objects_of}
use Rattle.places.specs.ReachedNumbers.{pair_index}
use Rattle.places.specs.Needs.{both_at}
use Rattle.relevance.specs.declared.choice.Cell.{Cell}
use Rattle.relevance.specs.Chosen.{authorization_at, picked}
use Rattle.relevance.specs.Forgotten.{during}

abbrev pub cell_of : List ℕ → List ℕ → Access → Head → Cell
cell_of subjects objects x h = record {
  subject = coordinate subjects x.subject h.subject;
  object = coordinate objects x.object h.object;
}

-- an authorization with these coordinates is needed: both are there, and its mode is needed there
abbrev pub needed_in : ℕ → List ℕ → Cell → Head → Bool
needed_in stride need c h =
    not (c.subject == 255 || c.object == 255)
    && both_at (slice_index need (pair_index stride c.object c.subject)) (h.mode - 1)

abbrev pub is_needed : List ℕ → List ℕ → Access → ℕ → List ℕ → Authorization → Bool
is_needed subjects objects x stride need a =
    needed_in stride need (cell_of subjects objects x a.head) a.head

-- an authorization has one of the asked instants, and is needed
abbrev pub is_chosen : Interval → List ℕ → List ℕ → Access → ℕ → List ℕ → Authorization → Bool
is_chosen asked subjects objects x stride need a =
    during asked.start asked.end a && is_needed subjects objects x stride need a

-- the same by the bytes that hold the coordinates
abbrev pub is_chosen_by : List ℕ → Interval → Access → ℕ → List ℕ → Authorization → Bool
is_chosen_by coordinates asked = is_chosen asked (subjects_of coordinates) (objects_of coordinates)

-- what a sound base says of an authorization, as far as the tables need it
pub record HeadInRange (h : Head) : Type 0 where
  pub subject : h.subject < 1024
  pub object : h.object < 130
  pub some : 1 ≤ h.mode
  pub mode : h.mode ≤ 8

-- coordinates that are both there have their place in the table
pub record CellInTable (c : Cell) (stride : ℕ) (need : List ℕ) : Type 0 where
  pub narrow : stride ≤ 256
  pub object : c.object ≤ 255
  pub subject : c.subject ≤ 255
  pub inside : nat_eq c.subject 255 || (c.object == 255) ≡ false →
      pair_index stride c.object c.subject < length need

-- the bytes hold the authorizations, the tables have room for their places, and the list for their numbers
pub record ChoiceReady (s : List ℕ) (total : ℕ) (subjects objects : List ℕ) (stride : ℕ)
    (need which : List ℕ) :
    Type 0 where
  pub bytes : total * 24 ≤ length s
  pub placed : (i : ℕ) → i < total → HeadInRange (authorization_at s i).head
  pub narrow : stride ≤ 256
  pub columns : (v : ℕ) → slice_index subjects v < stride
  pub rows : (v : ℕ) → (slice_index objects v + 1) * stride ≤ length need
  pub numbers : total ≤ 65536
  pub room : total ≤ length which

-- the same by the bytes that hold the coordinates
abbrev pub ChoiceReadyBy : List ℕ → ℕ → List ℕ → ℕ → List ℕ → List ℕ → Type 0
ChoiceReadyBy s total coordinates stride need which =
    ChoiceReady s total (subjects_of coordinates) (objects_of coordinates) stride need which
    × (1666 ≤ length coordinates)

-- the first n numbers are those of the authorizations that pass the test, in order
pub record Choice (test : Authorization → Bool) (s : List ℕ) (total : ℕ) (entry exit : List ℕ) (n : ℕ) : Type
    0 where
  pub chosen : picked s exit n ≡ keep_if test (authorizations_in total s)
  pub few : n ≤ total
  pub below : (j : ℕ) → j < n → slice_index exit j < total
  pub same_length : length exit ≡ length entry
