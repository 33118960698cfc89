-- Where tables lie in the slices that hold them.
use Rattle.std.specs.Prelude.{List, ℕ, ◌*◌, take, drop}

-- ---- of 536 words: what is drawn of the rules, and where their tables are

-- the masks of left sides
abbrev pub left_of : List ℕ → List ℕ
left_of outline = take 152 outline

-- which rule precedes which, and which choosy rules each feeds
abbrev pub feed_of : List ℕ → List ℕ
feed_of outline = take 128 (drop 152 outline)

-- where the table of each rule starts
abbrev pub first_of : List ℕ → List ℕ
first_of outline = take 64 (drop 280 outline)

-- where its broken bits start
abbrev pub starts_of : List ℕ → List ℕ
starts_of outline = take 64 (drop 344 outline)

-- the instants of its interval
abbrev pub active_of : List ℕ → List ℕ
active_of outline = take 64 (drop 408 outline)

-- its stratum
abbrev pub strata_of : List ℕ → List ℕ
strata_of outline = take 64 (drop 472 outline)

-- ---- of 1666 bytes

-- the codes of left sides
abbrev pub sides_of : List ℕ → List ℕ
sides_of coordinates = take 256 coordinates

-- those of right sides
abbrev pub rights_of : List ℕ → List ℕ
rights_of coordinates = take 256 (drop 256 coordinates)

-- the coordinates of subjects and of objects
abbrev pub subjects_of : List ℕ → List ℕ
subjects_of coordinates = take 1024 (drop 512 coordinates)

abbrev pub objects_of : List ℕ → List ℕ
objects_of coordinates = take 130 (drop 1536 coordinates)

-- ---- of numbers, `size` being how many pairs there are

-- the number of each pair
abbrev pub numbered_of : ℕ → List ℕ → List ℕ
numbered_of size numbers = take size numbers

-- the pair of each number
abbrev pub listed_of : ℕ → List ℕ → List ℕ
listed_of size numbers = take size (drop size numbers)

-- the authorizations that were chosen
abbrev pub which_of : ℕ → List ℕ → List ℕ
which_of size numbers = drop (2 * size) numbers

-- ---- of words that are worked in, `words` of them having fields

abbrev pub fields_of : ℕ → List ℕ → List ℕ
fields_of words work = take words work

-- the broken bits
abbrev pub broken_of : ℕ → List ℕ → List ℕ
broken_of words work = drop words work
