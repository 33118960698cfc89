-- A loop over the authorizations that numbers name: at each turn the number stands in its list, and what it
-- names lies in the bytes. The set `picked-loop` proves by `search` that the code reads both.
use Rattle.std.proofs.Common.{ℕ, ◌+◌, ◌*◌, ◌<◌, ◌≤◌, List, length, get_or, arith, w64, Fits, rules}
use Rattle.relevance.specs.Chosen.{Picks}

module _ (s which : List ℕ) (n i : ℕ) (p : Picks s which n) (h : i < n) where
  -- the i-th number is there,
  pub number-there : i < length which
  number-there = omega (arith, p.room)

  -- and its authorization,
  pub named-inside : get_or which i 0 * 24 + 24 ≤ length s
  named-inside = p.inside i h

  -- so that its place, and the number, fit in a word if the length does
  module _ (l : Fits w64 (length s)) where
    pub place-fits : Fits w64 (get_or which i 0 * 24)
    place-fits = omega (arith, p.inside i h)

    pub number_fits : Fits w64 (get_or which i 0)
    number_fits = omega (arith, p.inside i h)

pub ruleset picked-loop = (number-there, named-inside, place-fits, number_fits, rules)
