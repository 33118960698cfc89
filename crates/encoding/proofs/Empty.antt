-- An empty base in bytes, and what `create` answers by the length. Assumes nothing.
use mathlib.Core.Path.{◌≡◌, refl, sym, ap, ◌∙◌}
use mathlib.Core.Bool.{true, false}
use mathlib.Core.List.{List, ◌++◌}
use Prim.Native.Nat.{ℕ}
use lib.Dec.{eqb}
use lib.ListN.{length, replicate, replicate-append-replicate}
use Rattle.fields.specs.Field.{splice}
use Rattle.model.specs.declared.Reply.TheVariants.{Done}
use Rattle.model.specs.Base.{empty_base}
use Rattle.model.specs.Encoding.{size, mark, heading, bodies, encode}
use Rattle.model.specs.Answers.{create, answering, refusing}
use Rattle.encoding.specs.Format.{contents_of}
use Rattle.encoding.specs.declared.Counts.{Counts}

-- the counts of an empty base
abbrev pub no_records : Counts
no_records = record { objects = 0; administrators = 0; referrers = 0; authorizations = 0; rules = 0 }

-- the mark and the contents over zeros, whatever stands behind the heading
over_zeros : (rest : List ℕ) → splice 12 (contents_of no_records) (splice 0 mark (replicate 32 0 ++ rest))
    ≡ heading empty_base ++ bodies empty_base ++ rest
unfolding splice
over_zeros rest = refl

pub empty_bytes : splice 12 (contents_of no_records) (splice 0 mark (replicate size 0)) ≡ encode empty_base
unfolding encode
empty_bytes =
    let e : replicate size 0 ≡ replicate 32 0 ++ replicate {A = ℕ} 27904 0 =
    sym (replicate-append-replicate 32 27904 0) in
    ap (λ (l : List ℕ). splice 12 (contents_of no_records) (splice 0 mark l)) e ∙ over_zeros (replicate 27904 0)

module _ (s : List ℕ) where
  pub create-refused : eqb (length s) size ≡ false → create s ≡ refusing s 2
  unfolding create
  create-refused e = rw e

  pub create-made : eqb (length s) size ≡ true → create s ≡ answering (Done 0 0) (encode empty_base)
  unfolding create
  create-made e = rw e
