-- The tests of soundness one by one: `sound-tests` and `tests-sound`.
use Rattle.std.specs.Prelude.{◌≡◌, refl, Bool, true, List, ℕ}
use Rattle.std.proofs.Common.{inl, inr}
use Rattle.foundation.specs.Tests.{and-true}
use Rattle.foundation.specs.Lists.{Mem, all_mem}
use Rattle.foundation.specs.Bytes.{eq_list, eq_list_eq}
use Rattle.model.specs.Base.{Base}
use Rattle.model.specs.Stratification.{stratified}
use Rattle.model.specs.Step.{counts_hold}
use Rattle.model.specs.Encoding.{encode, decode}
use Rattle.model.specs.Soundness.{in_order, ranges_hold, intervals_hold, granted_in_time, denials_plain}
use Rattle.model.specs.Soundness.{objects_exist}
use Rattle.model.specs.Soundness.{owners_apart, labels_apart, labels_agree, all_supported, authors_may}
use Rattle.model.specs.Soundness.{stars_match}
use Rattle.model.specs.Soundness.{right_denials_plain, sound_tests, sound, sound_bytes}

-- a field a test
pub record Sound (b : Base) : Type 0 where
  pub counts : counts_hold b ≡ true
  pub order : in_order b ≡ true
  pub ranges : ranges_hold b ≡ true
  pub intervals : intervals_hold b ≡ true
  pub granted : granted_in_time b ≡ true
  pub denials : denials_plain b ≡ true
  pub objects : objects_exist b ≡ true
  pub owners : owners_apart b ≡ true
  pub labels : labels_apart b ≡ true
  pub agree : labels_agree b ≡ true
  pub support : all_supported b ≡ true
  pub authors : authors_may b ≡ true
  pub stars : stars_match b ≡ true
  pub right : right_denials_plain b ≡ true
  pub strata : stratified b.rules ≡ true

pub sound_tests_lem : (b : Base) → sound b ≡ true → Sound b
unfolding sound
sound_tests_lem b e =
    let t : (x : Bool) → Mem x (sound_tests b) → x ≡ true = all_mem (λ x. x) (sound_tests b) e in
    record {
      counts = t _ (inl refl);
      order = t _ (inr (inl refl));
      ranges = t _ (inr (inr (inl refl)));
      intervals = t _ (inr (inr (inr (inl refl))));
      granted = t _ (inr (inr (inr (inr (inl refl)))));
      denials = t _ (inr (inr (inr (inr (inr (inl refl))))));
      objects = t _ (inr (inr (inr (inr (inr (inr (inl refl)))))));
      owners = t _ (inr (inr (inr (inr (inr (inr (inr (inl refl))))))));
      labels = t _ (inr (inr (inr (inr (inr (inr (inr (inr (inl refl)))))))));
      agree = t _ (inr (inr (inr (inr (inr (inr (inr (inr (inr (inl refl))))))))));
      support = t _ (inr (inr (inr (inr (inr (inr (inr (inr (inr (inr (inl refl)))))))))));
      authors = t _ (inr (inr (inr (inr (inr (inr (inr (inr (inr (inr (inr (inl refl))))))))))));
      stars = t _ (inr (inr (inr (inr (inr (inr (inr (inr (inr (inr (inr (inr (inl refl)))))))))))));
      right = t _ (inr (inr (inr (inr (inr (inr (inr (inr (inr (inr (inr (inr (inr (inl refl))))))))))))));
      strata = t _ (inr (inr (inr (inr (inr (inr (inr
          (inr (inr (inr (inr (inr (inr (inr (inl refl)))))))))))))));
    }

pub tests-sound : (b : Base) → Sound b → sound b ≡ true
unfolding sound
tests-sound b s =
    rw (
      s.counts,
      s.order,
      s.ranges,
      s.intervals,
      s.granted,
      s.denials,
      s.objects,
      s.owners,
      s.labels,
      s.agree,
      s.support,
      s.authors,
      s.stars,
      s.right,
      s.strata,
    )

-- sound bytes are the encoding of their decoding, which is sound
pub sound_bytes_lem : (s : List ℕ) → sound_bytes s ≡ true → (encode (decode s) ≡ s) × (sound (decode s) ≡ true)
unfolding sound_bytes
sound_bytes_lem s e =
    let p = and-true (eq_list (encode (decode s)) s) (sound (decode s)) e in
    (eq_list_eq (encode (decode s)) s p.0, p.1)

pub decoded-sound : (s : List ℕ) → sound_bytes s ≡ true → Sound (decode s)
decoded-sound s e = sound_tests_lem (decode s) (sound_bytes_lem s e).1
