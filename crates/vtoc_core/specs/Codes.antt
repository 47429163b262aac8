-- The codes by which the sets of volumes are told apart.
use Rattle.std.specs.Prelude.{◌≡◌, ◌⊎◌, ℕ, List, Option, refl}
use Rattle.std.proofs.Common.{inl, inr}
use Rattle.std.specs.Coded.{Coded, code_by, coded×, coded⊎, coded_list, coded_option, coded_ℕ}
use Rattle.arrayvec.specs.ArrayVec.{ArrayVec, array_vec_code}
use Rattle.extent_core.specs.declared.extent.Extent.{Extent}
use Rattle.vtoc_core.specs.declared.entry.SetEntry.{SetEntry}
use Rattle.vtoc_core.specs.declared.entry.SetKey.{SetKey}
use Rattle.vtoc_core.specs.declared.entry.SetKey.TheVariants.{Named, Temporary, Unnamed}

abbrev pub coded_extent : Coded Extent
coded_extent =
    code_by (ℕ × ℕ) (coded× coded_ℕ coded_ℕ) (λ e. (e.start, e.tracks)) (λ p. record { start = p.0; tracks = p.1 }) (λ _. refl)

abbrev pub coded_entry : Coded SetEntry
coded_entry =
    code_by (ArrayVec Extent × (Option ℕ × List (List ℕ)))
    (coded× (array_vec_code coded_extent) (coded× (coded_option coded_ℕ) (coded_list (coded_list coded_ℕ))))
    (λ e. (e.extents, (e.expires, e.records))) (λ p. record { extents = p.0; expires = p.1.0; records = p.1.1 }) (λ _. refl)

abbrev pub split_key : SetKey → List ℕ ⊎ ((ℕ × List ℕ) ⊎ (ℕ × (ℕ × ℕ)))
split_key (Named a) = inl a
split_key (Temporary i a) = inr (inl (i, a))
split_key (Unnamed i s d) = inr (inr (i, (s, d)))

abbrev pub joined_key : List ℕ ⊎ ((ℕ × List ℕ) ⊎ (ℕ × (ℕ × ℕ))) → SetKey
joined_key (inl a) = Named a
joined_key (inr (inl p)) = Temporary p.0 p.1
joined_key (inr (inr p)) = Unnamed p.0 p.1.0 p.1.1

abbrev pub joined-split : (k : SetKey) → joined_key (split_key k) ≡ k
joined-split (Named a) = refl
joined-split (Temporary i a) = refl
joined-split (Unnamed i s d) = refl

abbrev pub coded_key : Coded SetKey
coded_key =
    code_by (List ℕ ⊎ ((ℕ × List ℕ) ⊎ (ℕ × (ℕ × ℕ))))
    (coded⊎ (coded_list coded_ℕ) (coded⊎ (coded× coded_ℕ (coded_list coded_ℕ)) (coded× coded_ℕ (coded× coded_ℕ coded_ℕ))))
    split_key joined_key joined-split
