-- The codes by which the entries of a catalog are told apart.
use Rattle.std.specs.Prelude.{◌≡◌, ◌⊎◌, ℕ, Bool, List, refl}
use Rattle.std.proofs.Common.{inl, inr}
use Rattle.std.specs.Coded.{Coded, code_by, coded×, coded⊎, coded_bool, coded_list, coded_ℕ}
use Rattle.group_core.specs.declared.entry.CatEntry.{CatEntry}
use Rattle.group_core.specs.declared.entry.CatEntry.TheVariants.{Volume, Group}
use Rattle.group_core.specs.declared.group.Generation.{Generation}
use Rattle.group_core.specs.Groups.{GroupState}

abbrev pub coded_generation : Coded Generation
coded_generation =
    code_by (ℕ × List ℕ) (coded× coded_ℕ (coded_list coded_ℕ)) (λ g. (g.number, g.serial)) (λ p. record { number = p.0; serial = p.1 }) (λ _. refl)

abbrev pub coded_group : Coded GroupState
coded_group =
    code_by (ℕ × (Bool × List Generation)) (coded× coded_ℕ (coded× coded_bool (coded_list coded_generation)))
    (λ g. (g.limit, (g.scratch, g.generations))) (λ p. record { limit = p.0; scratch = p.1.0; generations = p.1.1 }) (λ _. refl)

abbrev pub split_entry : CatEntry → List ℕ ⊎ GroupState
split_entry (Volume serial) = inl serial
split_entry (Group g) = inr g

abbrev pub joined_entry : List ℕ ⊎ GroupState → CatEntry
joined_entry (inl serial) = Volume serial
joined_entry (inr g) = Group g

abbrev pub joined-split : (e : CatEntry) → joined_entry (split_entry e) ≡ e
joined-split (Volume serial) = refl
joined-split (Group g) = refl

abbrev pub coded_entry : Coded CatEntry
coded_entry = code_by (List ℕ ⊎ GroupState) (coded⊎ (coded_list coded_ℕ) coded_group) split_entry joined_entry joined-split
