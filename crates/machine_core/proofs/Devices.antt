-- A device's end, and a writer, as the table of cases has them.
use Rattle.std.proofs.Common.{◌≡◌, ◌≢◌, ℕ, Bool, true, false, ◌||◌, List, [], ◌∷◌, Some, All, refl, sym, ap, ◌∙◌}
use Rattle.std.specs.List.{Contains, list_any}
use Rattle.std.specs.Str.{bytes_eq}
use Rattle.std.proofs.lemmas.List.Elements.{All-cons, All-nil}
use Rattle.std.proofs.lemmas.Map.Views.{Contains-from_any}
use Rattle.std.proofs.lemmas.Slice.Eq.{bytes_eq-Decides}
use Rattle.jcl_plan.specs.declared.entry.Entry.TheVariants as entry
use Rattle.jcl_plan.specs.declared.fault.Cause.TheVariants.{A}
use Rattle.jcl_plan.specs.declared.fault.EventFault.TheVariants.{NoSuchVolume, NothingUnderWay}
use Rattle.prog_core.specs.declared.units.Operation.{Operation}
use Rattle.prog_core.specs.Operations.{is_busy, without_operation}
use Rattle.world_meaning.specs.Devices.{EndsDevice, ended, idle, no_volume}
use Rattle.world_meaning.specs.Worlds.{Shared, World}

is_contained : (serial : List ℕ) (volumes : List (List ℕ)) → list_any (bytes_eq serial) volumes ≡ true → Contains volumes serial
is_contained serial volumes h = Contains-from_any {eq = bytes_eq} (λ x y. (bytes_eq-Decides x y).0) serial volumes h

neither : (a b : Bool) → (a || b) ≡ false → (a ≡ false) × (b ≡ false)
neither true b h = absurd cc
neither false b h = (refl, h)

differs : (b : Bool) (serial v : List ℕ) → bytes_eq serial v ≡ b → b ≡ false → v ≢ serial
differs true serial v e h = absurd cc
differs false serial v e h = λ same. absurd (clash (sym e ∙ (bytes_eq-Decides serial v).1 (sym same)))
  where
    clash : false ≡ true → ⊥
    clash c = absurd cc

is_missing : (serial : List ℕ) (volumes : List (List ℕ)) → list_any (bytes_eq serial) volumes ≡ false → All (λ v. v ≢ serial) volumes
is_missing serial [] h = All-nil (λ (v : List ℕ). v ≢ serial)
is_missing serial (v ∷ vs) h =
    let both = neither (bytes_eq serial v) (list_any (bytes_eq serial) vs) h in
    All-cons (λ (x : List ℕ). x ≢ serial) v vs (differs (bytes_eq serial v) serial v refl both.0) (is_missing serial vs both.1)

pub device_missing : (w : World) (serial : List ℕ) (volumes : List (List ℕ)) → w.config.volumes ≡ volumes → list_any (bytes_eq serial) volumes ≡ false →
    EndsDevice w serial (entry.Refused (A NoSuchVolume) ∷ []) w
device_missing w serial volumes its h = no_volume (is_missing serial w.config.volumes (ap (list_any (bytes_eq serial)) its ∙ h)) refl refl

pub device_idle : (w : World) (s : Shared) (serial : List ℕ) (volumes : List (List ℕ)) → w.config.volumes ≡ volumes → w.shared ≡ s →
    list_any (bytes_eq serial) volumes ≡ true → is_busy s.operations (Some serial) ≡ false → EndsDevice w serial (entry.Refused (A NothingUnderWay) ∷ []) w
device_idle w s serial volumes its shared h free =
    idle (is_contained serial w.config.volumes (ap (list_any (bytes_eq serial)) its ∙ h)) (ap (λ (x : Shared). is_busy x.operations (Some serial)) shared ∙ free) refl refl

pub device_ends : (w : World) (s : Shared) (operations : List Operation) (serial : List ℕ) (volumes : List (List ℕ)) → w.config.volumes ≡ volumes → w.shared ≡ s →
    list_any (bytes_eq serial) volumes ≡ true → is_busy s.operations (Some serial) ≡ true → operations ≡ without_operation s.operations serial →
    EndsDevice w serial [] (record w { shared = record s { operations = operations } })
device_ends w s operations serial volumes its shared h busy ends =
    ended (is_contained serial w.config.volumes (ap (list_any (bytes_eq serial)) its ∙ h)) (ap (λ (x : Shared). is_busy x.operations (Some serial)) shared ∙ busy) refl
    (λ i. record w { shared = record (sym shared i) { operations = (ends ∙ ap (λ (x : Shared). without_operation x.operations serial) (sym shared)) i } })

pub not_idle : (b : Bool) → (b ≡ false → false ≡ true) → b ≡ true
not_idle true h = refl
not_idle false h = h refl
