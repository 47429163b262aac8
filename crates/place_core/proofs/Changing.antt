-- The volume of a serial changed in a list of volumes.
use Rattle.std.proofs.Common.{◌≡◌, Bool, true, false, cond, ℕ, List, [], ◌∷◌, Option, Some, refl, ap, ◌∙◌}
use Rattle.std.specs.FinMap.{get}
use Rattle.std.specs.Str.{bytes_eq}
use Rattle.mount_core.specs.declared.place.KeptPlace.{KeptPlace}
use Rattle.mount_core.specs.Mounts.{MountedState}
use Rattle.shared_core.specs.Shown.{kept_extents, mounted_in}
use Rattle.place_core.specs.Volumes.{changed_on}

-- what leaves its volume as it is changes nothing
same_step : (f : MountedState → MountedState) (serial : List ℕ) (m : MountedState) (ms : List MountedState) (b : Bool) → bytes_eq m.serial serial ≡ b →
    ((x : MountedState) → mounted_in (m ∷ ms) serial ≡ Some x → f x ≡ x) →
    (((x : MountedState) → mounted_in ms serial ≡ Some x → f x ≡ x) → changed_on f serial ms ≡ ms) → cond b (f m ∷ ms) (m ∷ changed_on f serial ms) ≡ m ∷ ms
same_step f serial m ms true e h ih = ap (λ x. x ∷ ms) (h m (ap (λ c. cond c (Some m) (mounted_in ms serial)) e))
same_step f serial m ms false e h ih =
    ap (λ l. m ∷ l) (ih (λ x g. h x (ap (λ c. cond c (Some m) (mounted_in ms serial)) e ∙ g)))

pub unchanged : (f : MountedState → MountedState) (serial : List ℕ) (volumes : List MountedState) →
    ((x : MountedState) → mounted_in volumes serial ≡ Some x → f x ≡ x) → changed_on f serial volumes ≡ volumes
unchanged f serial [] h = refl
unchanged f serial (m ∷ ms) h = same_step f serial m ms (bytes_eq m.serial serial) refl h (unchanged f serial ms)

-- a change that another undoes
module _ (f g : MountedState → MountedState) (serial : List ℕ) (stays : (m : MountedState) → (f m).serial ≡ m.serial) where
  undo_step : (m : MountedState) (ms : List MountedState) (b : Bool) → bytes_eq m.serial serial ≡ b →
      ((x : MountedState) → mounted_in (m ∷ ms) serial ≡ Some x → g (f x) ≡ x) →
      (((x : MountedState) → mounted_in ms serial ≡ Some x → g (f x) ≡ x) → changed_on g serial (changed_on f serial ms) ≡ ms) →
      changed_on g serial (cond b (f m ∷ ms) (m ∷ changed_on f serial ms)) ≡ m ∷ ms
  undo_step m ms true e h ih =
      ap (λ c. cond c (g (f m) ∷ ms) (f m ∷ changed_on g serial ms)) (ap (λ s. bytes_eq s serial) (stays m) ∙ e)
      ∙ ap (λ x. x ∷ ms) (h m (ap (λ c. cond c (Some m) (mounted_in ms serial)) e))
  undo_step m ms false e h ih =
      ap (λ c. cond c (g m ∷ changed_on f serial ms) (m ∷ changed_on g serial (changed_on f serial ms))) e
      ∙ ap (λ l. m ∷ l) (ih (λ x q. h x (ap (λ c. cond c (Some m) (mounted_in ms serial)) e ∙ q)))

  pub undone : (volumes : List MountedState) → ((x : MountedState) → mounted_in volumes serial ≡ Some x → g (f x) ≡ x) →
      changed_on g serial (changed_on f serial volumes) ≡ volumes
  undone [] h = refl
  undone (m ∷ ms) h = undo_step m ms (bytes_eq m.serial serial) refl h (undone ms)

-- what is kept at a place that a change leaves alone
module _ (f : MountedState → MountedState) (serial : List ℕ) (at : KeptPlace) (stays : (m : MountedState) → (f m).serial ≡ m.serial)
    (keeps : (m : MountedState) → get (f m).kept at ≡ get m.kept at) where
  kept_first : (m : MountedState) (o p : Option MountedState) (a b : Bool) → a ≡ b → kept_extents o at ≡ kept_extents p at →
      kept_extents (cond a (Some (f m)) o) at ≡ kept_extents (cond b (Some m) p) at
  kept_first m o p a true e h = ap (λ c. kept_extents (cond c (Some (f m)) o) at) e ∙ keeps m
  kept_first m o p a false e h = ap (λ c. kept_extents (cond c (Some (f m)) o) at) e ∙ h

  kept_behind : (m : MountedState) (o p : Option MountedState) (b : Bool) → kept_extents o at ≡ kept_extents p at → kept_extents (cond b (Some m) o) at ≡ kept_extents (cond b (Some m) p) at
  kept_behind m o p true h = refl
  kept_behind m o p false h = h

  kept_step : (v : List ℕ) (m : MountedState) (ms : List MountedState) (b : Bool) → kept_extents (mounted_in (changed_on f serial ms) v) at ≡ kept_extents (mounted_in ms v) at →
      kept_extents (mounted_in (cond b (f m ∷ ms) (m ∷ changed_on f serial ms)) v) at ≡ kept_extents (mounted_in (m ∷ ms) v) at
  kept_step v m ms true h =
      kept_first m (mounted_in ms v) (mounted_in ms v) (bytes_eq (f m).serial v) (bytes_eq m.serial v) (ap (λ s. bytes_eq s v) (stays m)) refl
  kept_step v m ms false h = kept_behind m (mounted_in (changed_on f serial ms) v) (mounted_in ms v) (bytes_eq m.serial v) h

  pub kept_alike : (v : List ℕ) (volumes : List MountedState) → kept_extents (mounted_in (changed_on f serial volumes) v) at ≡ kept_extents (mounted_in volumes v) at
  kept_alike v [] = refl
  kept_alike v (m ∷ ms) = kept_step v m ms (bytes_eq m.serial serial) (kept_alike v ms)
