-- The copies of the sets on all volumes.
use Rattle.std.proofs.Common.{◌≡◌, ℕ, Bool, true, false, cond, ◌&&◌, ◌||◌, List, [], ◌∷◌, Option, Some, None, IfSome, refl, ap, subst, sym, ◌∙◌, append-nil}
use Rattle.std.specs.List.{find, list_any}
use Rattle.std.specs.Str.{bytes_eq}
use Rattle.std.proofs.lemmas.Bool.{and_parts}
use Rattle.std.proofs.lemmas.Option.{IfSome_then}
use Rattle.vtoc_core.specs.declared.entry.SetKey.{SetKey}
use Rattle.jcl_meaning.specs.declared.names.HeldName.{HeldName}
use Rattle.jcl_meaning.specs.declared.store.DataSet.{DataSet}
use Rattle.jcl_meaning.specs.declared.store.SoloSet.{SoloSet}
use Rattle.jcl_meaning.specs.Parts.{sees_key}
use Rattle.world_meaning.specs.Lenses.{world_key}
use Rattle.mount_core.specs.Mounts.{MountedState}
use Rattle.shared_core.specs.Shown.{mounted_in}
use Rattle.shared_core.specs.Writes.{is_mounted}
use Rattle.part_copy.specs.Copies.{AddsSets, Spot, bare_at, bare_on, bare_under, is_seen_on, set_at}
use Rattle.part_copy.proofs.Copied.{names_same}

none_under : (here : Option SetKey) → bare_under here None ≡ None
none_under None = refl
none_under (Some k) = refl

-- the volume that a search finds
pub find_is : (ms : List MountedState) (s : List ℕ) → find (is_mounted s) ms ≡ mounted_in ms s
find_is [] s = refl
find_is (m ∷ ms) s = ap (cond (bytes_eq m.serial s) (Some m)) (find_is ms s)

-- the volume of a serial has that serial
serial_by : (x m : MountedState) (s : List ℕ) (b : Bool) (rest : Option MountedState) → bytes_eq x.serial s ≡ b → (rest ≡ Some m → m.serial ≡ s) →
    cond b (Some x) rest ≡ Some m → m.serial ≡ s
serial_by x m s true rest e ih h = let same : x ≡ m = cc in ap (λ (y : MountedState). y.serial) (sym same) ∙ names_same x.serial s e
serial_by x m s false rest e ih h = ih h

serial_of : (ms : List MountedState) (s : List ℕ) (m : MountedState) → mounted_in ms s ≡ Some m → m.serial ≡ s
serial_of [] s m h = absurd cc
serial_of (x ∷ ms) s m h = serial_by x m s (bytes_eq x.serial s) (mounted_in ms s) refl (serial_of ms s m) h

module _ (job : ℕ) (volumes : List MountedState) (serial : List ℕ) where
  on_at : (m : MountedState) (here : Option SetKey) (v : List ℕ) (b : Bool) (d : DataSet) → bytes_eq m.serial v ≡ b → mounted_in volumes serial ≡ Some m →
      cond b (bare_under here (Some m)) None ≡ Some d → bare_under here (mounted_in volumes v) ≡ Some d
  on_at m here v true d e there h =
      ap (λ (s : List ℕ). bare_under here (mounted_in volumes s)) (sym (names_same m.serial v e) ∙ serial_of volumes serial m there)
      ∙ ap (bare_under here) there ∙ h
  on_at m here v false d e there h = absurd cc

  -- What is added of the volume of a serial is complete there.
  pub mounted_add : (m : MountedState) (complete : Spot → Bool) (old new : List SoloSet) → mounted_in volumes serial ≡ Some m → AddsSets (bare_on job m) complete old new →
      AddsSets (bare_at job volumes) (λ q. complete q && bytes_eq serial q.1) old new
  mounted_add m complete old new there a = record {
    more = a.more;
    behind = a.behind;
    copied = λ q. IfSome_then (set_at a.more q) (a.copied q) (λ d h. on_at m (world_key job q.0) q.1 (bytes_eq m.serial q.1) d refl there h);
    whole = λ q h.
        let p = and_parts (complete q) (bytes_eq serial q.1) h in
        let at : serial ≡ q.1 = names_same serial q.1 p.1 in
        a.whole q p.0
        ∙ ap (λ b. cond b (bare_under (world_key job q.0) (Some m)) None) (ap (λ (s : List ℕ). bytes_eq s q.1) (serial_of volumes serial m there) ∙ p.1)
        ∙ ap (bare_under (world_key job q.0)) (sym there)
        ∙ ap (λ (s : List ℕ). bare_under (world_key job q.0) (mounted_in volumes s)) at;
  }

  -- On no volume nothing stands.
  pub none_add : (complete : Spot → Bool) (old : List SoloSet) → mounted_in volumes serial ≡ None → AddsSets (bare_at job volumes) (λ q. complete q && bytes_eq serial q.1) old old
  none_add complete old there = record {
    more = [];
    behind = sym (append-nil old);
    copied = λ q. tt;
    whole = λ q h.
        let p = and_parts (complete q) (bytes_eq serial q.1) h in
        sym (ap (λ (s : List ℕ). bare_under (world_key job q.0) (mounted_in volumes s)) (sym (names_same serial q.1 p.1))
        ∙ ap (bare_under (world_key job q.0)) there ∙ none_under (world_key job q.0));
  }

-- what is seen on some volume is seen on one of them
seen_by : (b : Bool) (f : MountedState → Bool) (ms : List MountedState) → b ≡ true → list_any f ms ≡ true → list_any (λ m. b && f m) ms ≡ true
seen_by true f ms e h = h
seen_by false f ms e h = absurd cc

-- a serial of no volume
abbrev is_on_some : List MountedState → List ℕ → Bool
is_on_some volumes serial = list_any (λ m. bytes_eq m.serial serial) volumes

none_on_by : (x : MountedState) (s : List ℕ) (b r : Bool) (rest : Option MountedState) → (r ≡ false → rest ≡ None) → (b || r) ≡ false → cond b (Some x) rest ≡ None
none_on_by x s true r rest ih h = absurd cc
none_on_by x s false r rest ih h = ih h

none_on : (ms : List MountedState) (s : List ℕ) → is_on_some ms s ≡ false → mounted_in ms s ≡ None
none_on [] s h = refl
none_on (x ∷ ms) s h = none_on_by x s (bytes_eq x.serial s) (is_on_some ms s) (mounted_in ms s) (none_on ms s) h

none_found : (o : Option DataSet) → IfSome o (λ d. None ≡ Some d) → o ≡ None
none_found None h = refl
none_found (Some d) h = absurd cc

module _ (job : ℕ) (names : List HeldName) (volumes : List MountedState) (sets : List SoloSet) (added : AddsSets (bare_at job volumes) (is_seen_on names volumes) [] sets) where
  found_by : (q : Spot) (b : Bool) → is_on_some volumes q.1 ≡ b → sees_key names q.0 ≡ true → set_at sets q ≡ bare_at job volumes q
  found_by q true e h =
      ap (λ (xs : List SoloSet). set_at xs q) added.behind ∙ added.whole q (seen_by (sees_key names q.0) (λ m. bytes_eq m.serial q.1) volumes h e)
  found_by q false e h =
      let none : bare_at job volumes q ≡ None = ap (bare_under (world_key job q.0)) (none_on volumes q.1 e) ∙ none_under (world_key job q.0) in
      ap (λ (xs : List SoloSet). set_at xs q) added.behind
      ∙ none_found (set_at added.more q) (subst (λ (o : Option DataSet). IfSome (set_at added.more q) (λ d. o ≡ Some d)) none (added.copied q))
      ∙ sym none

  -- each set that the job sees is found among the copies
  pub all_found : (q : Spot) → sees_key names q.0 ≡ true → set_at sets q ≡ bare_at job volumes q
  all_found q h = found_by q (is_on_some volumes q.1) refl h
