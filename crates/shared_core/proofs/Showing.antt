-- What volumes show of the tracks that are kept on them.
use Rattle.std.proofs.Common.{◌≡◌, ℕ, ◌+◌, ◌&&◌, ◌||◌, not, Bool, true, false, cond, List, [], ◌∷◌, map, Option, Some, None, refl, sym, ap, ◌∙◌}
use Rattle.std.specs.Prelude.{filter, sum_by}
use Rattle.std.specs.FinMap.{empty, entries, get, get-empty}
use Rattle.std.specs.List.{flat_map, list_any}
use Rattle.std.specs.Str.{bytes_eq}
use Rattle.std.proofs.lemmas.List.Sums.{sum_by-cons}
use Rattle.extent_core.specs.declared.extent.Extent.{Extent}
use Rattle.jcl_meaning.specs.declared.state.Place.{Place}
use Rattle.vtoc_core.specs.Extents.{tracks_in}
use Rattle.world_meaning.specs.Worlds.{Kept}
use Rattle.mount_core.specs.declared.place.KeptPlace.{KeptPlace}
use Rattle.mount_core.specs.Kept.{Kept as KeptMap, extents_kept, place_cmp}
use Rattle.mount_core.specs.Mounts.{MountedState}
use Rattle.mount_core.proofs.Filtering.{entries_of_part}
use Rattle.mount_core.proofs.Keeping.{tracks_in-append}
use Rattle.mount_core.proofs.Places.{place_total, places_tie}
use Rattle.shared_core.specs.Rooms.{is_same_place, kept_place, without_kept}
use Rattle.shared_core.specs.Shown.{kept_extents}
use Rattle.shared_core.specs.Tracks.{kept_entry, kept_tracks}
use Rattle.shared_core.proofs.NoEntries.{no_entries}

-- what is kept on a volume; where there is none, nothing
abbrev pub kept_map : Option MountedState → KeptMap
kept_map None = empty
kept_map (Some m) = m.kept

pub tracks_of_map : (o : Option MountedState) → kept_tracks o ≡ map kept_entry (entries (kept_map o))
tracks_of_map None = sym (ap (map kept_entry) (no_entries place_total places_tie empty (λ at. get-empty place_cmp at)))
tracks_of_map (Some m) = refl

pub extents_of_map : (o : Option MountedState) (at : KeptPlace) → kept_extents o at ≡ get (kept_map o) at
extents_of_map None at = sym (get-empty place_cmp at)
extents_of_map (Some m) at = refl

-- tests that agree on an entry and on what is shown of it
module _ (p : KeptPlace → Bool) (q : Kept → Bool) (agree : (e : KeptPlace × List Extent) → q (kept_entry e) ≡ p e.0) where
  filter_step : (e : KeptPlace × List Extent) (es : List (KeptPlace × List Extent)) (b : Bool) → q (kept_entry e) ≡ b → p e.0 ≡ b →
      filter q (map kept_entry es) ≡ map kept_entry (filter (λ x. p x.0) es) →
      cond (q (kept_entry e)) (kept_entry e ∷ filter q (map kept_entry es)) (filter q (map kept_entry es))
      ≡ map kept_entry (cond (p e.0) (e ∷ filter (λ x. p x.0) es) (filter (λ x. p x.0) es))
  filter_step e es true h k ih =
      ap (λ b. cond b (kept_entry e ∷ filter q (map kept_entry es)) (filter q (map kept_entry es))) h
      ∙ ap (λ l. kept_entry e ∷ l) ih
      ∙ sym (ap (λ b. map kept_entry (cond b (e ∷ filter (λ x. p x.0) es) (filter (λ x. p x.0) es))) k)
  filter_step e es false h k ih =
      ap (λ b. cond b (kept_entry e ∷ filter q (map kept_entry es)) (filter q (map kept_entry es))) h
      ∙ ih
      ∙ sym (ap (λ b. map kept_entry (cond b (e ∷ filter (λ x. p x.0) es) (filter (λ x. p x.0) es))) k)

  filter-shown : (es : List (KeptPlace × List Extent)) → filter q (map kept_entry es) ≡ map kept_entry (filter (λ x. p x.0) es)
  filter-shown [] = refl
  filter-shown (e ∷ es) = filter_step e es (p e.0) (agree e) refl (filter-shown es)

  -- where the lists at some places are kept and no others, those are shown
  pub part_shown : (o n : Option MountedState) → ((at : KeptPlace) → kept_extents n at ≡ cond (p at) (kept_extents o at) None) →
      kept_tracks n ≡ filter q (kept_tracks o)
  part_shown o n h =
      tracks_of_map n
      ∙ ap (map kept_entry) (entries_of_part p (kept_map o) (kept_map n)
      (λ at. sym (extents_of_map n at) ∙ h at ∙ ap (λ x. cond (p at) x None) (extents_of_map o at)))
      ∙ sym (filter-shown (entries (kept_map o)))
      ∙ ap (filter q) (sym (tracks_of_map o))

pub nothing_shown : (o : Option MountedState) → ((at : KeptPlace) → kept_extents o at ≡ None) → kept_tracks o ≡ []
nothing_shown o h =
    tracks_of_map o ∙ ap (map kept_entry) (no_entries place_total places_tie (kept_map o) (λ at. sym (extents_of_map o at) ∙ h at))

-- the tracks that are shown are those of all lists
shown_sum : (es : List (KeptPlace × List Extent)) → sum_by (λ k. k.tracks) (map kept_entry es) ≡ tracks_in (flat_map (λ e. e.1) es)
shown_sum [] = refl
shown_sum (e ∷ es) =
    sum_by-cons (λ (k : Kept). k.tracks) (kept_entry e) (map kept_entry es) ∙ ap (λ n. tracks_in e.1 + n) (shown_sum es) ∙ sym (tracks_in-append e.1 (flat_map (λ x. x.1) es))

pub sum_shown : (m : MountedState) → sum_by (λ k. k.tracks) (kept_tracks (Some m)) ≡ tracks_in (extents_kept m.kept)
sum_shown m = shown_sum (entries m.kept)

-- sets that are made use up what was kept for them
abbrev is_made_at : ℕ → List ℕ → KeptPlace → Place → Bool
is_made_at job serial at p = is_same_place at (kept_place job p) && bytes_eq serial p.serial

abbrev pub is_made : ℕ → List Place → List ℕ → KeptPlace → Bool
is_made job places serial at = list_any (is_made_at job serial at) places

unless_made : (a b : Bool) (x : Option (List Extent)) → cond (not b) (cond a None x) None ≡ cond (not (a || b)) x None
unless_made true true x = refl
unless_made true false x = refl
unless_made false b x = refl

pub without-kept : (job : ℕ) (places : List Place) (kept : List ℕ → KeptPlace → Option (List Extent)) (serial : List ℕ) (at : KeptPlace) →
    without_kept job places kept serial at ≡ cond (not (is_made job places serial at)) (kept serial at) None
without-kept job [] kept serial at = refl
without-kept job (p ∷ places) kept serial at =
    without-kept job places (λ s a. cond (is_same_place a (kept_place job p) && bytes_eq s p.serial) None (kept s a)) serial at
    ∙ unless_made (is_made_at job serial at p) (is_made job places serial at) (kept serial at)
