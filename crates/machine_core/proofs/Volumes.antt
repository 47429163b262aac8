-- The volumes as they stand have the lines that are shown of them, serial by serial.
use Rattle.std.proofs.Common.{◌≡◌, ◌≢◌, ◌∙◌, ◌++◌, Bool, ℕ, List, [], ◌∷◌, All, Option, Some, length, map, refl, sym, ap, cond}
use Rattle.std.specs.Prelude.{sum_by}
use Rattle.std.specs.Str.{bytes_eq}
use Rattle.std.proofs.lemmas.Bool.{false_from_ne_true}
use Rattle.std.proofs.lemmas.List.Elements.{All-head, All-tail}
use Rattle.std.proofs.lemmas.Slice.Eq.{bytes_eq-Decides}
use Rattle.plain.specs.Lists.{Differ}
use Rattle.jcl_plan.specs.declared.entry.Entry.{Entry}
use Rattle.jcl_plan.specs.declared.entry.Entry.TheVariants as entry
use Rattle.cb_queue.specs.RecordQueues.{RecordQueue}
use Rattle.mount_core.specs.Mounts.{MountedState}
use Rattle.world_meaning.specs.Displays.{volume_line}
use Rattle.world_meaning.specs.Worlds.{Shared}
use Rattle.place_core.specs.Placings.{serials_of}
use Rattle.shared_core.specs.Shown.{mounted_in}
use Rattle.shared_core.specs.Tracks.{free_tracks, kept_tracks}
use Rattle.machine_core.specs.declared.parts.Parts.{Parts}
use Rattle.machine_core.specs.Events.{Shows, line_of}
use Rattle.machine_core.specs.Shown.{shown}

abbrev at : List ℕ → MountedState → List MountedState → Bool → Option MountedState
at serial m ms same = cond same (Some m) (mounted_in ms serial)

-- each of these volumes is found by its serial
abbrev AreFoundIn : List MountedState → List MountedState → Type 0
AreFoundIn volumes [] = Unit {0}
AreFoundIn volumes (m ∷ ms) = (mounted_in volumes m.serial ≡ Some m) × AreFoundIn volumes ms

behind : (m : MountedState) (volumes ms : List MountedState) → All (λ s. m.serial ≢ s) (serials_of ms) → AreFoundIn volumes ms → AreFoundIn (m ∷ volumes) ms
behind m volumes [] apart found = tt
behind m volumes (x ∷ ms) apart found =
    let other : m.serial ≢ x.serial = All-head (λ s. m.serial ≢ s) x.serial (serials_of ms) apart in (
      ap (at x.serial m volumes) (false_from_ne_true (bytes_eq m.serial x.serial) (λ e. other ((bytes_eq-Decides m.serial x.serial).0 e))) ∙ found.0,
      behind m volumes ms (All-tail (λ s. m.serial ≢ s) x.serial (serials_of ms) apart) found.1,
    )

are_found : (ms : List MountedState) → Differ (serials_of ms) → AreFoundIn ms ms
are_found [] differ = tt
are_found (m ∷ ms) differ = (
  ap (at m.serial m ms) ((bytes_eq-Decides m.serial m.serial).1 refl),
  behind m ms ms differ.0 (are_found ms differ.1),
)

abbrev line_at : List ℕ → Option MountedState → Entry
line_at serial o = entry.Volume serial (free_tracks o) (sum_by (λ k. k.tracks) (kept_tracks o))

module _ {Q : Type 0} (queue_of : Q → RecordQueue) (p : Parts Q) where
  each_line : (ms : List MountedState) → AreFoundIn p.store.volumes ms → map line_of ms ≡ map (volume_line (shown queue_of p)) (serials_of ms)
  each_line [] found = refl
  each_line (m ∷ ms) found = λ i. line_at m.serial (sym found.0 i) ∷ each_line ms found.1 i

  pub shows : (running waiting records : ℕ) (lines : List Entry) → Differ (serials_of p.store.volumes) → waiting ≡ length (queue_of p.queue).waiting →
      records ≡ length (shown queue_of p).records.free → lines ≡ map line_of p.store.volumes ++ entry.Queue waiting running records ∷ [] →
      Shows queue_of (serials_of p.store.volumes) p running lines
  shows running waiting records lines differ waits free told w is =
      let one_each : map line_of p.store.volumes ≡ map (volume_line w.shared) w.config.volumes =
      each_line p.store.volumes (are_found p.store.volumes differ)
      ∙ (λ i. map (volume_line (sym is.of.shared_so i)) (sym is.of.volumes_so i)) in
      let counts : records ≡ length w.shared.records.free = free ∙ ap (λ (s : Shared). length s.records.free) (sym is.of.shared_so) in
      told ∙ (λ i. one_each i ++ entry.Queue ((waits ∙ sym is.waiting) i) (sym is.running_so i) (counts i) ∷ [])
