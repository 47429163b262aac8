-- The start of a configuration, from what every configuration has.
use Rattle.std.proofs.Common.{◌≡◌, ◌≤◌, ℕ, zero, suc, Bool, true, false, cond, List, [], ◌∷◌, map, All, IfSome, IsSome, Option, Some, None, is_none, length, replicate, slice_index_or, inl, inr, refl, sym, ap, subst, ◌∙◌, arith}
use Rattle.std.specs.FinMap as finite
use Rattle.std.specs.Option.{option_map}
use Rattle.std.specs.Str.{bytes_eq}
use Rattle.std.proofs.lemmas.List.Elements.{All-head, All-map, All-nil, All-tail}
use Rattle.vtoc_core.specs.declared.entry.SetEntry.{SetEntry}
use Rattle.vtoc_core.specs.declared.entry.SetKey.{SetKey}
use Rattle.vtoc_core.specs.declared.entry.SetKey.TheVariants.{Temporary, Unnamed}
use Rattle.cb_meaning.specs.declared.layout.Layout.{Layout}
use Rattle.cb_meaning.specs.declared.layout.TheConstants.{LAYOUT_1}
use Rattle.cb_meaning.specs.Spelled.{Records}
use Rattle.cb_meaning.specs.Walks.{is_free}
use Rattle.cb_records.specs.Writes.{FitsRecord, HoldsNumber}
use Rattle.cb_queue.specs.RecordQueues as queue
use Rattle.cb_queue.specs.RecordQueues.{IsSoundQueue, bytes_or_zeros, empty_queue, no_records, record_at, shown}
use Rattle.cb_queue.proofs.Changing.{sound_empty}
use Rattle.machine_meaning.specs.declared.config.ConfiguredInitiator.{ConfiguredInitiator}
use Rattle.mount_core.specs.declared.place.KeptPlace.{KeptPlace}
use Rattle.mount_core.specs.Kept.{place_cmp}
use Rattle.mount_core.specs.Mounts.{MountedState}
use Rattle.shared_core.specs.Shown.{data_of, kept_extents, mounted_in, set_on}
use Rattle.world_meaning.specs.Starts.{AreOfWaiting, IsWellFormed}
use Rattle.world_meaning.specs.Worlds.{Config, Initiator}
use Rattle.config_core.specs.Configs.{Configuration}
use Rattle.config_core.specs.Configured.{HasNamedSets, IsConfigured, IsNamed, numbers_of}
use Rattle.config_core.specs.Sets.{NothingKept}
use Rattle.config_core.specs.Starts.{StartsOfConfigurations, StartsWithJobs, WaitAtStart, idle, start_config, start_shared}
use Rattle.plain.specs.Lists.{Differ}

-- what holds of each volume holds of the one that is found
found_by : (P : MountedState → Type 0) (b : Bool) (m : MountedState) (o : Option MountedState) → P m → IfSome o P → IfSome (cond b (Some m) o) P
found_by P true m o h hs = h
found_by P false m o h hs = hs

pub of_found : (P : MountedState → Type 0) (volumes : List MountedState) (serial : List ℕ) → All P volumes → IfSome (mounted_in volumes serial) P
of_found P [] serial h = tt
of_found P (m ∷ ms) serial h =
    found_by P (bytes_eq m.serial serial) m (mounted_in ms serial) (All-head P m ms h) (of_found P ms serial (All-tail P m ms h))

-- nothing is kept
no_place_kept : (o : Option MountedState) (place : KeptPlace) → IfSome o (λ m. m.kept ≡ finite.empty) → kept_extents o place ≡ None
no_place_kept None place h = refl
no_place_kept (Some m) place h = ap (λ kept. finite.get kept place) h ∙ finite.get-empty place_cmp place

pub nothing_on : (volumes : List MountedState) → NothingKept volumes → (serial : List ℕ) (place : KeptPlace) → kept_extents (mounted_in volumes serial) place ≡ None
nothing_on volumes h serial place = no_place_kept (mounted_in volumes serial) place (of_found (λ m. m.kept ≡ finite.empty) volumes serial h)

-- no job has a set of its own
no_entry : (o : Option SetEntry) → (IsSome o → ⊥) → option_map data_of o ≡ None
no_entry None h = refl
no_entry (Some entry) h = absurd (h refl)

no_set : (o : Option MountedState) (key : SetKey) → (IsNamed key → ⊥) → IfSome o HasNamedSets → set_on o key ≡ None
no_set None key unnamed h = refl
no_set (Some m) key unnamed h = no_entry (finite.get m.volume.sets key) (λ there. unnamed (h key there))

store_is_good : (c : Configuration) (q : Records) (date : ℕ) → IsConfigured c → IsWellFormed (start_shared c q date).store
store_is_good c q date h = record {
  entries = h.entries;
  no_temporary = λ job name serial. no_set (mounted_in c.volumes serial) (Temporary job name) (λ e. e) (of_found HasNamedSets c.volumes serial h.sets);
  no_unnamed = λ job step dd serial. no_set (mounted_in c.volumes serial) (Unnamed job step dd) (λ e. e) (of_found HasNamedSets c.volumes serial h.sets);
}

-- All records are free. What holds of the numbers of another layout with as many records holds of these.
abbrev as_many : Layout → Layout
as_many l = record LAYOUT_1 { most_records = l.most_records }

in_two_bytes : (at : ℕ) → at ≤ 174 → HoldsNumber (record { at = at; width = 2 })
in_two_bytes at h = record { few = omega arith; within = omega (arith, h) }

fits_record : (l : Layout) → FitsRecord (as_many l)
fits_record l = record {
  link = in_two_bytes 4 (omega arith);
  first_step = in_two_bytes 12 (omega arith);
  steps = in_two_bytes 14 (omega arith);
  next_step = in_two_bytes 8 (omega arith);
  first_dd = in_two_bytes 10 (omega arith);
  dds = in_two_bytes 12 (omega arith);
  next_dd = in_two_bytes 8 (omega arith);
  below = in_two_bytes 10 (omega arith);
  cards = in_two_bytes 26 (omega arith);
  expiry_kind = record { few = omega arith; within = omega arith };
  expiry_days = record { few = omega arith; within = omega arith };
  next_cards = in_two_bytes 8 (omega arith);
}

own_link : (l : Layout) → queue.HasOwnLink (as_many l)
own_link l = record { fits = fits_record l; kind = inr (omega arith); owner = inr (omega arith); status = inl (omega arith) }

sound : (l : Layout) → IsSoundQueue (empty_queue (as_many l))
sound l = sound_empty (as_many l) (own_link l)

none_at : (count i : ℕ) → slice_index_or (replicate {A = Option (List ℕ)} count None) i None ≡ None
none_at zero i = refl
none_at (suc count) zero = refl
none_at (suc count) (suc i) = none_at count i

no_record : (l : Layout) (n : ℕ) → record_at (empty_queue l) n ≡ None
unfolding no_records
no_record l zero = refl
no_record l (suc n) = none_at l.most_records n

all_free : (l : Layout) (n : ℕ) → 1 ≤ n → n ≤ l.most_records → is_free (shown (empty_queue l)) n ≡ true
all_free l n from to = (sound l).free n from to ∙ ap is_none (no_record l n)

records_are_free : (c : Config) → AreOfWaiting c (shown (empty_queue c.layout)) []
records_are_free c = record {
  once = (sound c.layout).once;
  within = (sound c.layout).within;
  sizes = λ n used. ap (λ o. length (bytes_or_zeros o)) (no_record c.layout n);
  owned = λ n from to used. let free = all_free c.layout n from to in absurd (cc (free, used));
}

-- initiators are idle
numbers_idle : (xs : List ConfiguredInitiator) → map (λ (x : Initiator). x.number) (map idle xs) ≡ numbers_of xs
numbers_idle [] = refl
numbers_idle (x ∷ xs) = ap (λ ns. x.number ∷ ns) (numbers_idle xs)

pub is_start_with : StartsWithJobs
is_start_with c refuses views explains date l q waiting jobs h own waits = record {
  layout = own;
  serials = h.serials;
  programs = h.programs;
  store = store_is_good c q date h;
  unused = record { kept = λ serial. refl; holds = refl; operations = refl; cancels = refl; spool = refl };
  records = waits.records;
  waiting = waits.queued;
  in_order = waits.in_order;
  numbered = waits.numbered;
  initiators = subst Differ (sym (numbers_idle c.initiators)) h.numbers;
  idle = All-map (λ (x : Initiator). x.running ≡ None) idle c.initiators (λ k d within. refl);
  first_event = refl;
}

nobody_waits : (c : Config) → WaitAtStart c (shown (empty_queue c.layout)) [] 0
nobody_waits c = record { records = records_are_free c; queued = All-nil _; in_order = tt; numbered = All-nil _ }

pub is_start : StartsOfConfigurations
is_start c refuses views explains date l h own =
    is_start_with c refuses views explains date l (shown (empty_queue l)) [] 0 h own (nobody_waits (start_config c refuses views explains l))
