-- What a disposition changes stays within a job's names, and leaves each group sound.
use Rattle.std.proofs.Common.{◌≡◌, ◌≤◌, ◌<◌, ◌-◌, ℕ, zero, suc, Bool, true, false, cond, List, length, take, Option, Some, None, Result, Ok, Err, refl, sym, ap, ◌∙◌, subst, arith}
use Rattle.std.specs.Prelude.{is_some, nat_lt}
use Rattle.std.specs.Str.{bytes_eq}
use Rattle.std.proofs.lemmas.Bool.{both_ways, ltb-false}
use Rattle.jname_core.specs.declared.key.Key.{Key}
use Rattle.jname_core.specs.declared.key.Key.TheVariants.{Named, Relative, Temporary, Unnamed}
use Rattle.jname_core.specs.Generations.{base_of, generation_name, generation_of}
use Rattle.group_core.specs.declared.entry.CatEntry.{CatEntry}
use Rattle.group_core.specs.declared.entry.CatEntry.TheVariants.{Volume, Group}
use Rattle.group_core.specs.declared.group.Generation.{Generation}
use Rattle.group_core.specs.declared.group.GroupFault.{GroupFault}
use Rattle.group_core.specs.declared.group.GroupFault.TheVariants as refused
use Rattle.group_core.specs.declared.group.Rolled.{Rolled}
use Rattle.group_core.specs.declared.group.Rolled.TheVariants.{Entered, Removed, Lowest, Same}
use Rattle.group_core.specs.Entries.{Member, found_by, group_in, member_by, volume_in}
use Rattle.group_core.specs.Groups.{GroupState, IsFalling, entered, entered_by, left_by, lowest_of, rolled_off as rolled, serial_of, with_entered, without}
use Rattle.group_core.proofs.Falls.{all_but_lowest, falling_inserted, falling_without, missing_take}
use Rattle.jcl_meaning.specs.declared.names.HeldName.{HeldName}
use Rattle.jcl_meaning.specs.declared.state.Change.{Change}
use Rattle.jcl_meaning.specs.declared.state.Change.TheVariants as change
use Rattle.jcl_meaning.specs.declared.store.DataSet.{DataSet}
use Rattle.jcl_meaning.specs.Dispositions.{changed}
use Rattle.jcl_meaning.specs.Parts.{is_alone}
use Rattle.jcl_meaning.specs.Stores.{Store, after_rolling, catalogued, generation_entered_by, group_of, is_unexpired, member_of, rolled_off, scratched_unless, uncatalogued, uncatalogued_by, with_entry, with_set}
use Rattle.part_laws.specs.Fits.{sees_alone}
use Rattle.part_laws.specs.Keeping.{HasSoundGroups, StaysWithin}
use Rattle.part_laws.proofs.Generations.{generation_base, generation_number}
use Rattle.part_laws.proofs.SameReads.{group_there}
use Rattle.part_laws.proofs.Within.{IsEntryKept, alone_within, entry_within, within_along, within_same}

-- from one store to the next a job stayed within its names, and sound groups stayed sound
pub record Stays (names : List HeldName) (s t : Store) : Type 0 where
  pub within : StaysWithin names s t
  pub sound : HasSoundGroups s → HasSoundGroups t

pub stays_along : (names : List HeldName) (s t u : Store) → Stays names s t → Stays names t u → Stays names s u
stays_along names s t u p q = record { within = within_along names s t u p.within q.within; sound = λ h. q.sound (p.sound h) }

pub stays_same : (names : List HeldName) (s : Store) → Stays names s s
stays_same names s = record { within = within_same names s; sound = λ h. h }

-- a set is written and the catalog stays
pub set_stays : (names : List HeldName) (s : Store) (key : Key) (serial : List ℕ) (x : Option DataSet) → sees_alone names key ≡ true →
    Stays names s (with_set s key serial x)
set_stays names s key serial x alone = record { within = alone_within names s key serial x alone; sound = λ h. h }

-- an entry is written
sound_entered : (s : Store) (base : List ℕ) (entry : Option CatEntry) (here : Bool) → HasSoundGroups s →
    ((g : GroupState) → entry ≡ Some (Group g) → IsFalling 10000 g.generations) →
    (g : GroupState) → cond here entry (s.catalog base) ≡ Some (Group g) → IsFalling 10000 g.generations
sound_entered s base entry true sound new g e = new g e
sound_entered s base entry false sound new g e = sound base g e

entry_stays : (names : List HeldName) (s : Store) (name : List ℕ) (entry : Option CatEntry) → IsEntryKept names name (s.catalog name) entry →
    (HasSoundGroups s → (g : GroupState) → entry ≡ Some (Group g) → IsFalling 10000 g.generations) → Stays names s (with_entry s name entry)
entry_stays names s name entry kept new =
    record { within = entry_within names s name entry kept; sound = λ sound base. sound_entered s base entry (bytes_eq base name) sound (new sound) }

-- where the catalog has a volume it has no group
volume_there : (x : Option CatEntry) → is_some (volume_in x) ≡ true → group_in x ≡ None
volume_there None h = absurd cc
volume_there (Some (Volume serial)) h = refl
volume_there (Some (Group g)) h = absurd cc

-- a number of a group that is there
member_there : (number : Option ℕ) (g : Option GroupState) (m : Member) → member_by number g ≡ Some m → (g ≡ Some m.1) × (number ≡ Some m.0) × (0 < m.0)
member_there None g m e = absurd cc
member_there (Some zero) g m e = absurd cc
member_there (Some (suc n)) None m e = absurd cc
member_there (Some (suc n)) (Some g) m e =
    let same : ◌≡◌ {A = Member} (suc n, g) m = cc in
    subst (λ (x : Member). (Some g ≡ Some x.1) × (Some (suc n) ≡ Some x.0) × (0 < x.0)) same (refl, refl, omega arith)

module _ (names : List HeldName) (s : Store) (name : List ℕ) (alone : is_alone names (base_of name) ≡ true) where
  -- the entry of the base, where a group stays a group
  base_kept : (g h : GroupState) → group_of s (base_of name) ≡ Some g → IsEntryKept names (base_of name) (s.catalog (base_of name)) (Some (Group h))
  base_kept g h e =
      let there : s.catalog (base_of name) ≡ Some (Group g) = group_there (s.catalog (base_of name)) g e in (
        λ f. ap volume_in there,
        λ f. absurd (both_ways (is_alone names (base_of name)) f alone),
        ap (λ x. is_some (group_in x)) there,
      )

  base_stays : (g h : GroupState) → group_of s (base_of name) ≡ Some g → (HasSoundGroups s → IsFalling 10000 h.generations) →
      Stays names s (with_entry s (base_of name) (Some (Group h)))
  base_stays g h e falls =
      entry_stays names s (base_of name) (Some (Group h)) (base_kept g h e)
      (λ sound k is. let same : h ≡ k = cc in subst (λ (x : GroupState). IsFalling 10000 x.generations) same (falls sound))

  base_falls : (g : GroupState) → group_of s (base_of name) ≡ Some g → HasSoundGroups s → IsFalling 10000 g.generations
  base_falls g e sound = sound (base_of name) g (group_there (s.catalog (base_of name)) g e)

  -- an entry of the name itself, where it has no group
  name_stays : (entry : Option CatEntry) → group_of s name ≡ None → group_in entry ≡ None → Stays names s (with_entry s name entry)
  name_stays entry none e =
      entry_stays names s name entry (
        λ f. absurd (both_ways (is_alone names (base_of name)) f alone),
        λ f. none ∙ sym e,
        ap is_some (none ∙ sym e),
      )
      (λ sound g is. let it : group_in entry ≡ Some g = ap group_in is in absurd (cc (it, e)))

  uncatalogued_stays : (m : Option Member) → m ≡ member_of s name → is_some (found_by m (s.catalog name)) ≡ true → Stays names s (uncatalogued_by m s name)
  uncatalogued_stays None e here = name_stays None (volume_there (s.catalog name) here) refl
  uncatalogued_stays (Some m) e here =
      let there = member_there (generation_of name) (group_of s (base_of name)) m (sym e) in
      base_stays m.1 (record m.1 { generations = without m.1.generations m.0 }) there.0
      (λ sound. falling_without 10000 m.1.generations m.0 (base_falls m.1 there.0 sound))

-- a number that is entered anew, and the lowest that is removed for one
again : (b : Bool) (r : Rolled) → ◌≡◌ {A = Result Rolled GroupFault} (cond b (Ok Same) (Err refused.Elsewhere)) (Ok r) → r ≡ Same
again true r e = cc
again false r e = absurd cc

new_if_entered : (found : Option (List ℕ)) (g : GroupState) (n : ℕ) (serial : List ℕ) → entered_by found g n serial ≡ Ok Entered → found ≡ None
new_if_entered None g n serial e = refl
new_if_entered (Some there) g n serial e = let it : Entered ≡ Same = again (bytes_eq there serial) Entered e in absurd (cc it)

-- the lowest, which is not above the new number
abbrev IsLowest : GroupState → ℕ → ℕ → Type 0
IsLowest g n low = (l : Generation) × (lowest_of g.generations ≡ Some l) × (l.number ≡ low) × (low ≤ n)

lowest_by_order : (b : Bool) (l : Generation) (n low : ℕ) (v : List ℕ) → nat_lt n l.number ≡ b → cond b Lowest (Removed l.number l.serial) ≡ Removed low v →
    (l.number ≡ low) × (low ≤ n)
lowest_by_order true l n low v eb e = absurd cc
lowest_by_order false l n low v eb e =
    let same : l.number ≡ low = cc in
    (same, omega (arith, ltb-false n l.number eb, same))

lowest_if_rolled : (o : Option Generation) (g : GroupState) (n low : ℕ) (v : List ℕ) → lowest_of g.generations ≡ o → rolled o n ≡ Removed low v →
    IsLowest g n low
lowest_if_rolled None g n low v eo e = absurd cc
lowest_if_rolled (Some l) g n low v eo e =
    let it : (l.number ≡ low) × (low ≤ n) = lowest_by_order (nat_lt n l.number) l n low v refl e in
    (l, eo, it.0, it.1)

lowest_by_room : (b : Bool) (g : GroupState) (n low : ℕ) (v : List ℕ) →
    ◌≡◌ {A = Result Rolled GroupFault} (cond b (Ok Entered) (Ok (rolled (lowest_of g.generations) n))) (Ok (Removed low v)) → IsLowest g n low
lowest_by_room true g n low v e = absurd cc
lowest_by_room false g n low v e =
    let same : rolled (lowest_of g.generations) n ≡ Removed low v = cc in
    lowest_if_rolled (lowest_of g.generations) g n low v refl same

lowest_if_removed : (found : Option (List ℕ)) (g : GroupState) (n : ℕ) (serial : List ℕ) (low : ℕ) (v : List ℕ) →
    entered_by found g n serial ≡ Ok (Removed low v) → (found ≡ None) × IsLowest g n low
lowest_if_removed None g n serial low v e = (refl, lowest_by_room (nat_lt (length g.generations) g.limit) g n low v e)
lowest_if_removed (Some there) g n serial low v e = let it : Removed low v ≡ Same = again (bytes_eq there serial) (Removed low v) e in absurd (cc it)

-- the numbers fall with a new one among them
entered_falls : (r : Result Rolled GroupFault) (g : GroupState) (n : ℕ) (serial : List ℕ) → entered g n serial ≡ r → IsFalling 10000 g.generations →
    n < 10000 → 0 < n → IsFalling 10000 (left_by r g (record { number = n; serial = serial })).generations
entered_falls (Ok Entered) g n serial e f high pos =
    falling_inserted 10000 (record { number = n; serial = serial }) g.generations f high pos (new_if_entered (serial_of g.generations n) g n serial e)
entered_falls (Ok (Removed low v)) g n serial e f high pos =
    let lowest = lowest_if_removed (serial_of g.generations n) g n serial low v e in
    let same : take (length g.generations - 1) g.generations ≡ without g.generations low =
    all_but_lowest 10000 g.generations (lowest.1).0 f (lowest.1).1 ∙ ap (without g.generations) (lowest.1).2 in
    let missing : serial_of (without g.generations low) n ≡ None =
    ap (λ gs. serial_of gs n) (sym same) ∙ missing_take g.generations n (length g.generations - 1) lowest.0 in
    falling_inserted 10000 (record { number = n; serial = serial }) (without g.generations low) (falling_without 10000 g.generations low f) high pos missing
entered_falls (Ok Lowest) g n serial e f high pos = f
entered_falls (Ok Same) g n serial e f high pos = f
entered_falls (Err fault) g n serial e f high pos = f

-- a generation that rolls off is one of the base that is held alone
module _ (names : List HeldName) (base : List ℕ) (alone : is_alone names base ≡ true) (some : 0 < length base) where
  scratched_stays : (b : Bool) (s : Store) (low : ℕ) (serial : List ℕ) → low ≤ 9999 →
      Stays names s (scratched_unless b s (Named (generation_name base low)) serial)
  scratched_stays true s low serial high = stays_same names s
  scratched_stays false s low serial high =
      set_stays names s (Named (generation_name base low)) serial None (ap (is_alone names) (generation_base base low some high) ∙ alone)

  rolled_stays : (scratch : Bool) (date : ℕ) (s : Store) (low : ℕ) (serial : List ℕ) → low ≤ 9999 →
      Stays names s (rolled_off scratch date s (Named (generation_name base low)) serial)
  rolled_stays true date s low serial high = scratched_stays (is_unexpired (s.set (Named (generation_name base low)) serial) date) s low serial high
  rolled_stays false date s low serial high = stays_same names s

  after_rolling_stays : (r : Result Rolled GroupFault) (g : GroupState) (date : ℕ) (s : Store) →
      ((low : ℕ) (v : List ℕ) → r ≡ Ok (Removed low v) → low ≤ 9999) → Stays names s (after_rolling r g base date s)
  after_rolling_stays (Ok (Removed low v)) g date s high = rolled_stays g.scratch date s low v (high low v refl)
  after_rolling_stays (Ok Entered) g date s high = stays_same names s
  after_rolling_stays (Ok Lowest) g date s high = stays_same names s
  after_rolling_stays (Ok Same) g date s high = stays_same names s
  after_rolling_stays (Err f) g date s high = stays_same names s

module _ (names : List HeldName) (s : Store) (name : List ℕ) (alone : is_alone names (base_of name) ≡ true) where
  generation_stays : (m : Option Member) (serial : List ℕ) (date : ℕ) → m ≡ member_of s name →
      Stays names s (generation_entered_by m (base_of name) serial date s)
  generation_stays None serial date e = stays_same names s
  generation_stays (Some m) serial date e =
      let there = member_there (generation_of name) (group_of s (base_of name)) m (sym e) in
      let number : (m.0 ≤ 9999) × (0 < length (base_of name)) = generation_number name m.0 there.1 in
      let after : Store = with_entry s (base_of name) (Some (Group (with_entered m.1 m.0 serial))) in
      let entry : Stays names s (with_entry s (base_of name) (Some (Group (with_entered m.1 m.0 serial)))) =
      base_stays names s name alone m.1 (with_entered m.1 m.0 serial) there.0
      (λ sound. entered_falls (entered m.1 m.0 serial) m.1 m.0 serial refl (base_falls names s name alone m.1 there.0 sound)
      (omega (arith, number.0)) there.2) in
      stays_along names s after _ entry
      (after_rolling_stays names (base_of name) alone number.1 (entered m.1 m.0 serial) m.1 date after
      (λ low v is. let lowest = lowest_if_removed (serial_of (m.1).generations m.0) m.1 m.0 serial low v is in omega (arith, (lowest.1).3, number.0)))

-- what a change asks of the store: a name that is entered has no group, and one that is taken out is entered
abbrev pub IsFounded : Store → Key → Change → Type 0
IsFounded s key change.Nothing = Unit {0}
IsFounded s key change.Scratch = Unit {0}
IsFounded s key change.ScratchAndUncatalog = is_some (catalogued s key) ≡ true
IsFounded s (Named name) change.Catalog = group_of s name ≡ None
IsFounded s (Relative base sign amount) change.Catalog = Unit {0}
IsFounded s (Temporary name) change.Catalog = Unit {0}
IsFounded s (Unnamed step dd) change.Catalog = Unit {0}
IsFounded s key change.Uncatalog = is_some (catalogued s key) ≡ true
IsFounded s key change.EnterGeneration = Unit {0}

key_uncatalogued_stays : (names : List HeldName) (s : Store) (key : Key) → sees_alone names key ≡ true → is_some (catalogued s key) ≡ true →
    Stays names s (uncatalogued s key)
key_uncatalogued_stays names s (Named name) alone here = uncatalogued_stays names s name alone (member_of s name) refl here
key_uncatalogued_stays names s (Relative base sign amount) alone here = stays_same names s
key_uncatalogued_stays names s (Temporary name) alone here = stays_same names s
key_uncatalogued_stays names s (Unnamed step dd) alone here = stays_same names s

pub change_stays : (names : List HeldName) (s : Store) (c : Change) (key : Key) (serial : List ℕ) (date : ℕ) → sees_alone names key ≡ true → IsFounded s key c →
    Stays names s (changed c s key serial date)
change_stays names s change.Nothing key serial date alone founded = stays_same names s
change_stays names s change.Scratch key serial date alone founded = set_stays names s key serial None alone
change_stays names s change.ScratchAndUncatalog key serial date alone founded =
    stays_along names s (with_set s key serial None) (uncatalogued (with_set s key serial None) key) (set_stays names s key serial None alone)
    (key_uncatalogued_stays names (with_set s key serial None) key alone (catalogued_still key founded))
  where
    catalogued_still : (k : Key) → is_some (catalogued s k) ≡ true → is_some (catalogued (with_set s key serial None) k) ≡ true
    catalogued_still (Named name) h = h
    catalogued_still (Relative base sign amount) h = h
    catalogued_still (Temporary name) h = h
    catalogued_still (Unnamed step dd) h = h
change_stays names s change.Catalog (Named name) serial date alone founded = name_stays names s name alone (Some (Volume serial)) founded refl
change_stays names s change.Catalog (Relative base sign amount) serial date alone founded = stays_same names s
change_stays names s change.Catalog (Temporary name) serial date alone founded = stays_same names s
change_stays names s change.Catalog (Unnamed step dd) serial date alone founded = stays_same names s
change_stays names s change.Uncatalog key serial date alone founded = key_uncatalogued_stays names s key alone founded
change_stays names s change.EnterGeneration (Named name) serial date alone founded = generation_stays names s name alone (member_of s name) serial date refl
change_stays names s change.EnterGeneration (Relative base sign amount) serial date alone founded = stays_same names s
change_stays names s change.EnterGeneration (Temporary name) serial date alone founded = stays_same names s
change_stays names s change.EnterGeneration (Unnamed step dd) serial date alone founded = stays_same names s
