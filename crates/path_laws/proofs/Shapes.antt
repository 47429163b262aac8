-- Stores in which the same sets are there, with the same days, and the same is catalogued: they may differ in tracks and records.
use Rattle.std.proofs.Common.{◌≡◌, ◌==◌, ◌&&◌, ℕ, Bool, true, false, not, cond, List, Option, Some, None, Result, Ok, Err, refl, sym, ap, ◌∙◌, subst}
use Rattle.std.specs.Prelude.{is_some}
use Rattle.std.specs.Str.{bytes_eq}
use Rattle.std.proofs.lemmas.Bool.{and_parts, eqb-true}
use Rattle.jname_core.specs.declared.key.Key.{Key}
use Rattle.jname_core.specs.declared.key.Key.TheVariants.{Named, Relative, Temporary, Unnamed}
use Rattle.jname_core.specs.declared.key.Sign.{Sign}
use Rattle.jname_core.specs.declared.key.Sign.TheVariants.{Plus, Minus}
use Rattle.jname_core.specs.Generations.{base_of, generation_name, generation_of}
use Rattle.group_core.specs.declared.entry.CatEntry.{CatEntry}
use Rattle.group_core.specs.declared.entry.CatEntry.TheVariants.{Volume, Group}
use Rattle.group_core.specs.declared.group.GroupFault.{GroupFault}
use Rattle.group_core.specs.declared.group.Rolled.{Rolled}
use Rattle.group_core.specs.declared.group.Rolled.TheVariants.{Entered, Removed, Lowest, Same}
use Rattle.group_core.specs.Entries.{Member, found_by, group_in, member_by, volume_in}
use Rattle.group_core.specs.Groups.{GroupState, entered, with_entered}
use Rattle.jcl_plan.specs.declared.plan.VolumePlan.{VolumePlan}
use Rattle.jcl_plan.specs.declared.plan.VolumePlan.TheVariants as volume
use Rattle.jcl_plan.specs.declared.plan.Word.{Word}
use Rattle.jcl_meaning.specs.declared.state.Change.{Change}
use Rattle.jcl_meaning.specs.declared.state.Change.TheVariants as change
use Rattle.jcl_meaning.specs.declared.state.DdVolume.{DdVolume}
use Rattle.jcl_plan.specs.declared.words.DispWord.TheVariants as disp
use Rattle.jcl_meaning.specs.declared.state.Passed.{Passed}
use Rattle.jcl_meaning.specs.declared.state.TakenSet.{TakenSet}
use Rattle.jcl_meaning.specs.declared.store.DataSet.{DataSet}
use Rattle.jcl_meaning.specs.Dispositions.{catalogs, catalogs_by, changed, disposed_by, does, is_entered_on, unless_gone, word_does}
use Rattle.jcl_meaning.specs.EndActs.{tracks_released}
use Rattle.jcl_meaning.specs.Names.{same_key, same_sign}
use Rattle.jcl_meaning.specs.Stores.{Store, after_rolling, catalogued, cut, cut_at, generation_entered, generation_entered_by, group_of, is_later, is_unexpired, member_of, name_entered, rolled_off, scratched_unless, uncatalogued, uncatalogued_by, volume_of, with_entry, with_set, with_set_there}
use Rattle.jcl_meaning.specs.Takes.{first_passed, is_there, passed_or_else, where_of}
use Rattle.part_laws.proofs.SameWrites.{same_bytes}

-- that a set is there, and its day
abbrev pub shape : Option DataSet → Option (Option ℕ)
shape None = None
shape (Some set) = Some set.expires

pub record Shaped (s t : Store) : Type 0 where
  pub sets : (key : Key) (serial : List ℕ) → shape (s.set key serial) ≡ shape (t.set key serial)
  pub catalog : (name : List ℕ) → s.catalog name ≡ t.catalog name

pub shaped_same : (s : Store) → Shaped s s
shaped_same s = record { sets = λ key serial. refl; catalog = λ name. refl }

pub shaped_back : (s t : Store) → Shaped s t → Shaped t s
shaped_back s t h = record { sets = λ key serial. sym (h.sets key serial); catalog = λ name. sym (h.catalog name) }

pub shaped_along : (s t u : Store) → Shaped s t → Shaped t u → Shaped s u
shaped_along s t u h g = record { sets = λ key serial. h.sets key serial ∙ g.sets key serial; catalog = λ name. h.catalog name ∙ g.catalog name }

-- what is read of a set
is_some_shape : (x : Option DataSet) → is_some x ≡ is_some (shape x)
is_some_shape None = refl
is_some_shape (Some set) = refl

abbrev later_by : Option (Option ℕ) → ℕ → Bool
later_by None date = false
later_by (Some day) date = is_later day date

unexpired_shape : (x : Option DataSet) (date : ℕ) → is_unexpired x date ≡ later_by (shape x) date
unexpired_shape None date = refl
unexpired_shape (Some set) date = refl

pub both_there : (x y : Option DataSet) → shape x ≡ shape y → is_some x ≡ is_some y
both_there x y h = is_some_shape x ∙ (ap is_some h ∙ sym (is_some_shape y))

pub both_unexpired : (x y : Option DataSet) (date : ℕ) → shape x ≡ shape y → is_unexpired x date ≡ is_unexpired y date
both_unexpired x y date h = unexpired_shape x date ∙ (ap (λ (z : Option (Option ℕ)). later_by z date) h ∙ sym (unexpired_shape y date))

module _ (s t : Store) (h : Shaped s t) where
  -- what is read of the catalog
  pub same_group : (base : List ℕ) → group_of s base ≡ group_of t base
  same_group base = ap group_in (h.catalog base)

  pub same_member : (name : List ℕ) → member_of s name ≡ member_of t name
  same_member name = ap (member_by (generation_of name)) (same_group (base_of name))

  pub same_volume : (name : List ℕ) → volume_of s name ≡ volume_of t name
  same_volume name = λ i. found_by (same_member name i) (h.catalog name i)

  pub same_catalogued : (key : Key) → catalogued s key ≡ catalogued t key
  same_catalogued (Named name) = same_volume name
  same_catalogued (Relative base sign amount) = refl
  same_catalogued (Temporary name) = refl
  same_catalogued (Unnamed step dd) = refl

  same_catalogs : (key : Key) (serial : List ℕ) → catalogs s key serial ≡ catalogs t key serial
  same_catalogs (Named name) serial = λ i. cond (is_some (same_group name i)) (does disp.F3 change.Nothing)
      (catalogs_by (same_member name i) (volume_in (h.catalog name i)) serial)
  same_catalogs (Relative base sign amount) serial = refl
  same_catalogs (Temporary name) serial = refl
  same_catalogs (Unnamed step dd) serial = refl

  pub same_disposed : (w : Word) (x : TakenSet) (date : ℕ) → disposed_by w s x date ≡ disposed_by w t x date
  same_disposed w x date = λ i. unless_gone (both_there (s.set x.key x.serial) (t.set x.key x.serial) (h.sets x.key x.serial) i)
      (word_does w (not x.made_here && both_unexpired (s.set x.key x.serial) (t.set x.key x.serial) date (h.sets x.key x.serial) i) x.by_catalog
      (is_entered_on (same_catalogued x.key i) x.serial) (same_catalogs x.key x.serial i))

  pub same_where : (v : VolumePlan) (passed : List Passed) (volumes : List DdVolume) → where_of v s passed volumes ≡ where_of v t passed volumes
  same_where volume.NotCoded passed volumes = refl
  same_where (volume.Serial serial) passed volumes = refl
  same_where (volume.OfName name) passed volumes = ap (passed_or_else (first_passed passed (Named name))) (same_volume name)
  same_where (volume.OfDd step dd) passed volumes = refl

  pub same_there : (key : Key) (o : Option (List ℕ)) → is_there s key o ≡ is_there t key o
  same_there key None = refl
  same_there key (Some serial) = both_there (s.set key serial) (t.set key serial) (h.sets key serial)

  -- what is written in both
  shape_either : (b : Bool) (x y a c : Option DataSet) → shape x ≡ shape y → shape a ≡ shape c → shape (cond b x a) ≡ shape (cond b y c)
  shape_either true x y a c e f = e
  shape_either false x y a c e f = f

  pub set_shaped : (key : Key) (serial : List ℕ) (x y : Option DataSet) → shape x ≡ shape y → Shaped (with_set s key serial x) (with_set t key serial y)
  set_shaped key serial x y e = record {
    sets = λ k v. shape_either (same_key k key && bytes_eq v serial) x y (s.set k v) (t.set k v) e (h.sets k v);
    catalog = h.catalog;
  }

  entry_shaped : (name : List ℕ) (entry : Option CatEntry) → Shaped (with_entry s name entry) (with_entry t name entry)
  entry_shaped name entry = record { sets = h.sets; catalog = λ n i. cond (bytes_eq n name) entry (h.catalog n i) }

  uncatalogued_by_shaped : (m : Option Member) (name : List ℕ) → Shaped (uncatalogued_by m s name) (uncatalogued_by m t name)
  uncatalogued_by_shaped (Some m) name = entry_shaped (base_of name) _
  uncatalogued_by_shaped None name = entry_shaped name None

  uncatalogued_shaped : (key : Key) → Shaped (uncatalogued s key) (uncatalogued t key)
  uncatalogued_shaped (Named name) = subst (λ (m : Option Member). Shaped (uncatalogued_by (member_of s name) s name) (uncatalogued_by m t name))
      (same_member name) (uncatalogued_by_shaped (member_of s name) name)
  uncatalogued_shaped (Relative base sign amount) = h
  uncatalogued_shaped (Temporary name) = h
  uncatalogued_shaped (Unnamed step dd) = h

  name_shaped : (key : Key) (serial : List ℕ) → Shaped (name_entered s key serial) (name_entered t key serial)
  name_shaped (Named name) serial = entry_shaped name (Some (Volume serial))
  name_shaped (Relative base sign amount) serial = h
  name_shaped (Temporary name) serial = h
  name_shaped (Unnamed step dd) serial = h

  scratch_shaped : (b : Bool) (key : Key) (serial : List ℕ) → Shaped (scratched_unless b s key serial) (scratched_unless b t key serial)
  scratch_shaped true key serial = h
  scratch_shaped false key serial = set_shaped key serial None None refl

  roll_shaped : (scratch : Bool) (date : ℕ) (key : Key) (serial : List ℕ) → Shaped (rolled_off scratch date s key serial) (rolled_off scratch date t key serial)
  roll_shaped true date key serial =
      subst (λ (b : Bool). Shaped (scratched_unless (is_unexpired (s.set key serial) date) s key serial) (scratched_unless b t key serial))
      (both_unexpired (s.set key serial) (t.set key serial) date (h.sets key serial)) (scratch_shaped (is_unexpired (s.set key serial) date) key serial)
  roll_shaped false date key serial = h

  rolling_shaped : (r : Result Rolled GroupFault) (g : GroupState) (base : List ℕ) (date : ℕ) → Shaped (after_rolling r g base date s) (after_rolling r g base date t)
  rolling_shaped (Ok (Removed low serial)) g base date = roll_shaped g.scratch date (Named (generation_name base low)) serial
  rolling_shaped (Ok Entered) g base date = h
  rolling_shaped (Ok Lowest) g base date = h
  rolling_shaped (Ok Same) g base date = h
  rolling_shaped (Err f) g base date = h

generation_by_shaped : (m : Option Member) (base serial : List ℕ) (date : ℕ) (s t : Store) → Shaped s t →
    Shaped (generation_entered_by m base serial date s) (generation_entered_by m base serial date t)
generation_by_shaped None base serial date s t h = h
generation_by_shaped (Some m) base serial date s t h =
    rolling_shaped (with_entry s base (Some (Group (with_entered m.1 m.0 serial)))) (with_entry t base (Some (Group (with_entered m.1 m.0 serial))))
    (entry_shaped s t h base (Some (Group (with_entered m.1 m.0 serial)))) (entered m.1 m.0 serial) m.1 base date

generation_shaped : (s t : Store) → Shaped s t → (key : Key) (serial : List ℕ) (date : ℕ) →
    Shaped (generation_entered s key serial date) (generation_entered t key serial date)
generation_shaped s t h (Named name) serial date =
    subst (λ (m : Option Member). Shaped (generation_entered_by (member_of s name) (base_of name) serial date s) (generation_entered_by m (base_of name) serial date t))
    (same_member s t h name) (generation_by_shaped (member_of s name) (base_of name) serial date s t h)
generation_shaped s t h (Relative base sign amount) serial date = h
generation_shaped s t h (Temporary name) serial date = h
generation_shaped s t h (Unnamed step dd) serial date = h

pub change_shaped : (c : Change) (s t : Store) → Shaped s t → (key : Key) (serial : List ℕ) (date : ℕ) →
    Shaped (changed c s key serial date) (changed c t key serial date)
change_shaped change.Nothing s t h key serial date = h
change_shaped change.Scratch s t h key serial date = set_shaped s t h key serial None None refl
change_shaped change.ScratchAndUncatalog s t h key serial date =
    uncatalogued_shaped (with_set s key serial None) (with_set t key serial None) (set_shaped s t h key serial None None refl) key
change_shaped change.Catalog s t h key serial date = name_shaped s t h key serial
change_shaped change.Uncatalog s t h key serial date = uncatalogued_shaped s t h key
change_shaped change.EnterGeneration s t h key serial date = generation_shaped s t h key serial date

-- a key by its equation
same_number : (a b : ℕ) → (a == b) ≡ true → a ≡ b
same_number a b h = eqb-true a b h

signs : (a b : Sign) → same_sign a b ≡ true → a ≡ b
signs Plus Plus h = refl
signs Minus Minus h = refl
signs Plus Minus h = absurd cc
signs Minus Plus h = absurd cc

pub keys : (a b : Key) → same_key a b ≡ true → a ≡ b
keys (Named a) (Named b) h = ap Named (same_bytes a b h)
keys (Relative a s n) (Relative b t m) h =
    let p : (bytes_eq a b ≡ true) × ((same_sign s t && n == m) ≡ true) = and_parts (bytes_eq a b) (same_sign s t && n == m) h in
    let q : (same_sign s t ≡ true) × ((n == m) ≡ true) = and_parts (same_sign s t) (n == m) p.1 in
    λ i. Relative (same_bytes a b p.0 i) (signs s t q.0 i) (same_number n m q.1 i)
keys (Temporary a) (Temporary b) h = ap Temporary (same_bytes a b h)
keys (Unnamed s d) (Unnamed t e) h =
    let p : ((s == t) ≡ true) × ((d == e) ≡ true) = and_parts (s == t) (d == e) h in
    λ i. Unnamed (same_number s t p.0 i) (same_number d e p.1 i)
keys (Named a) (Relative b t m) h = absurd cc
keys (Named a) (Temporary b) h = absurd cc
keys (Named a) (Unnamed t e) h = absurd cc
keys (Relative a s n) (Named b) h = absurd cc
keys (Relative a s n) (Temporary b) h = absurd cc
keys (Relative a s n) (Unnamed t e) h = absurd cc
keys (Temporary a) (Named b) h = absurd cc
keys (Temporary a) (Relative b t m) h = absurd cc
keys (Temporary a) (Unnamed t e) h = absurd cc
keys (Unnamed s d) (Named b) h = absurd cc
keys (Unnamed s d) (Relative b t m) h = absurd cc
keys (Unnamed s d) (Temporary b) h = absurd cc

-- a set that is there, with other tracks and records
module _ (s : Store) (key : Key) (serial : List ℕ) (old new : DataSet) (there : s.set key serial ≡ Some old) (day : new.expires ≡ old.expires) where
  by_place : (k : Key) (v : List ℕ) (a b : Bool) → same_key k key ≡ a → bytes_eq v serial ≡ b → shape (cond (a && b) (Some new) (s.set k v)) ≡ shape (s.set k v)
  by_place k v true true e f =
      ap Some day ∙ (ap shape (sym there) ∙ (λ i. shape (s.set (sym (keys k key e) i) (sym (same_bytes v serial f) i))))
  by_place k v true false e f = refl
  by_place k v false b e f = refl

  pub rewritten : Shaped (with_set s key serial (Some new)) s
  rewritten = record { sets = λ k v. by_place k v (same_key k key) (bytes_eq v serial) refl refl; catalog = λ name. refl }

-- where a set is there it is rewritten, and elsewhere nothing is
pub there_shaped : (s : Store) (key : Key) (serial : List ℕ) (o : Option DataSet) (new : DataSet) → s.set key serial ≡ o →
    ((old : DataSet) → o ≡ Some old → new.expires ≡ old.expires) → Shaped (with_set_there o new s key serial) s
there_shaped s key serial None new e day = shaped_same s
there_shaped s key serial (Some old) new e day = rewritten s key serial old new e (day old refl)

cut_shaped : (s : Store) (key : Key) (serial : List ℕ) (o : Option DataSet) → s.set key serial ≡ o → Shaped (cut_at o s key serial) s
cut_shaped s key serial None e = shaped_same s
cut_shaped s key serial (Some set) e = rewritten s key serial set (cut set) e refl

release_itself : (b : Bool) (s : Store) (key : Key) (serial : List ℕ) → Shaped (tracks_released b key serial s) s
release_itself false s key serial = shaped_same s
release_itself true s key serial = cut_shaped s key serial (s.set key serial) refl

pub release_shaped : (b : Bool) (s t : Store) → Shaped s t → (key : Key) (serial : List ℕ) → Shaped (tracks_released b key serial s) (tracks_released b key serial t)
release_shaped b s t h key serial =
    shaped_along (tracks_released b key serial s) s (tracks_released b key serial t) (release_itself b s key serial)
    (shaped_along s t (tracks_released b key serial t) h (shaped_back (tracks_released b key serial t) t (release_itself b t key serial)))
