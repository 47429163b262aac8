-- What a job sees, and what others alone see, once one set or one entry of the catalog is written.
use Rattle.std.proofs.Common.{◌≡◌, ℕ, Bool, true, false, ◌&&◌, ◌==◌, cond, List, [], ◌∷◌, Option, Some, None, refl, sym, ap, ◌∙◌}
use Rattle.std.proofs.lemmas.Bool.{eq-eqb}
use Rattle.std.specs.FinMap.{get, insert, remove}
use Rattle.std.specs.Option.{option_map}
use Rattle.std.specs.Str.{bytes_eq}
use Rattle.cat_core.specs.Catalogs.{Contents, with_generation_by, without_name_by}
use Rattle.group_core.specs.declared.entry.CatEntry.{CatEntry}
use Rattle.group_core.specs.declared.entry.CatEntry.TheVariants.{Group}
use Rattle.group_core.specs.Entries.{Member}
use Rattle.group_core.specs.Groups.{GroupState, with_entered, without}
use Rattle.jname_core.specs.declared.key.Key.{Key}
use Rattle.jname_core.specs.declared.key.Key.TheVariants.{Named, Relative, Temporary, Unnamed}
use Rattle.jcl_meaning.specs.declared.state.Place.{Place}
use Rattle.jcl_meaning.specs.declared.store.DataSet.{DataSet}
use Rattle.jcl_meaning.specs.Names.{same_key}
use Rattle.jcl_meaning.specs.Programs.{or_nothing}
use Rattle.jcl_meaning.specs.Stores.{Store, cut, cut_at, uncatalogued_by, with_entry, with_set, with_set_there}
use Rattle.jname_core.specs.Generations.{base_of}
use Rattle.store_core.specs.Actions.{changed_at}
use Rattle.store_core.specs.EnteredNumbers.{with_number_by}
use Rattle.vtoc_core.specs.declared.entry.SetKey.{SetKey}
use Rattle.vtoc_core.specs.declared.entry.SetKey.TheVariants as world
use Rattle.vtoc_core.specs.Entries.{same_key as same_world_key}
use Rattle.world_meaning.specs.Lenses.{WorldStore, seen, seen_set, world_key}
use Rattle.mount_core.specs.Mounts.{MountedState}
use Rattle.shared_core.specs.declared.store.SharedStore.{SharedStore}
use Rattle.shared_core.specs.Rooms.{GiveUp, Take, kept_place, others_of, set_of_others}
use Rattle.shared_core.specs.Shown.{set_on, mounted_in, world_store_of}
use Rattle.shared_core.specs.Writes.{Changes, GiveUpTracks, Keeps, KeepsOthers, Stay, TakeTracks, TakeTracksAt, Writes}
use Rattle.shared_core.proofs.WorldKeys.{name_put, name_taken}
use Rattle.shared_core.proofs.Written.{at_its_place}

-- one set of all is written
abbrev pub WritesWorld : WorldStore → WorldStore → SetKey → List ℕ → Option DataSet → Type 0
WritesWorld old new k serial there = (q : SetKey) (v : List ℕ) → new.set q v ≡ cond (same_world_key q k && bytes_eq v serial) there (old.set q v)

module _ (job : ℕ) (old new : WorldStore) (serial : List ℕ) (there : Option DataSet) where
  own_number : (a : Bool) → ((job == job) && a) ≡ a
  own_number a = ap (λ b. b && a) (eq-eqb job job refl)

  own_numbers : (a b : Bool) → (((job == job) && a) && b) ≡ (a && b)
  own_numbers a b = ap (λ c. c && b) (own_number a)

  seen_step : (q key : Key) (k : SetKey) (v : List ℕ) → WritesWorld old new k serial there → Some k ≡ world_key job key →
      seen_set job new q v ≡ cond (same_key q key && bytes_eq v serial) there (seen_set job old q v)
  seen_step q (Relative b s n) k v w e = absurd cc
  seen_step (Relative b s n) (Named a) k v w e = refl
  seen_step (Relative b s n) (Temporary a) k v w e = refl
  seen_step (Relative b s n) (Unnamed t d) k v w e = refl
  seen_step (Named a) (Named b) k v w e =
      let p : k ≡ world.Named b = cc in
      w (world.Named a) v ∙ ap (λ l. cond (same_world_key (world.Named a) l && bytes_eq v serial) there (old.set (world.Named a) v)) p
  seen_step (Named a) (Temporary b) k v w e =
      let p : k ≡ world.Temporary job b = cc in
      w (world.Named a) v ∙ ap (λ l. cond (same_world_key (world.Named a) l && bytes_eq v serial) there (old.set (world.Named a) v)) p
  seen_step (Named a) (Unnamed t d) k v w e =
      let p : k ≡ world.Unnamed job t d = cc in
      w (world.Named a) v ∙ ap (λ l. cond (same_world_key (world.Named a) l && bytes_eq v serial) there (old.set (world.Named a) v)) p
  seen_step (Temporary a) (Named b) k v w e =
      let p : k ≡ world.Named b = cc in
      w (world.Temporary job a) v ∙ ap (λ l. cond (same_world_key (world.Temporary job a) l && bytes_eq v serial) there (old.set (world.Temporary job a) v)) p
  seen_step (Temporary a) (Temporary b) k v w e =
      let p : k ≡ world.Temporary job b = cc in
      w (world.Temporary job a) v
      ∙ ap (λ l. cond (same_world_key (world.Temporary job a) l && bytes_eq v serial) there (old.set (world.Temporary job a) v)) p
      ∙ ap (λ c. cond (c && bytes_eq v serial) there (old.set (world.Temporary job a) v)) (own_number (bytes_eq a b))
  seen_step (Temporary a) (Unnamed t d) k v w e =
      let p : k ≡ world.Unnamed job t d = cc in
      w (world.Temporary job a) v ∙ ap (λ l. cond (same_world_key (world.Temporary job a) l && bytes_eq v serial) there (old.set (world.Temporary job a) v)) p
  seen_step (Unnamed s c) (Named b) k v w e =
      let p : k ≡ world.Named b = cc in
      w (world.Unnamed job s c) v ∙ ap (λ l. cond (same_world_key (world.Unnamed job s c) l && bytes_eq v serial) there (old.set (world.Unnamed job s c) v)) p
  seen_step (Unnamed s c) (Temporary b) k v w e =
      let p : k ≡ world.Temporary job b = cc in
      w (world.Unnamed job s c) v ∙ ap (λ l. cond (same_world_key (world.Unnamed job s c) l && bytes_eq v serial) there (old.set (world.Unnamed job s c) v)) p
  seen_step (Unnamed s c) (Unnamed t d) k v w e =
      let p : k ≡ world.Unnamed job t d = cc in
      w (world.Unnamed job s c) v
      ∙ ap (λ l. cond (same_world_key (world.Unnamed job s c) l && bytes_eq v serial) there (old.set (world.Unnamed job s c) v)) p
      ∙ ap (λ b. cond (b && bytes_eq v serial) there (old.set (world.Unnamed job s c) v)) (own_numbers (s == t) (c == d))

  -- what is another's is not written
  not_own : (b c : Bool) (y x : Option DataSet) → (b ≡ false → y ≡ cond (false && c) there x) → cond b None y ≡ cond b None x
  not_own true c y x h = refl
  not_own false c y x h = h refl

  others_step : (q : SetKey) (key : Key) (k : SetKey) (v : List ℕ) → WritesWorld old new k serial there → Some k ≡ world_key job key →
      set_of_others job new q v ≡ set_of_others job old q v
  others_step q (Relative b s n) k v w e = absurd cc
  others_step (world.Named a) key k v w e = refl
  others_step (world.Temporary i a) (Named b) k v w e =
      let p : k ≡ world.Named b = cc in
      ap (λ y. cond (i == job) None y)
      (w (world.Temporary i a) v ∙ ap (λ l. cond (same_world_key (world.Temporary i a) l && bytes_eq v serial) there (old.set (world.Temporary i a) v)) p)
  others_step (world.Temporary i a) (Temporary b) k v w e =
      let p : k ≡ world.Temporary job b = cc in
      not_own (i == job) (bytes_eq v serial) (new.set (world.Temporary i a) v) (old.set (world.Temporary i a) v) (λ f.
      w (world.Temporary i a) v
      ∙ ap (λ l. cond (same_world_key (world.Temporary i a) l && bytes_eq v serial) there (old.set (world.Temporary i a) v)) p
      ∙ ap (λ g. cond ((g && bytes_eq a b) && bytes_eq v serial) there (old.set (world.Temporary i a) v)) f)
  others_step (world.Temporary i a) (Unnamed t d) k v w e =
      let p : k ≡ world.Unnamed job t d = cc in
      ap (λ y. cond (i == job) None y)
      (w (world.Temporary i a) v ∙ ap (λ l. cond (same_world_key (world.Temporary i a) l && bytes_eq v serial) there (old.set (world.Temporary i a) v)) p)
  others_step (world.Unnamed i s c) (Named b) k v w e =
      let p : k ≡ world.Named b = cc in
      ap (λ y. cond (i == job) None y)
      (w (world.Unnamed i s c) v ∙ ap (λ l. cond (same_world_key (world.Unnamed i s c) l && bytes_eq v serial) there (old.set (world.Unnamed i s c) v)) p)
  others_step (world.Unnamed i s c) (Temporary b) k v w e =
      let p : k ≡ world.Temporary job b = cc in
      ap (λ y. cond (i == job) None y)
      (w (world.Unnamed i s c) v ∙ ap (λ l. cond (same_world_key (world.Unnamed i s c) l && bytes_eq v serial) there (old.set (world.Unnamed i s c) v)) p)
  others_step (world.Unnamed i s c) (Unnamed t d) k v w e =
      let p : k ≡ world.Unnamed job t d = cc in
      not_own (i == job) (bytes_eq v serial) (new.set (world.Unnamed i s c) v) (old.set (world.Unnamed i s c) v) (λ f.
      w (world.Unnamed i s c) v
      ∙ ap (λ l. cond (same_world_key (world.Unnamed i s c) l && bytes_eq v serial) there (old.set (world.Unnamed i s c) v)) p
      ∙ ap (λ g. cond (((g && (s == t)) && (c == d)) && bytes_eq v serial) there (old.set (world.Unnamed i s c) v)) f)

-- the set of a job's key is that of the key of all
seen_at : (job : ℕ) (w : WorldStore) (key : Key) (k : SetKey) (v : List ℕ) → Some k ≡ world_key job key → seen_set job w key v ≡ w.set k v
seen_at job w (Named a) k v e = let p : k ≡ world.Named a = cc in ap (λ l. w.set l v) (sym p)
seen_at job w (Relative b s n) k v e = absurd cc
seen_at job w (Temporary a) k v e = let p : k ≡ world.Temporary job a = cc in ap (λ l. w.set l v) (sym p)
seen_at job w (Unnamed t d) k v e = let p : k ≡ world.Unnamed job t d = cc in ap (λ l. w.set l v) (sym p)

-- volumes with one set written, under a job's key
abbrev pub with_volumes : SharedStore → List MountedState → SharedStore
with_volumes s volumes = record { alloc = s.alloc; catalog = s.catalog; volumes = volumes }

module _ (job : ℕ) (s : SharedStore) (volumes : List MountedState) (key : Key) (k : SetKey) (serial : List ℕ) (own : Some k ≡ world_key job key) where
  pub seen_written : (there : Option DataSet) → Writes s.volumes volumes k serial there →
      seen job (world_store_of (with_volumes s volumes)) ≡ with_set (seen job (world_store_of s)) key serial there
  seen_written there w = λ i. record {
    set = λ q v. seen_step job (world_store_of s) (world_store_of (with_volumes s volumes)) serial there q key k v w.set own i;
    catalog = λ n. get s.catalog n;
  }

  others_stay : (there : Option DataSet) → Writes s.volumes volumes k serial there → set_of_others job (world_store_of (with_volumes s volumes)) ≡ set_of_others job (world_store_of s)
  others_stay there w = λ i q v. others_step job (world_store_of s) (world_store_of (with_volumes s volumes)) serial there q key k v w.set own i

  pub others_written : (there : Option DataSet) → Writes s.volumes volumes k serial there → Keeps s.volumes volumes → Stay s.volumes volumes →
      others_of job (with_volumes s volumes) ≡ others_of job s
  others_written there w kept stay = λ i. record {
    set = others_stay there w i;
    rooms = w.rooms i;
    kept = λ v at. kept v at i;
    extents = λ v q. (stay v).extents q i;
    tracks = λ v. (stay v).tracks i;
  }

  pub others_given : (there : Option DataSet) → Writes s.volumes volumes k serial there → Keeps s.volumes volumes → GiveUpTracks s.volumes volumes →
      GiveUp (others_of job s) (others_of job (with_volumes s volumes))
  others_given there w kept given = record {
    set = others_stay there w;
    rooms = w.rooms;
    kept = λ i v at. kept v at i;
    extents = λ v. (given v).extents;
    unusable = λ v. (given v).unusable;
  }

  pub others_made : (place : Place) (there : Option DataSet) → Writes s.volumes volumes k serial there → KeepsOthers s.volumes volumes place.serial (kept_place job place) →
      TakeTracksAt place.serial (kept_place job place) s.volumes volumes → Take job (place ∷ []) (others_of job s) (others_of job (with_volumes s volumes))
  others_made place there w kept take = record {
    set = others_stay there w;
    rooms = w.rooms;
    kept = λ i v at. kept v at i;
    extents = λ v. (take v).extents;
    unusable = λ v. (take v).unusable;
  }

  pub others_grown : (there : Option DataSet) → Writes s.volumes volumes k serial there → Keeps s.volumes volumes → TakeTracks s.volumes volumes →
      Take job [] (others_of job s) (others_of job (with_volumes s volumes))
  others_grown there w kept take = record {
    set = others_stay there w;
    rooms = w.rooms;
    kept = λ i v at. kept v at i;
    extents = λ v. (take v).extents;
    unusable = λ v. (take v).unusable;
  }

  -- a set that is there is changed, and else nothing
  none_there : (b : Bool) (x : Option DataSet) → (b ≡ true → x ≡ None) → cond b None x ≡ x
  none_there true x h = sym (h refl)
  none_there false x h = refl

  not_written : set_on (mounted_in s.volumes serial) k ≡ None → Writes s.volumes volumes k serial None →
      seen job (world_store_of (with_volumes s volumes)) ≡ seen job (world_store_of s)
  not_written n w = λ i. seen job (record {
    set = λ q v.
        (w.set q v ∙ none_there (same_world_key q k && bytes_eq v serial) (set_on (mounted_in s.volumes v) q) (λ e. at_its_place s.volumes q k v serial e ∙ n)) i;
    catalog = λ n. get s.catalog n;
  })

  by_what_is_there : (f : DataSet → DataSet) (o : Option DataSet) → set_on (mounted_in s.volumes serial) k ≡ o → Writes s.volumes volumes k serial (option_map f o) →
      seen job (world_store_of (with_volumes s volumes)) ≡ with_set_there o (f (or_nothing o)) (seen job (world_store_of s)) key serial
  by_what_is_there f None e w = not_written e w
  by_what_is_there f (Some set) e w = seen_written (Some (f set)) w

  pub seen_changed : (f : DataSet → DataSet) → Changes f s.volumes volumes k serial →
      seen job (world_store_of (with_volumes s volumes)) ≡ changed_at f (seen job (world_store_of s)) key serial
  seen_changed f w =
      by_what_is_there f (set_on (mounted_in s.volumes serial) k) refl w.0
      ∙ ap (λ o. with_set_there o (f (or_nothing o)) (seen job (world_store_of s)) key serial) (sym (seen_at job (world_store_of s) key k serial own))

  pub others_changed : (f : DataSet → DataSet) → Changes f s.volumes volumes k serial → Stay s.volumes volumes → others_of job (with_volumes s volumes) ≡ others_of job s
  others_changed f w stay = others_written (option_map f (set_on (mounted_in s.volumes serial) k)) w.0 w.1 stay

  cut_there : (o : Option DataSet) (t : Store) → with_set_there o (cut (or_nothing o)) t key serial ≡ cut_at o t key serial
  cut_there None t = refl
  cut_there (Some set) t = refl

  pub seen_cut : Changes cut s.volumes volumes k serial →
      seen job (world_store_of (with_volumes s volumes)) ≡ cut_at (seen_set job (world_store_of s) key serial) (seen job (world_store_of s)) key serial
  seen_cut w = seen_changed cut w ∙ cut_there (seen_set job (world_store_of s) key serial) (seen job (world_store_of s))

-- the catalog with one entry put, or taken out
module _ (job : ℕ) (s : SharedStore) (catalog : Contents) where
  abbrev pub with_catalog : SharedStore
  with_catalog = record { alloc = s.alloc; catalog = catalog; volumes = s.volumes }

  seen_set_same : (q : Key) (v : List ℕ) → seen_set job (world_store_of with_catalog) q v ≡ seen_set job (world_store_of s) q v
  seen_set_same (Named a) v = refl
  seen_set_same (Relative b t n) v = refl
  seen_set_same (Temporary a) v = refl
  seen_set_same (Unnamed t d) v = refl

  pub seen_entered : (name : List ℕ) (e : CatEntry) → catalog ≡ insert s.catalog name e →
      seen job (world_store_of with_catalog) ≡ with_entry (seen job (world_store_of s)) name (Some e)
  seen_entered name e p = λ i. record {
    set = λ q v. seen_set_same q v i;
    catalog = λ n. (ap (λ (m : Contents). get m n) p ∙ name_put s.catalog name e n) i;
  }

  pub seen_left : (name : List ℕ) → catalog ≡ remove s.catalog name → seen job (world_store_of with_catalog) ≡ with_entry (seen job (world_store_of s)) name None
  seen_left name p = λ i. record {
    set = λ q v. seen_set_same q v i;
    catalog = λ n. (ap (λ (m : Contents). get m n) p ∙ name_taken s.catalog name n) i;
  }

  pub seen_uncatalogued : (m : Option Member) (name : List ℕ) → catalog ≡ without_name_by m s.catalog name →
      seen job (world_store_of with_catalog) ≡ uncatalogued_by m (seen job (world_store_of s)) name
  seen_uncatalogued None name p = seen_left name p
  seen_uncatalogued (Some m) name p = seen_entered (base_of name) (Group (record m.1 { generations = without m.1.generations m.0 })) p

  pub seen_numbered : (g : Option GroupState) (base : List ℕ) (number : ℕ) (serial : List ℕ) → catalog ≡ with_generation_by g s.catalog base number serial →
      seen job (world_store_of with_catalog) ≡ with_number_by g (seen job (world_store_of s)) base number serial
  seen_numbered None base number serial p = λ i. record { set = λ q v. seen_set_same q v i; catalog = λ n. get (p i) n }
  seen_numbered (Some g) base number serial p = seen_entered base (Group (with_entered g number serial)) p
