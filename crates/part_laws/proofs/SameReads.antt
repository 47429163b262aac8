-- What a job reads is the same in two stores with equal parts.
use Rattle.std.proofs.Common.{◌≡◌, ◌&&◌, ◌⊎◌, inl, inr, ℕ, Bool, true, false, cond, not, List, [], ◌∷◌, ◌+◌, Option, Some, None, refl, sym, ap, ◌∙◌}
use Rattle.std.specs.Prelude.{is_some}
use Rattle.std.specs.List.{list_any}
use Rattle.std.specs.Str.{bytes_eq}
use Rattle.std.proofs.lemmas.Bool.{and_parts, or_cases, or_left, or_right}
use Rattle.jname_core.specs.declared.key.Key.{Key}
use Rattle.jname_core.specs.declared.key.Key.TheVariants.{Named, Relative, Temporary, Unnamed}
use Rattle.jname_core.specs.Generations.{base_of, generation_of}
use Rattle.group_core.specs.declared.entry.CatEntry.{CatEntry}
use Rattle.group_core.specs.declared.entry.CatEntry.TheVariants.{Volume, Group}
use Rattle.group_core.specs.Entries.{Member, found_by, group_in, member_by, volume_in}
use Rattle.group_core.specs.Groups.{GroupState}
use Rattle.jcl_plan.specs.declared.plan.DdKind.{DdKind}
use Rattle.jcl_plan.specs.declared.plan.DdKind.TheVariants.{Sysout, Dummy, Cards, Set}
use Rattle.jcl_plan.specs.declared.plan.DdPlan.{DdPlan}
use Rattle.jcl_plan.specs.declared.plan.VolumePlan.{VolumePlan}
use Rattle.jcl_plan.specs.declared.plan.VolumePlan.TheVariants.{NotCoded, Serial, OfName, OfDd}
use Rattle.jcl_plan.specs.declared.plan.Word.{Word}
use Rattle.jcl_plan.specs.declared.words.DispWord.TheVariants as disp
use Rattle.jcl_meaning.specs.declared.names.HeldName.{HeldName}
use Rattle.jcl_meaning.specs.declared.state.Change.TheVariants as change
use Rattle.jcl_meaning.specs.declared.state.DdState.{DdState}
use Rattle.jcl_meaning.specs.declared.state.DdVolume.{DdVolume}
use Rattle.jcl_meaning.specs.declared.state.Passed.{Passed}
use Rattle.jcl_meaning.specs.declared.state.TakenSet.{TakenSet}
use Rattle.jcl_meaning.specs.declared.store.DataSet.{DataSet}
use Rattle.jcl_meaning.specs.Dispositions.{catalogs, catalogs_by, disposed_by, does, is_entered_on, unless_gone, word_does}
use Rattle.jcl_meaning.specs.Parts.{SamePart, but_for_tracks, is_alone, is_among, seen_entry, some_group}
use Rattle.jcl_meaning.specs.Programs.{records_of, set_source, source_of, sources_from, taken_at}
use Rattle.jcl_meaning.specs.Stores.{Store, catalogued, group_of, is_unexpired, member_of, volume_of}
use Rattle.jcl_meaning.specs.Takes.{first_passed, is_there, passed_or_else, where_of}
use Rattle.part_laws.specs.Fits.{IsVolumeHeld, sees_alone, sees_set}

-- what one test passes of a list, a weaker one does
pub any_weaker : {X : Type 0} (p q : X → Bool) (xs : List X) → ((x : X) → p x ≡ true → q x ≡ true) → list_any p xs ≡ true → list_any q xs ≡ true
any_weaker p q [] f h = cc
any_weaker p q (x ∷ xs) f h = by_place (or_cases (p x) (list_any p xs) h) (any_weaker p q xs f)
  where
    by_place : (p x ≡ true) ⊎ (list_any p xs ≡ true) → (list_any p xs ≡ true → list_any q xs ≡ true) → list_any q (x ∷ xs) ≡ true
    by_place (inl e) more = or_left (q x) (list_any q xs) (f x e)
    by_place (inr e) more = or_right (q x) (list_any q xs) (more e)

-- a name held alone is held
pub held_if_alone : (names : List HeldName) (name : List ℕ) → is_alone names name ≡ true → is_among names name ≡ true
held_if_alone names name h =
    any_weaker (λ x. x.exclusive && bytes_eq x.name name) (λ x. bytes_eq x.name name) names (λ x e. (and_parts x.exclusive (bytes_eq x.name name) e).1) h

pub seen_if_alone : (names : List HeldName) (key : Key) → sees_alone names key ≡ true → sees_set names key ≡ true
seen_if_alone names (Named name) h = held_if_alone names (base_of name) h
seen_if_alone names (Relative base sign amount) h = h
seen_if_alone names (Temporary name) h = h
seen_if_alone names (Unnamed step dd) h = h

-- a set that was taken, if one was, is seen
abbrev pub IsSeen : List HeldName → Option TakenSet → Type 0
IsSeen names None = Unit {0}
IsSeen names (Some x) = sees_set names x.key ≡ true

-- sets
either_compared : (alone : Bool) (x y : Option DataSet) → cond alone x (but_for_tracks x) ≡ cond alone y (but_for_tracks y) →
    but_for_tracks x ≡ but_for_tracks y
either_compared true x y e = ap but_for_tracks e
either_compared false x y e = e

alone_compared : (alone : Bool) (x y : Option DataSet) → alone ≡ true → cond alone x (but_for_tracks x) ≡ cond alone y (but_for_tracks y) → x ≡ y
alone_compared true x y h e = e
alone_compared false x y h e = absurd cc

pub same_but_for_tracks : (names : List HeldName) (s t : Store) → SamePart names s t → (key : Key) (serial : List ℕ) → sees_set names key ≡ true →
    but_for_tracks (s.set key serial) ≡ but_for_tracks (t.set key serial)
same_but_for_tracks names s t p (Named name) serial h =
    either_compared (is_alone names (base_of name)) (s.set (Named name) serial) (t.set (Named name) serial) (p.named name serial h)
same_but_for_tracks names s t p (Relative base sign amount) serial h = absurd cc
same_but_for_tracks names s t p (Temporary name) serial h = ap but_for_tracks (p.temporary name serial)
same_but_for_tracks names s t p (Unnamed step dd) serial h = ap but_for_tracks (p.unnamed step dd serial)

pub same_if_alone : (names : List HeldName) (s t : Store) → SamePart names s t → (key : Key) (serial : List ℕ) → sees_alone names key ≡ true →
    s.set key serial ≡ t.set key serial
same_if_alone names s t p (Named name) serial h =
    alone_compared (is_alone names (base_of name)) (s.set (Named name) serial) (t.set (Named name) serial) h
    (p.named name serial (held_if_alone names (base_of name) h))
same_if_alone names s t p (Relative base sign amount) serial h = absurd cc
same_if_alone names s t p (Temporary name) serial h = p.temporary name serial
same_if_alone names s t p (Unnamed step dd) serial h = p.unnamed step dd serial

-- what is read of a set does not tell its tracks
there_but_for_tracks : (x : Option DataSet) → is_some (but_for_tracks x) ≡ is_some x
there_but_for_tracks None = refl
there_but_for_tracks (Some set) = refl

pub both_there : (x y : Option DataSet) → but_for_tracks x ≡ but_for_tracks y → is_some x ≡ is_some y
both_there x y e = sym (there_but_for_tracks x) ∙ ap is_some e ∙ there_but_for_tracks y

expiry_but_for_tracks : (x : Option DataSet) (date : ℕ) → is_unexpired (but_for_tracks x) date ≡ is_unexpired x date
expiry_but_for_tracks None date = refl
expiry_but_for_tracks (Some set) date = refl

pub both_unexpired : (x y : Option DataSet) (date : ℕ) → but_for_tracks x ≡ but_for_tracks y → is_unexpired x date ≡ is_unexpired y date
both_unexpired x y date e = sym (expiry_but_for_tracks x date) ∙ ap (λ z. is_unexpired z date) e ∙ expiry_but_for_tracks y date

records_but_for_tracks : (x : Option DataSet) → records_of (but_for_tracks x) ≡ records_of x
records_but_for_tracks None = refl
records_but_for_tracks (Some set) = refl

pub both_records : (x y : Option DataSet) → but_for_tracks x ≡ but_for_tracks y → records_of x ≡ records_of y
both_records x y e = sym (records_but_for_tracks x) ∙ ap records_of e ∙ records_but_for_tracks y

-- entries: of a name that is held the group is seen whole, of one whose base is held the volume, and that it is a group
volume_or_none : (seen : Bool) (serial : List ℕ) → group_in (cond seen (Some (Volume serial)) None) ≡ None
volume_or_none true serial = refl
volume_or_none false serial = refl

group_seen : (names : List HeldName) (base : List ℕ) (entry : Option CatEntry) → is_among names base ≡ true →
    group_in (seen_entry names base entry) ≡ group_in entry
group_seen names base None h = refl
group_seen names base (Some (Volume serial)) h = volume_or_none (is_among names (base_of base)) serial
group_seen names base (Some (Group g)) h = ap (λ b. group_in (cond b (Some (Group g)) (cond (is_among names (base_of base)) (Some some_group) None))) h

no_volume : (whole seen : Bool) (g : GroupState) → volume_in (cond whole (Some (Group g)) (cond seen (Some some_group) None)) ≡ None
no_volume true seen g = refl
no_volume false true g = refl
no_volume false false g = refl

volume_seen : (names : List HeldName) (name : List ℕ) (entry : Option CatEntry) → is_among names (base_of name) ≡ true →
    volume_in (seen_entry names name entry) ≡ volume_in entry
volume_seen names name None h = refl
volume_seen names name (Some (Volume serial)) h = ap (λ b. volume_in (cond b (Some (Volume serial)) None)) h
volume_seen names name (Some (Group g)) h = no_volume (is_among names name) (is_among names (base_of name)) g

some_group_seen : (whole seen : Bool) (g : GroupState) → seen ≡ true →
    is_some (group_in (cond whole (Some (Group g)) (cond seen (Some some_group) None))) ≡ true
some_group_seen true seen g h = refl
some_group_seen false true g h = refl
some_group_seen false false g h = h

base_seen : (names : List HeldName) (name : List ℕ) (entry : Option CatEntry) → is_among names (base_of name) ≡ true →
    is_some (group_in (seen_entry names name entry)) ≡ is_some (group_in entry)
base_seen names name None h = refl
base_seen names name (Some (Volume serial)) h = ap is_some (volume_or_none (is_among names (base_of name)) serial)
base_seen names name (Some (Group g)) h = some_group_seen (is_among names name) (is_among names (base_of name)) g h

-- what stands in the catalog where it has a group
pub group_there : (x : Option CatEntry) (g : GroupState) → group_in x ≡ Some g → x ≡ Some (Group g)
group_there None g e = absurd cc
group_there (Some (Volume serial)) g e = absurd cc
group_there (Some (Group h)) g e = let same : h ≡ g = cc in ap (λ (k : GroupState). Some (Group k)) same

module _ (names : List HeldName) (s t : Store) (p : SamePart names s t) where
  pub same_group : (base : List ℕ) → is_among names base ≡ true → group_of s base ≡ group_of t base
  same_group base h = sym (group_seen names base (s.catalog base) h) ∙ ap group_in (p.catalog base) ∙ group_seen names base (t.catalog base) h

  pub same_member : (name : List ℕ) → is_among names (base_of name) ≡ true → member_of s name ≡ member_of t name
  same_member name h = ap (member_by (generation_of name)) (same_group (base_of name) h)

  same_volume_in : (name : List ℕ) → is_among names (base_of name) ≡ true → volume_in (s.catalog name) ≡ volume_in (t.catalog name)
  same_volume_in name h = sym (volume_seen names name (s.catalog name) h) ∙ ap volume_in (p.catalog name) ∙ volume_seen names name (t.catalog name) h

  same_is_base : (name : List ℕ) → is_among names (base_of name) ≡ true → is_some (group_of s name) ≡ is_some (group_of t name)
  same_is_base name h =
      sym (base_seen names name (s.catalog name) h) ∙ ap (λ e. is_some (group_in e)) (p.catalog name) ∙ base_seen names name (t.catalog name) h

  by_volume : (m : Option Member) (a b : Option CatEntry) → volume_in a ≡ volume_in b → found_by m a ≡ found_by m b
  by_volume None a b e = e
  by_volume (Some m) a b e = refl

  pub same_volume : (name : List ℕ) → is_among names (base_of name) ≡ true → volume_of s name ≡ volume_of t name
  same_volume name h =
      ap (λ m. found_by m (s.catalog name)) (same_member name h)
      ∙ by_volume (member_of t name) (s.catalog name) (t.catalog name) (same_volume_in name h)

  pub same_catalogued : (key : Key) → sees_set names key ≡ true → catalogued s key ≡ catalogued t key
  same_catalogued (Named name) h = same_volume name h
  same_catalogued (Relative base sign amount) h = refl
  same_catalogued (Temporary name) h = refl
  same_catalogued (Unnamed step dd) h = refl

  same_catalogs : (key : Key) (serial : List ℕ) → sees_set names key ≡ true → catalogs s key serial ≡ catalogs t key serial
  same_catalogs (Named name) serial h =
      λ i. cond (same_is_base name h i) (does disp.F3 change.Nothing) (catalogs_by (same_member name h i) (same_volume_in name h i) serial)
  same_catalogs (Relative base sign amount) serial h = refl
  same_catalogs (Temporary name) serial h = refl
  same_catalogs (Unnamed step dd) serial h = refl

  -- where VOL leads, and what is there
  pub same_where : (volume : VolumePlan) (passed : List Passed) (volumes : List DdVolume) → IsVolumeHeld names volume →
      where_of volume s passed volumes ≡ where_of volume t passed volumes
  same_where NotCoded passed volumes h = refl
  same_where (Serial serial) passed volumes h = refl
  same_where (OfName name) passed volumes h = ap (passed_or_else (first_passed passed (Named name))) (same_volume name h)
  same_where (OfDd step dd) passed volumes h = refl

  pub same_there : (key : Key) (at : Option (List ℕ)) → sees_set names key ≡ true → is_there s key at ≡ is_there t key at
  same_there key None h = refl
  same_there key (Some serial) h = both_there (s.set key serial) (t.set key serial) (same_but_for_tracks names s t p key serial h)

  -- what becomes of a set
  pub same_disposed : (w : Word) (x : TakenSet) (date : ℕ) → sees_set names x.key ≡ true → disposed_by w s x date ≡ disposed_by w t x date
  same_disposed w x date h =
      let alike : but_for_tracks (s.set x.key x.serial) ≡ but_for_tracks (t.set x.key x.serial) = same_but_for_tracks names s t p x.key x.serial h in
      let there : is_some (s.set x.key x.serial) ≡ is_some (t.set x.key x.serial) = both_there (s.set x.key x.serial) (t.set x.key x.serial) alike in
      let unexpired : is_unexpired (s.set x.key x.serial) date ≡ is_unexpired (t.set x.key x.serial) date =
      both_unexpired (s.set x.key x.serial) (t.set x.key x.serial) date alike in
      λ i. unless_gone (there i)
      (word_does w (not x.made_here && unexpired i) x.by_catalog (is_entered_on (same_catalogued x.key h i) x.serial) (same_catalogs x.key x.serial h i))

  -- what a GET reads
  same_source_of : (x : Option TakenSet) → IsSeen names x → set_source s x ≡ set_source t x
  same_source_of None h = refl
  same_source_of (Some x) h =
      let records : records_of (s.set x.key x.serial) ≡ records_of (t.set x.key x.serial)
      = both_records (s.set x.key x.serial) (t.set x.key x.serial) (same_but_for_tracks names s t p x.key x.serial h) in
      λ i. record { records = records i; read_past = true; serial = Some x.serial }

  same_source : (kind : DdKind) (x : Option TakenSet) → IsSeen names x → source_of s kind x ≡ source_of t kind x
  same_source (Sysout class) x h = refl
  same_source Dummy x h = refl
  same_source (Cards cards) x h = refl
  same_source (Set plan) x h = same_source_of x h

  pub same_sources : (dds : List DdPlan) (xs : List DdState) (n : ℕ) → ((k : ℕ) → IsSeen names (taken_at xs k)) →
      sources_from s dds xs n ≡ sources_from t dds xs n
  same_sources [] xs n h = refl
  same_sources (d ∷ dds) xs n h = λ i. same_source d.kind (taken_at xs n) (h n) i ∷ same_sources dds xs (n + 1) h i

-- sets that are seen, each by itself
pub each_seen : (names : List HeldName) (x : Option TakenSet) → ((y : TakenSet) → x ≡ Some y → sees_set names y.key ≡ true) → IsSeen names x
each_seen names None h = tt
each_seen names (Some y) h = h y refl
