-- The copies of the sets under a name, and of the job's own.
use Rattle.std.proofs.Common.{◌≡◌, ◌⊎◌, inl, inr, ℕ, Bool, true, false, cond, ◌&&◌, List, ◌++◌, Option, Some, None, IfSome, refl, ap, subst, sym, ◌∙◌}
use Rattle.std.specs.FinMap.{get}
use Rattle.std.specs.Option.{option_map}
use Rattle.std.specs.Str.{bytes_eq}
use Rattle.std.specs.declared.ops.Bound.TheVariants.{Excluded, Included, Unbounded}
use Rattle.std.specs.BTreeMap.Range.{range_contains}
use Rattle.std.specs.Prelude.{is_some}
use Rattle.std.proofs.lemmas.Bool.{and_parts, cond-false}
use Rattle.jname_core.specs.declared.key.Key.{Key}
use Rattle.jname_core.specs.declared.key.Key.TheVariants.{Named, Relative, Temporary, Unnamed}
use Rattle.jname_core.specs.Generations.{base_of, has_generation_form}
use Rattle.jname_core.specs.Generations.{above_generations, below_generations}
use Rattle.cat_core.specs.Catalogs.{is_generation_of, name_cmp}
use Rattle.cat_core.proofs.Bounds.{behind_base, in_range}
use Rattle.vtoc_core.specs.declared.entry.SetEntry.{SetEntry}
use Rattle.vtoc_core.specs.declared.entry.SetKey.{SetKey}
use Rattle.vtoc_core.specs.declared.entry.SetKey.TheVariants as world
use Rattle.vtoc_core.specs.Entries.{Sets, key_cmp, set_among, set_within}
use Rattle.jcl_meaning.specs.declared.names.HeldName.{HeldName}
use Rattle.jcl_meaning.specs.declared.store.DataSet.{DataSet}
use Rattle.jcl_meaning.specs.declared.store.SoloSet.{SoloSet}
use Rattle.jcl_meaning.specs.Names.{held_under, same_key}
use Rattle.jcl_meaning.specs.Parts.{is_held_by}
use Rattle.jcl_meaning.specs.Stores.{set_in}
use Rattle.world_meaning.specs.Lenses.{world_key}
use Rattle.mount_core.specs.Mounts.{MountedState}
use Rattle.part_copy.specs.Copies.{AddsSets, IsNamed, Spot, bare, bare_on, bare_under, copies_of_named, copies_of_sets, is_under, is_under_some, set_at}
use Rattle.part_copy.proofs.Adding.{join}
use Rattle.part_copy.proofs.Copied.{among, copies_found, names_same, names_turned, sets_behind}

-- what is found between two bounds stands on the volume
pub as_it_stands : {Y : Type 0} (o p : Option Y) → p ≡ o → IfSome o (λ y. p ≡ Some y)
as_it_stands None p h = tt
as_it_stands (Some y) p h = h

pub within_stands : {Y : Type 0} (b : Bool) (g o : Option Y) → o ≡ cond b g None → IfSome o (λ y. g ≡ Some y)
within_stands true g o h = as_it_stands o g (sym h)
within_stands false g o h = subst (λ (p : Option _). IfSome p (λ y. g ≡ Some y)) (sym h) tt

-- each of these sets stands on a volume
abbrev pub AreThere : List (SetKey × SetEntry) → Sets → Type 0
AreThere sets all = (k : SetKey) → IfSome (set_among sets k) (λ e. get all k ≡ Some e)

module _ (job : ℕ) (held : Option (List ℕ)) (m : MountedState) (sets : List (SetKey × SetEntry)) where
  mapped : (o g : Option SetEntry) → IfSome o (λ e. g ≡ Some e) → IfSome (option_map bare o) (λ d. option_map bare g ≡ Some d)
  mapped None g h = tt
  mapped (Some e) g h = ap (option_map bare) h

  copied_by : (b u : Bool) (here : Option SetKey) → AreThere sets m.volume.sets →
      IfSome (cond (b && u) (among here sets) None) (λ d. cond b (bare_under here (Some m)) None ≡ Some d)
  copied_by true true None h = tt
  copied_by true true (Some k) h = mapped (set_among sets k) (get m.volume.sets k) (h k)
  copied_by true false here h = tt
  copied_by false u here h = tt

  whole_by : (b u : Bool) (here : Option SetKey) → u ≡ true → ((k : SetKey) → here ≡ Some k → set_among sets k ≡ get m.volume.sets k) →
      cond (b && u) (among here sets) None ≡ cond b (bare_under here (Some m)) None
  whole_by true true None e h = refl
  whole_by true true (Some k) e h = ap (option_map bare) (h k refl)
  whole_by b false here e h = absurd cc
  whole_by false true here e h = refl

  turned : (q : Spot) → bare_on job m q ≡ cond (bytes_eq q.1 m.serial) (bare_under (world_key job q.0) (Some m)) None
  turned q = ap (λ b. cond b (bare_under (world_key job q.0) (Some m)) None) (names_turned m.serial q.1)

  -- The copies of some sets are complete where each set under the name is among them.
  pub copies_add : (complete : Spot → Bool) (old : List SoloSet) → AreThere sets m.volume.sets →
      ((q : Spot) → complete q ≡ true → (is_under held (held_under q.0) ≡ true) × ((k : SetKey) → world_key job q.0 ≡ Some k → set_among sets k ≡ get m.volume.sets k)) →
      AddsSets (bare_on job m) complete old (old ++ copies_of_sets job held m.serial sets)
  copies_add complete old there all = record {
    more = copies_of_sets job held m.serial sets;
    behind = refl;
    copied = λ q.
        subst (λ (o : Option DataSet). IfSome o (λ d. bare_on job m q ≡ Some d)) (sym (copies_found job held m.serial sets q.0 q.1))
        (subst (λ (o : Option DataSet). IfSome (cond (bytes_eq q.1 m.serial && is_under held (held_under q.0)) (among (world_key job q.0) sets) None) (λ d. o ≡ Some d)) (sym (turned q))
        (copied_by (bytes_eq q.1 m.serial) (is_under held (held_under q.0)) (world_key job q.0) there));
    whole = λ q h.
        copies_found job held m.serial sets q.0 q.1
        ∙ whole_by (bytes_eq q.1 m.serial) (is_under held (held_under q.0)) (world_key job q.0) (all q h).0 (all q h).1
        ∙ sym (turned q);
  }

-- the copy of a named set
named_found : (serial name : List ℕ) (g : Option SetEntry) (k : Key) (v : List ℕ) →
    set_in (copies_of_named serial name g) k v ≡ cond (same_key k (Named name) && bytes_eq v serial) (option_map bare g) None
named_found serial name None k v = no_copy (same_key k (Named name) && bytes_eq v serial)
  where
    no_copy : (b : Bool) → ◌≡◌ {A = Option DataSet} None (cond b None None)
    no_copy true = refl
    no_copy false = refl
named_found serial name (Some e) k v = refl

abbrev pub is_of : List ℕ → Key → Bool
is_of name k = same_key k (Named name)

module _ (job : ℕ) (m : MountedState) (name : List ℕ) where
  named_copied_by : (t b c : Bool) (g : Option SetEntry) → (t ≡ true → g ≡ get m.volume.sets (world.Named name)) → b ≡ c →
      IfSome (cond (t && b) (option_map bare (get m.volume.sets (world.Named name))) None) (λ d. cond c (option_map bare g) None ≡ Some d)
  named_copied_by true true true g same e = as_it_stands _ (option_map bare g) (ap (option_map bare) (same refl))
  named_copied_by true true false g same e = absurd cc
  named_copied_by true false c g same e = tt
  named_copied_by false b c g same e = tt

  named_copied : (q : Spot) → IfSome (cond (same_key q.0 (Named name) && bytes_eq q.1 m.serial) (option_map bare (get m.volume.sets (world.Named name))) None) (λ d. bare_on job m q ≡ Some d)
  named_copied (Named n, v) = named_copied_by (bytes_eq n name) (bytes_eq v m.serial) (bytes_eq m.serial v) (get m.volume.sets (world.Named n))
      (λ h. ap (λ (x : List ℕ). get m.volume.sets (world.Named x)) (names_same n name h)) (names_turned v m.serial)
  named_copied (Relative a s n, v) = tt
  named_copied (Temporary a, v) = tt
  named_copied (Unnamed s d, v) = tt

  named_whole_by : (t b c : Bool) (g : Option SetEntry) → t ≡ true → g ≡ get m.volume.sets (world.Named name) → b ≡ c →
      cond (t && b) (option_map bare (get m.volume.sets (world.Named name))) None ≡ cond c (option_map bare g) None
  named_whole_by true true true g h same e = ap (option_map bare) (sym same)
  named_whole_by true true false g h same e = absurd cc
  named_whole_by true false true g h same e = absurd cc
  named_whole_by true false false g h same e = refl
  named_whole_by false b c g h same e = absurd cc

  named_whole : (q : Spot) → is_of name q.0 ≡ true →
      cond (same_key q.0 (Named name) && bytes_eq q.1 m.serial) (option_map bare (get m.volume.sets (world.Named name))) None ≡ bare_on job m q
  named_whole (Named n, v) h = named_whole_by (bytes_eq n name) (bytes_eq v m.serial) (bytes_eq m.serial v) (get m.volume.sets (world.Named n)) h
      (ap (λ (x : List ℕ). get m.volume.sets (world.Named x)) (names_same n name h)) (names_turned v m.serial)
  named_whole (Relative a s n, v) h = absurd cc
  named_whole (Temporary a, v) h = absurd cc
  named_whole (Unnamed s d, v) h = absurd cc

  pub named_add : (old : List SoloSet) →
      AddsSets (bare_on job m) (λ q. is_of name q.0) old (old ++ copies_of_named m.serial name (get m.volume.sets (world.Named name)))
  named_add old = record {
    more = copies_of_named m.serial name (get m.volume.sets (world.Named name));
    behind = refl;
    copied = λ q. subst (λ (o : Option DataSet). IfSome o (λ d. bare_on job m q ≡ Some d))
        (sym (named_found m.serial name (get m.volume.sets (world.Named name)) q.0 q.1)) (named_copied q);
    whole = λ q h. named_found m.serial name (get m.volume.sets (world.Named name)) q.0 q.1 ∙ named_whole q h;
  }

-- a key whose set is a generation
abbrev pub is_generation : Key → Bool
is_generation (Named n) = has_generation_form n
is_generation (Relative base sign amount) = true
is_generation (Temporary n) = false
is_generation (Unnamed step dd) = false

abbrev pub is_generation_under : List ℕ → Key → Bool
is_generation_under name k = is_under (Some name) (held_under k) && is_generation k

-- a set under a name is the name's own or a generation
named_or : (name n : List ℕ) (b : Bool) → has_generation_form n ≡ b → bytes_eq name (base_of n) ≡ true →
    (bytes_eq n name ≡ true) ⊎ ((bytes_eq name (base_of n) && b) ≡ true)
named_or name n true e h = inr (ap (λ c. c && true) h)
named_or name n false e h = inl (names_turned n name ∙ ap (bytes_eq name) (sym (cond-false (has_generation_form n) _ n e)) ∙ h)

pub own_or_generation : (name : List ℕ) (k : Key) → is_under (Some name) (held_under k) ≡ true → (is_of name k ≡ true) ⊎ (is_generation_under name k ≡ true)
own_or_generation name (Named n) h = named_or name n (has_generation_form n) refl h
own_or_generation name (Relative base sign amount) h = inr (ap (λ c. c && true) h)
own_or_generation name (Temporary n) h = absurd cc
own_or_generation name (Unnamed step dd) h = absurd cc

-- the generations of a base among some sets
abbrev pub HasGenerations : List ℕ → List (SetKey × SetEntry) → Sets → Type 0
HasGenerations name sets all = (n : List ℕ) → is_generation_of name n ≡ true → set_among sets (world.Named n) ≡ get all (world.Named n)

pub formed : (b : Bool) (n : ℕ) → b ≡ true → is_some (cond b (Some n) None) ≡ true
formed true n h = refl
formed false n h = absurd cc

generation_there : (name : List ℕ) (sets : List (SetKey × SetEntry)) (all : Sets) → HasGenerations name sets all → (job : ℕ) (k : Key) → is_generation_under name k ≡ true →
    (here : SetKey) → world_key job k ≡ Some here → set_among sets here ≡ get all here
generation_there name sets all g job (Named n) h here e =
    let p = and_parts (bytes_eq name (base_of n)) (has_generation_form n) h in
    let is : is_generation_of name n ≡ true =
    ap (λ b. b && bytes_eq (base_of n) name) (formed (has_generation_form n) _ p.1) ∙ names_turned (base_of n) name ∙ p.0 in
    let at : world.Named n ≡ here = cc in
    subst (λ (k : SetKey). set_among sets k ≡ get all k) at (g n is)
generation_there name sets all g job (Relative base sign amount) h here e = absurd cc
generation_there name sets all g job (Temporary n) h here e = absurd (cc)
generation_there name sets all g job (Unnamed step dd) h here e = absurd (cc)

-- the copies of the sets under a name
pub held_add : (job : ℕ) (m : MountedState) (name : List ℕ) (sets : List (SetKey × SetEntry)) (old between new : List SoloSet) →
    AreThere sets m.volume.sets → HasGenerations name sets m.volume.sets →
    between ≡ old ++ copies_of_named m.serial name (get m.volume.sets (world.Named name)) → new ≡ between ++ copies_of_sets job (Some name) m.serial sets →
    AddsSets (bare_on job m) (λ q. is_under (Some name) (held_under q.0)) old new
held_add job m name sets old between new there all first then =
    join set_at (bare_on job m) sets_behind (λ q. is_of name q.0) (λ q. is_generation_under name q.0) (λ q. is_under (Some name) (held_under q.0)) old between new
    (λ q. own_or_generation name q.0)
    (subst (λ (xs : List SoloSet). AddsSets (bare_on job m) (λ q. is_of name q.0) old xs) (sym first) (named_add job m name old))
    (subst (λ (xs : List SoloSet). AddsSets (bare_on job m) (λ q. is_generation_under name q.0) between xs) (sym then)
    (copies_add job (Some name) m sets (λ q. is_generation_under name q.0) between there
    (λ q h. ((and_parts (is_under (Some name) (held_under q.0)) (is_generation q.0) h).0, generation_there name sets m.volume.sets all job q.0 h))))

-- behind a named key are all sets without a name
own_there : (low : SetKey) → IsNamed low → (job : ℕ) (k : Key) → is_under None (held_under k) ≡ true → (here : SetKey) → world_key job k ≡ Some here →
    range_contains key_cmp (Included low) Unbounded here ≡ true
own_there (world.Named z) named job (Named n) h here e = absurd cc
own_there (world.Named z) named job (Relative base sign amount) h here e = absurd cc
own_there (world.Named z) named job (Temporary n) h here e =
    let at : world.Temporary job n ≡ here = cc in subst (λ (k : SetKey). range_contains key_cmp (Included (world.Named z)) Unbounded k ≡ true) at refl
own_there (world.Named z) named job (Unnamed step dd) h here e =
    let at : world.Unnamed job step dd ≡ here = cc in subst (λ (k : SetKey). range_contains key_cmp (Included (world.Named z)) Unbounded k ≡ true) at refl
own_there (world.Temporary owner n) named job k h here e = absurd named
own_there (world.Unnamed owner step dd) named job k h here e = absurd named

pub own_add : (job : ℕ) (m : MountedState) (low : SetKey) (sets : List (SetKey × SetEntry)) (old new : List SoloSet) → IsNamed low →
    ((k : SetKey) → set_among sets k ≡ set_within (Included low) Unbounded m.volume.sets k) → new ≡ old ++ copies_of_sets job None m.serial sets →
    AddsSets (bare_on job m) (λ q. is_under None (held_under q.0)) old new
own_add job m low sets old new named among added =
    subst (λ (xs : List SoloSet). AddsSets (bare_on job m) (λ q. is_under None (held_under q.0)) old xs) (sym added)
    (copies_add job None m sets (λ q. is_under None (held_under q.0)) old
    (λ k. within_stands (range_contains key_cmp (Included low) Unbounded k) (get m.volume.sets k) (set_among sets k) (among k))
    (λ q h. (h, λ k e. among k ∙ ap (λ b. cond b (get m.volume.sets k) None) (own_there low named job q.0 h k e))))

-- a base's generations stand between its bounds, or behind it
pub between_there : (name below above : List ℕ) (sets : List (SetKey × SetEntry)) (all : Sets) →
    ((k : SetKey) → set_among sets k ≡ set_within (Included (world.Named below)) (Excluded (world.Named above)) all k) →
    below ≡ below_generations name → above ≡ above_generations name → HasGenerations name sets all
between_there name below above sets all among low high n is =
    among (world.Named n)
    ∙ ap (λ b. cond b (get all (world.Named n)) None)
    (ap (λ (b : List ℕ). range_contains name_cmp (Included b) (Excluded above) n) low
    ∙ ap (λ (b : List ℕ). range_contains name_cmp (Included (below_generations name)) (Excluded b) n) high
    ∙ in_range name n is)

pub behind_there : (name : List ℕ) (sets : List (SetKey × SetEntry)) (all : Sets) →
    ((k : SetKey) → set_among sets k ≡ set_within (Included (world.Named name)) Unbounded all k) → HasGenerations name sets all
behind_there name sets all among n is =
    among (world.Named n) ∙ ap (λ b. cond b (get all (world.Named n)) None) (behind_base name n is)

-- what a job sees is its own or under one of its names
pub own_or_held : (names : List HeldName) (base : Option (List ℕ)) → is_held_by base names ≡ true → (is_under None base ≡ true) ⊎ (is_under_some names base ≡ true)
own_or_held names None h = inl refl
own_or_held names (Some base) h = inr h
