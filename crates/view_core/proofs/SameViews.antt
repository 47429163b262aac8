-- The test of two views says whether they show the same.
use Rattle.std.proofs.Common.{◌≡◌, ◌==◌, ◌&&◌, ◌||◌, ℕ, zero, suc, ◌<◌, ◌⊎◌, inl, inr, Bool, true, false, not, cond, List, [], ◌∷◌, ◌++◌, map, take, drop}
use Rattle.std.proofs.Common.{length, zip, slice_index_or, Option, Some, None, Contains, Decides}
use Rattle.std.proofs.Common.{refl, sym, ap, ◌∙◌, subst, arith}
use Rattle.std.specs.Bool.{beq}
use Rattle.std.specs.Cmp.{booleans_Decides}
use Rattle.std.specs.List.{list_all, list_any}
use Rattle.std.specs.Str.{bytes_eq}
use Rattle.std.proofs.lemmas.Bool.{and_from, and_parts, or_left, or_right}
use Rattle.std.proofs.lemmas.Bool.Decides.{Decides-and, Decides-eqb, Decides-like, not_from_Decides}
use Rattle.std.proofs.lemmas.List.{map-append}
use Rattle.std.proofs.lemmas.Slice.Eq.{bytes_eq-Decides, slice_eq-Decides}
use Rattle.jname_core.specs.declared.key.Key.{Key}
use Rattle.jname_core.specs.declared.key.Key.TheVariants.{Named, Relative, Temporary, Unnamed}
use Rattle.jname_core.specs.declared.key.Sign.{Sign}
use Rattle.jname_core.specs.declared.key.Sign.TheVariants.{Plus, Minus}
use Rattle.jname_core.specs.Generations.{base_of}
use Rattle.group_core.specs.declared.entry.CatEntry.{CatEntry}
use Rattle.group_core.specs.declared.entry.CatEntry.TheVariants.{Volume, Group}
use Rattle.group_core.specs.declared.group.Generation.{Generation}
use Rattle.group_core.specs.Groups.{GroupState}
use Rattle.jcl_plan.specs.declared.plan.DdKind.{DdKind}
use Rattle.jcl_plan.specs.declared.plan.DdKind.TheVariants.{Sysout, Dummy, Cards, Set}
use Rattle.jcl_plan.specs.declared.plan.DdPlan.{DdPlan}
use Rattle.jcl_plan.specs.declared.plan.JobPlan.{JobPlan}
use Rattle.jcl_plan.specs.declared.plan.StepPlan.{StepPlan}
use Rattle.jcl_plan.specs.declared.plan.VolumePlan.{VolumePlan}
use Rattle.jcl_plan.specs.declared.plan.VolumePlan.TheVariants.{NotCoded, Serial, OfName, OfDd}
use Rattle.jcl_meaning.specs.declared.names.HeldName.{HeldName}
use Rattle.jcl_meaning.specs.declared.state.DdVolume.{DdVolume}
use Rattle.jcl_meaning.specs.declared.state.Passed.{Passed}
use Rattle.jcl_meaning.specs.declared.store.DataSet.{DataSet}
use Rattle.jcl_meaning.specs.declared.store.SoloEntry.{SoloEntry}
use Rattle.jcl_meaning.specs.declared.store.SoloSet.{SoloSet}
use Rattle.jcl_meaning.specs.declared.store.SoloStore.{SoloStore}
use Rattle.jcl_meaning.specs.Names.{names_of, same_key, same_sign}
use Rattle.jcl_meaning.specs.Parts.{is_among, seen_entry, sees_key, some_group}
use Rattle.jcl_meaning.specs.Stores.{entry_in, set_in}
use Rattle.jcl_meaning.specs.Takes.{dd_volume}
use Rattle.jcl_meaning.specs.Views.{View, kind_refers, refers, shown_set, steps_refer}
use Rattle.path_laws.proofs.Shapes.{keys}
use Rattle.view_domain.specs.Crossings.{IsPut, New, Stood}
use Rattle.view_core.specs.declared.scene.PlainView.{PlainView}
use Rattle.view_core.specs.declared.scene.Scene.{Scene}
use Rattle.view_core.specs.PlainViews.{by_step, shown_by}
use Rattle.view_core.specs.Same.{all_same_passed, entries_alike, entry_alike, same_bits, same_by_plan, same_by_step, same_for_kind, same_generation}
use Rattle.view_core.specs.Same.{same_group, same_passed, same_scene, same_seen, same_serial, same_shown, same_view, same_volumes, set_alike}
use Rattle.view_core.specs.Same.{sets_alike, shown_alone, shown_under}

-- lists whose items are the same one by one
module _ {A : Type 0} (same : A → A → Bool) (each : (x y : A) → Decides (same x y) (x ≡ y)) where
  abbrev one_by_one : List A → List A → Bool
  one_by_one xs ys = list_all (λ (p : A × A). same p.0 p.1) (zip xs ys)

  items_same : (xs ys : List A) → length xs ≡ length ys → one_by_one xs ys ≡ true → xs ≡ ys
  items_same [] [] e h = refl
  items_same [] (y ∷ ys) e h = absurd (omega arith)
  items_same (x ∷ xs) [] e h = absurd (omega arith)
  items_same (x ∷ xs) (y ∷ ys) e h =
      let p : (same x y ≡ true) × (one_by_one xs ys ≡ true) = and_parts (same x y) (one_by_one xs ys) h in
      let rest : xs ≡ ys = items_same xs ys (omega arith) p.1 in
      λ i. (each x y).0 p.0 i ∷ rest i

  same_itself : (xs : List A) → one_by_one xs xs ≡ true
  same_itself [] = refl
  same_itself (x ∷ xs) = and_from (same x x) (one_by_one xs xs) ((each x x).1 refl) (same_itself xs)

  lists_decide : (xs ys : List A) → Decides (length xs == length ys && one_by_one xs ys) (xs ≡ ys)
  lists_decide xs ys = (
    λ h. let p : ((length xs == length ys) ≡ true) × (one_by_one xs ys ≡ true) = and_parts (length xs == length ys) (one_by_one xs ys) h in
        items_same xs ys ((Decides-eqb (length xs) (length ys)).0 p.0) p.1,
    λ e. and_from (length xs == length ys) (one_by_one xs ys) ((Decides-eqb (length xs) (length ys)).1 (ap length e))
        (subst (λ (zs : List A). one_by_one xs zs ≡ true) e (same_itself xs)),
  )

-- what holds for each item
all_from_each : {A : Type 0} (test : A → Bool) (xs : List A) → ((x : A) → test x ≡ true) → list_all test xs ≡ true
all_from_each test [] h = refl
all_from_each test (x ∷ xs) h = and_from (test x) (list_all test xs) (h x) (all_from_each test xs h)

-- texts and keys
pub same_bytes : (a b : List ℕ) → bytes_eq a b ≡ true → a ≡ b
same_bytes a b = (bytes_eq-Decides a b).0

bytes_itself : (a : List ℕ) → bytes_eq a a ≡ true
bytes_itself a = (bytes_eq-Decides a a).1 refl

number_itself : (n : ℕ) → (n == n) ≡ true
number_itself n = (Decides-eqb n n).1 refl

sign_itself : (s : Sign) → same_sign s s ≡ true
sign_itself Plus = refl
sign_itself Minus = refl

key_itself : (k : Key) → same_key k k ≡ true
key_itself (Named a) = bytes_itself a
key_itself (Relative a s n) =
    and_from (bytes_eq a a) (same_sign s s && n == n) (bytes_itself a) (and_from (same_sign s s) (n == n) (sign_itself s) (number_itself n))
key_itself (Temporary a) = bytes_itself a
key_itself (Unnamed s d) = and_from (s == s) (d == d) (number_itself s) (number_itself d)

keys_decide : (a b : Key) → Decides (same_key a b) (a ≡ b)
keys_decide a b = (keys a b, λ e. subst (λ (k : Key). same_key a k ≡ true) e (key_itself a))

-- sets
shown_decide : (x y : Option Bool) → Decides (same_shown x y) (x ≡ y)
shown_decide None None = (λ h. refl, λ e. refl)
shown_decide None (Some y) = (λ h. absurd cc, λ e. absurd cc)
shown_decide (Some x) None = (λ h. absurd cc, λ e. absurd cc)
shown_decide (Some x) (Some y) = Decides-like (beq x y) (λ (e : x ≡ y). ap Some e) (λ (e : Some x ≡ Some y). cc) (booleans_Decides x y)

seen_decide : (sees : Bool) (x y : Option DataSet) (date : ℕ) →
    Decides (not sees || same_shown (shown_set x date) (shown_set y date)) (shown_set (cond sees x None) date ≡ shown_set (cond sees y None) date)
seen_decide true x y date = shown_decide (shown_set x date) (shown_set y date)
seen_decide false x y date = (λ h. refl, λ e. refl)

set_turn : (P : Key → List ℕ → Bool) (x : SoloSet) (xs : List SoloSet) (key : Key) (serial : List ℕ) → P x.key x.serial ≡ true →
    (set_in xs key serial ≡ None) ⊎ (P key serial ≡ true) → (b c : Bool) → same_key key x.key ≡ b → bytes_eq serial x.serial ≡ c →
    (cond (b && c) (Some x.set) (set_in xs key serial) ≡ None) ⊎ (P key serial ≡ true)
set_turn P x xs key serial h rest true true e f = inr ((λ i. P (keys key x.key e i) (same_bytes serial x.serial f i)) ∙ h)
set_turn P x xs key serial h rest true false e f = rest
set_turn P x xs key serial h rest false c e f = rest

listed_set : (P : Key → List ℕ → Bool) (xs : List SoloSet) → list_all (λ x. P x.key x.serial) xs ≡ true → (key : Key) (serial : List ℕ) →
    (set_in xs key serial ≡ None) ⊎ (P key serial ≡ true)
listed_set P [] h key serial = inl refl
listed_set P (x ∷ xs) h key serial =
    let p : (P x.key x.serial ≡ true) × (list_all (λ (y : SoloSet). P y.key y.serial) xs ≡ true) =
    and_parts (P x.key x.serial) (list_all (λ (y : SoloSet). P y.key y.serial) xs) h in
    set_turn P x xs key serial p.0 (listed_set P xs p.1 key serial) (same_key key x.key) (bytes_eq serial x.serial) refl refl

module _ (names : List HeldName) (date : ℕ) (a b : SoloStore) where
  abbrev shown_in : SoloStore → Key → List ℕ → Option Bool
  shown_in s key serial = shown_set (cond (sees_key names key) (set_in s.sets key serial) None) date

  shown_at : (key : Key) (serial : List ℕ) → Decides (set_alike names date a b key serial) (shown_in a key serial ≡ shown_in b key serial)
  shown_at key serial = seen_decide (sees_key names key) (set_in a.sets key serial) (set_in b.sets key serial) date

  nowhere : (sees : Bool) (x y : Option DataSet) → x ≡ None → y ≡ None → shown_set (cond sees x None) date ≡ shown_set (cond sees y None) date
  nowhere sees x y e f = λ i. shown_set (cond sees ((e ∙ sym f) i) None) date

  sets_same : sets_alike names date a b a.sets ≡ true → sets_alike names date a b b.sets ≡ true → (key : Key) (serial : List ℕ) →
      shown_in a key serial ≡ shown_in b key serial
  sets_same h g key serial =
      elim (listed_set (set_alike names date a b) a.sets h key serial) [
        | inl none ↦ elim (listed_set (set_alike names date a b) b.sets g key serial) [
          | inl too ↦ nowhere (sees_key names key) (set_in a.sets key serial) (set_in b.sets key serial) none too
          | inr alike ↦ (shown_at key serial).0 alike
        ]
        | inr alike ↦ (shown_at key serial).0 alike
      ]

  sets_told : ((key : Key) (serial : List ℕ) → shown_in a key serial ≡ shown_in b key serial) → (sets : List SoloSet) → sets_alike names date a b sets ≡ true
  sets_told e sets = all_from_each (λ (x : SoloSet). set_alike names date a b x.key x.serial) sets (λ x. (shown_at x.key x.serial).1 (e x.key x.serial))

-- entries
generations_decide : (g h : Generation) → Decides (same_generation g h) (g ≡ h)
generations_decide g h =
    Decides-like (same_generation g h) (λ (e : (g.number ≡ h.number) × (g.serial ≡ h.serial)). λ i. record { number = e.0 i; serial = e.1 i })
    (λ (e : g ≡ h). (ap (λ (x : Generation). x.number) e, ap (λ (x : Generation). x.serial) e))
    (Decides-and (g.number == h.number) (bytes_eq g.serial h.serial) (Decides-eqb g.number h.number) (bytes_eq-Decides g.serial h.serial))

module _ (g h : GroupState) where
  abbrev limits : Bool
  limits = g.limit == h.limit

  abbrev scratches : Bool
  scratches = beq g.scratch h.scratch

  abbrev lengths : Bool
  lengths = length g.generations == length h.generations

  abbrev items : Bool
  items = one_by_one same_generation generations_decide g.generations h.generations

  generations_too : Decides (lengths && items) (g.generations ≡ h.generations)
  generations_too = lists_decide same_generation generations_decide g.generations h.generations

  one_group : same_group g h ≡ true → g ≡ h
  one_group e =
      let p : ((limits && scratches && lengths) ≡ true) × (items ≡ true) = and_parts (limits && scratches && lengths) items e in
      let q : ((limits && scratches) ≡ true) × (lengths ≡ true) = and_parts (limits && scratches) lengths p.0 in
      let r : (limits ≡ true) × (scratches ≡ true) = and_parts limits scratches q.0 in
      let same : g.generations ≡ h.generations = generations_too.0 (and_from lengths items q.1 p.1) in
      let limit : g.limit ≡ h.limit = (Decides-eqb g.limit h.limit).0 r.0 in
      let scratch : g.scratch ≡ h.scratch = (booleans_Decides g.scratch h.scratch).0 r.1 in
      λ i. record { limit = limit i; scratch = scratch i; generations = same i }

  group_told : g ≡ h → same_group g h ≡ true
  group_told e =
      let p : (lengths ≡ true) × (items ≡ true) = and_parts lengths items (generations_too.1 (ap (λ (x : GroupState). x.generations) e)) in
      let limit : limits ≡ true = (Decides-eqb g.limit h.limit).1 (ap (λ (x : GroupState). x.limit) e) in
      let scratch : scratches ≡ true = (booleans_Decides g.scratch h.scratch).1 (ap (λ (x : GroupState). x.scratch) e) in
      and_from (limits && scratches && lengths) items (and_from (limits && scratches) lengths (and_from limits scratches limit scratch) p.0) p.1

  groups_decide : Decides (same_group g h) (g ≡ h)
  groups_decide = (one_group, group_told)

-- what is seen of an entry, where its name and its base are held or not
abbrev seen_by : Bool → Bool → Option CatEntry → Option CatEntry
seen_by whole base None = None
seen_by whole base (Some (Volume serial)) = cond base (Some (Volume serial)) None
seen_by whole base (Some (Group g)) = cond whole (Some (Group g)) (cond base (Some some_group) None)

seen_by_names : (names : List HeldName) (name : List ℕ) (x : Option CatEntry) →
    seen_entry names name x ≡ seen_by (is_among names name) (is_among names (base_of name)) x
seen_by_names names name None = refl
seen_by_names names name (Some (Volume serial)) = refl
seen_by_names names name (Some (Group g)) = refl

entries_decide : (whole base : Bool) (x y : Option CatEntry) → Decides (same_seen whole base x y) (seen_by whole base x ≡ seen_by whole base y)
entries_decide whole base None None = (λ h. refl, λ e. refl)
entries_decide whole true None (Some (Volume t)) = (λ h. absurd cc, λ e. absurd cc)
entries_decide whole false None (Some (Volume t)) = (λ h. refl, λ e. refl)
entries_decide true base None (Some (Group g)) = (λ h. absurd cc, λ e. absurd cc)
entries_decide false true None (Some (Group g)) = (λ h. absurd cc, λ e. absurd cc)
entries_decide false false None (Some (Group g)) = (λ h. refl, λ e. refl)
entries_decide whole true (Some (Volume s)) None = (λ h. absurd cc, λ e. absurd cc)
entries_decide whole false (Some (Volume s)) None = (λ h. refl, λ e. refl)
entries_decide whole true (Some (Volume s)) (Some (Volume t)) =
    Decides-like (bytes_eq s t) (λ (e : s ≡ t) i. Some (Volume (e i))) (λ (e : Some (Volume s) ≡ Some (Volume t)). cc) (bytes_eq-Decides s t)
entries_decide whole false (Some (Volume s)) (Some (Volume t)) = (λ h. refl, λ e. refl)
entries_decide true true (Some (Volume s)) (Some (Group g)) = (λ h. absurd cc, λ e. absurd cc)
entries_decide true false (Some (Volume s)) (Some (Group g)) = (λ h. absurd cc, λ e. absurd cc)
entries_decide false true (Some (Volume s)) (Some (Group g)) = (λ h. absurd cc, λ e. absurd cc)
entries_decide false false (Some (Volume s)) (Some (Group g)) = (λ h. refl, λ e. refl)
entries_decide true base (Some (Group g)) None = (λ h. absurd cc, λ e. absurd cc)
entries_decide false true (Some (Group g)) None = (λ h. absurd cc, λ e. absurd cc)
entries_decide false false (Some (Group g)) None = (λ h. refl, λ e. refl)
entries_decide true true (Some (Group g)) (Some (Volume t)) = (λ h. absurd cc, λ e. absurd cc)
entries_decide true false (Some (Group g)) (Some (Volume t)) = (λ h. absurd cc, λ e. absurd cc)
entries_decide false true (Some (Group g)) (Some (Volume t)) = (λ h. absurd cc, λ e. absurd cc)
entries_decide false false (Some (Group g)) (Some (Volume t)) = (λ h. refl, λ e. refl)
entries_decide true base (Some (Group g)) (Some (Group k)) =
    Decides-like (same_group g k) (λ (e : g ≡ k) i. Some (Group (e i))) (λ (e : Some (Group g) ≡ Some (Group k)). cc) (groups_decide g k)
entries_decide false base (Some (Group g)) (Some (Group k)) = (λ h. refl, λ e. refl)

entry_turn : (P : List ℕ → Bool) (x : SoloEntry) (xs : List SoloEntry) (name : List ℕ) → P x.name ≡ true →
    (entry_in xs name ≡ None) ⊎ (P name ≡ true) → (b : Bool) → bytes_eq name x.name ≡ b →
    (cond b (Some x.entry) (entry_in xs name) ≡ None) ⊎ (P name ≡ true)
entry_turn P x xs name h rest true e = inr (ap P (same_bytes name x.name e) ∙ h)
entry_turn P x xs name h rest false e = rest

listed_entry : (P : List ℕ → Bool) (xs : List SoloEntry) → list_all (λ x. P x.name) xs ≡ true → (name : List ℕ) →
    (entry_in xs name ≡ None) ⊎ (P name ≡ true)
listed_entry P [] h name = inl refl
listed_entry P (x ∷ xs) h name =
    let p : (P x.name ≡ true) × (list_all (λ (y : SoloEntry). P y.name) xs ≡ true) =
    and_parts (P x.name) (list_all (λ (y : SoloEntry). P y.name) xs) h in
    entry_turn P x xs name p.0 (listed_entry P xs p.1 name) (bytes_eq name x.name) refl

module _ (names : List HeldName) (a b : SoloStore) where
  abbrev seen_in : SoloStore → List ℕ → Option CatEntry
  seen_in s name = seen_entry names name (entry_in s.catalog name)

  entry_at : (name : List ℕ) → Decides (entry_alike names a b name) (seen_in a name ≡ seen_in b name)
  entry_at name =
      let x : seen_in a name ≡ seen_by (is_among names name) (is_among names (base_of name)) (entry_in a.catalog name) =
      seen_by_names names name (entry_in a.catalog name) in
      let y : seen_in b name ≡ seen_by (is_among names name) (is_among names (base_of name)) (entry_in b.catalog name) =
      seen_by_names names name (entry_in b.catalog name) in
      let d : Decides (entry_alike names a b name) (seen_by (is_among names name) (is_among names (base_of name)) (entry_in a.catalog name)
      ≡ seen_by (is_among names name) (is_among names (base_of name)) (entry_in b.catalog name)) =
      entries_decide (is_among names name) (is_among names (base_of name)) (entry_in a.catalog name) (entry_in b.catalog name) in
      (λ h. x ∙ (d.0 h ∙ sym y), λ e. d.1 (sym x ∙ (e ∙ y)))

  entries_same : entries_alike names a b a.catalog ≡ true → entries_alike names a b b.catalog ≡ true → (name : List ℕ) → seen_in a name ≡ seen_in b name
  entries_same h g name =
      elim (listed_entry (entry_alike names a b) a.catalog h name) [
        | inl none ↦ elim (listed_entry (entry_alike names a b) b.catalog g name) [
          | inl too ↦ ap (seen_entry names name) (none ∙ sym too)
          | inr alike ↦ (entry_at name).0 alike
        ]
        | inr alike ↦ (entry_at name).0 alike
      ]

  entries_told : ((name : List ℕ) → seen_in a name ≡ seen_in b name) → (entries : List SoloEntry) → entries_alike names a b entries ≡ true
  entries_told e entries = all_from_each (λ (x : SoloEntry). entry_alike names a b x.name) entries (λ x. (entry_at x.name).1 (e x.name))

-- passed sets
module _ (a b : Passed) where
  abbrev two : Bool
  two = same_key a.key b.key && bytes_eq a.serial b.serial

  abbrev three : Bool
  three = two && beq a.made b.made

  abbrev four : Bool
  four = three && beq a.by_catalog b.by_catalog

  abbrev five : Bool
  five = four && (a.step == b.step)

  abbrev six : Bool
  six = five && (a.dd == b.dd)

  one_passed : same_passed a b ≡ true → a ≡ b
  one_passed h =
      let p : (six ≡ true) × (beq a.abend_later b.abend_later ≡ true) = and_parts six (beq a.abend_later b.abend_later) h in
      let q : (five ≡ true) × ((a.dd == b.dd) ≡ true) = and_parts five (a.dd == b.dd) p.0 in
      let r : (four ≡ true) × ((a.step == b.step) ≡ true) = and_parts four (a.step == b.step) q.0 in
      let s : (three ≡ true) × (beq a.by_catalog b.by_catalog ≡ true) = and_parts three (beq a.by_catalog b.by_catalog) r.0 in
      let t : (two ≡ true) × (beq a.made b.made ≡ true) = and_parts two (beq a.made b.made) s.0 in
      let u : (same_key a.key b.key ≡ true) × (bytes_eq a.serial b.serial ≡ true) = and_parts (same_key a.key b.key) (bytes_eq a.serial b.serial) t.0 in
      let key : a.key ≡ b.key = keys a.key b.key u.0 in
      let serial : a.serial ≡ b.serial = same_bytes a.serial b.serial u.1 in
      let made : a.made ≡ b.made = (booleans_Decides a.made b.made).0 t.1 in
      let by_catalog : a.by_catalog ≡ b.by_catalog = (booleans_Decides a.by_catalog b.by_catalog).0 s.1 in
      let step : a.step ≡ b.step = (Decides-eqb a.step b.step).0 r.1 in
      let dd : a.dd ≡ b.dd = (Decides-eqb a.dd b.dd).0 q.1 in
      let later : a.abend_later ≡ b.abend_later = (booleans_Decides a.abend_later b.abend_later).0 p.1 in
      λ i. record {
        key = key i;
        serial = serial i;
        made = made i;
        by_catalog = by_catalog i;
        step = step i;
        dd = dd i;
        abend_later = later i;
      }

passed_itself : (a : Passed) → same_passed a a ≡ true
passed_itself a =
    and_from (six a a) (beq a.abend_later a.abend_later)
    (and_from (five a a) (a.dd == a.dd)
    (and_from (four a a) (a.step == a.step)
    (and_from (three a a) (beq a.by_catalog a.by_catalog)
    (and_from (two a a) (beq a.made a.made)
    (and_from (same_key a.key a.key) (bytes_eq a.serial a.serial) (key_itself a.key) (bytes_itself a.serial))
    (same_truth a.made)) (same_truth a.by_catalog)) (number_itself a.step)) (number_itself a.dd)) (same_truth a.abend_later)
  where
    same_truth : (x : Bool) → beq x x ≡ true
    same_truth x = (booleans_Decides x x).1 refl

passed_decide : (a b : Passed) → Decides (same_passed a b) (a ≡ b)
passed_decide a b = (one_passed a b, λ e. subst (λ (p : Passed). same_passed a p ≡ true) e (passed_itself a))

all_passed_decide : (a b : List Passed) → Decides (all_same_passed a b) (a ≡ b)
all_passed_decide = lists_decide same_passed passed_decide

-- volumes
serials_decide : (x y : Option (List ℕ)) → Decides (same_serial x y) (x ≡ y)
serials_decide None None = (λ h. refl, λ e. refl)
serials_decide None (Some y) = (λ h. absurd cc, λ e. absurd cc)
serials_decide (Some x) None = (λ h. absurd cc, λ e. absurd cc)
serials_decide (Some x) (Some y) = Decides-like (bytes_eq x y) (λ (e : x ≡ y). ap Some e) (λ (e : Some x ≡ Some y). cc) (bytes_eq-Decides x y)

module _ (a b : List DdVolume) where
  abbrev OneVolume : ℕ → ℕ → Type 0
  OneVolume step dd = dd_volume a step dd ≡ dd_volume b step dd

  abbrev Agree : (ℕ → ℕ → Bool) → Type 0
  Agree asked = (step dd : ℕ) → asked step dd ≡ true → OneVolume step dd

  plan_same : (p : VolumePlan) → same_by_plan a b p ≡ true → Agree (refers p)
  plan_same NotCoded h step dd r = absurd cc
  plan_same (Serial serial) h step dd r = absurd cc
  plan_same (OfName name) h step dd r = absurd cc
  plan_same (OfDd s d) h step dd r =
      let p : ((s == step) ≡ true) × ((d == dd) ≡ true) = and_parts (s == step) (d == dd) r in
      let one : OneVolume s d = (serials_decide (dd_volume a s d) (dd_volume b s d)).0 h in
      subst (λ (n : ℕ). OneVolume step n) ((Decides-eqb d dd).0 p.1) (subst (λ (n : ℕ). OneVolume n d) ((Decides-eqb s step).0 p.0) one)

  plan_told : (p : VolumePlan) → Agree (refers p) → same_by_plan a b p ≡ true
  plan_told NotCoded h = refl
  plan_told (Serial serial) h = refl
  plan_told (OfName name) h = refl
  plan_told (OfDd s d) h =
      (serials_decide (dd_volume a s d) (dd_volume b s d)).1 (h s d (and_from (s == s) (d == d) (number_itself s) (number_itself d)))

  kind_same : (k : DdKind) → same_for_kind a b k ≡ true → Agree (kind_refers k)
  kind_same (Sysout class) h step dd r = absurd cc
  kind_same Dummy h step dd r = absurd cc
  kind_same (Cards cards) h step dd r = absurd cc
  kind_same (Set p) h step dd r = plan_same p.volume h step dd r

  kind_told : (k : DdKind) → Agree (kind_refers k) → same_for_kind a b k ≡ true
  kind_told (Sysout class) h = refl
  kind_told Dummy h = refl
  kind_told (Cards cards) h = refl
  kind_told (Set p) h = plan_told p.volume h

  -- of a list what is asked is asked by an item
  module _ {X : Type 0} (test : X → Bool) (asks : X → ℕ → ℕ → Bool) where
    item_turn : (step dd : ℕ) (rest : Bool) → (rest ≡ true → OneVolume step dd) → (c : Bool) → (c ≡ true → OneVolume step dd) → (c || rest) ≡ true →
        OneVolume step dd
    item_turn step dd rest more true one r = one refl
    item_turn step dd rest more false one r = more r

    list_same : ((x : X) → test x ≡ true → Agree (asks x)) → (xs : List X) → list_all test xs ≡ true →
        Agree (λ step dd. list_any (λ (x : X). asks x step dd) xs)
    list_same each [] h step dd r = absurd cc
    list_same each (x ∷ xs) h step dd r =
        let p : (test x ≡ true) × (list_all test xs ≡ true) = and_parts (test x) (list_all test xs) h in
        item_turn step dd (list_any (λ (y : X). asks y step dd) xs) (list_same each xs p.1 step dd) (asks x step dd) (each x p.0 step dd) r

    list_told : ((x : X) → Agree (asks x) → test x ≡ true) → (xs : List X) →
        Agree (λ step dd. list_any (λ (x : X). asks x step dd) xs) → list_all test xs ≡ true
    list_told each [] h = refl
    list_told each (x ∷ xs) h =
        and_from (test x) (list_all test xs) (each x (λ step dd e. h step dd (or_left (asks x step dd) (list_any (λ (y : X). asks y step dd) xs) e)))
        (list_told each xs (λ step dd e. h step dd (or_right (asks x step dd) (list_any (λ (y : X). asks y step dd) xs) e)))

  abbrev dd_test : DdPlan → Bool
  dd_test d = same_for_kind a b d.kind

  abbrev dd_asks : DdPlan → ℕ → ℕ → Bool
  dd_asks d step dd = kind_refers d.kind step dd

  abbrev step_test : StepPlan → Bool
  step_test s = list_all dd_test s.dds

  abbrev step_asks : StepPlan → ℕ → ℕ → Bool
  step_asks s step dd = list_any (λ (d : DdPlan). dd_asks d step dd) s.dds

  volumes_same : (later : List StepPlan) → same_volumes a b later ≡ true → Agree (steps_refer later)
  volumes_same later h =
      list_same step_test step_asks (λ s g. list_same dd_test dd_asks (λ d k. kind_same d.kind k) s.dds g) later h

  volumes_told : (later : List StepPlan) → Agree (steps_refer later) → same_volumes a b later ≡ true
  volumes_told later h =
      list_told step_test step_asks (λ s g. list_told dd_test dd_asks (λ d k. kind_told d.kind k) s.dds g) later h

volume_shown : (asked : Bool) (x y : Option (List ℕ)) → (asked ≡ true → x ≡ y) → cond asked x None ≡ cond asked y None
volume_shown true x y e = e refl
volume_shown false x y e = refl

volume_told : (asked : Bool) (x y : Option (List ℕ)) → asked ≡ true → cond asked x None ≡ cond asked y None → x ≡ y
volume_told true x y r e = e
volume_told false x y r e = absurd cc

-- tests
bits_decide : (a b : List Bool) → Decides (same_bits a b) (a ≡ b)
bits_decide a b = slice_eq-Decides booleans_Decides a b (same_bits a b) refl

steps_same : (later : List StepPlan) (a b : List Bool) → same_by_step later a b ≡ true → by_step later a ≡ by_step later b
steps_same [] a b h = refl
steps_same (s ∷ later) a b h =
    let p : (same_bits (take (length s.tests.items) a) (take (length s.tests.items) b) ≡ true)
    × (same_by_step later (drop (length s.tests.items) a) (drop (length s.tests.items) b) ≡ true) =
    and_parts (same_bits (take (length s.tests.items) a) (take (length s.tests.items) b))
    (same_by_step later (drop (length s.tests.items) a) (drop (length s.tests.items) b)) h in
    let rest : by_step later (drop (length s.tests.items) a) ≡ by_step later (drop (length s.tests.items) b) =
    steps_same later (drop (length s.tests.items) a) (drop (length s.tests.items) b) p.1 in
    λ i. (bits_decide (take (length s.tests.items) a) (take (length s.tests.items) b)).0 p.0 i ∷ rest i

steps_told : (later : List StepPlan) (a b : List Bool) → by_step later a ≡ by_step later b → same_by_step later a b ≡ true
steps_told [] a b e = refl
steps_told (s ∷ later) a b e =
    let own : take (length s.tests.items) a ≡ take (length s.tests.items) b = cc in
    let rest : by_step later (drop (length s.tests.items) a) ≡ by_step later (drop (length s.tests.items) b) = cc in
    and_from (same_bits (take (length s.tests.items) a) (take (length s.tests.items) b))
    (same_by_step later (drop (length s.tests.items) a) (drop (length s.tests.items) b))
    ((bits_decide (take (length s.tests.items) a) (take (length s.tests.items) b)).1 own)
    (steps_told later (drop (length s.tests.items) a) (drop (length s.tests.items) b) rest)

-- the whole
module _ (names : List HeldName) (date tests : ℕ) (later : List StepPlan) (a b : PlainView) where
  abbrev A : Scene
  A = a.scene.value

  abbrev B : Scene
  B = b.scene.value

  abbrev first_sets : Bool
  first_sets = sets_alike names date A.store B.store A.store.sets

  abbrev other_sets : Bool
  other_sets = sets_alike names date A.store B.store B.store.sets

  abbrev first_entries : Bool
  first_entries = entries_alike names A.store B.store A.store.catalog

  abbrev other_entries : Bool
  other_entries = entries_alike names A.store B.store B.store.catalog

  abbrev passed_alike : Bool
  passed_alike = all_same_passed A.passed B.passed

  abbrev volumes_alike : Bool
  volumes_alike = same_volumes A.volumes B.volumes later

  abbrev Shown : Type 0
  Shown = shown_under names date tests later a ≡ shown_under names date tests later b

  record Alike : Type 0 where
    abended : beq a.abended b.abended ≡ true
    job : same_bits (take tests a.met.items) (take tests b.met.items) ≡ true
    steps : same_by_step later (drop tests a.met.items) (drop tests b.met.items) ≡ true
    passed : passed_alike ≡ true
    volumes : volumes_alike ≡ true
    sets : first_sets ≡ true
    sets_too : other_sets ≡ true
    entries : first_entries ≡ true
    entries_too : other_entries ≡ true

  shown_from : Alike → Shown
  shown_from h = λ i. record {
    sets = λ key serial. sets_same names date A.store B.store h.sets h.sets_too key serial i;
    catalog = λ name. entries_same names A.store B.store h.entries h.entries_too name i;
    passed = (all_passed_decide A.passed B.passed).0 h.passed i;
    volumes = λ step dd. volume_shown (steps_refer later step dd) (dd_volume A.volumes step dd) (dd_volume B.volumes step dd)
        (volumes_same A.volumes B.volumes later h.volumes step dd) i;
    abended = (booleans_Decides a.abended b.abended).0 h.abended i;
    job_tests = (bits_decide (take tests a.met.items) (take tests b.met.items)).0 h.job i;
    step_tests = steps_same later (drop tests a.met.items) (drop tests b.met.items) h.steps i;
  }

  alike_from : Shown → Alike
  alike_from e =
      let sets_at : (key : Key) (serial : List ℕ) →
      shown_in names date A.store B.store A.store key serial ≡ shown_in names date A.store B.store B.store key serial =
      λ key serial. ap (λ (v : View). v.sets key serial) e in
      let entries_at : (name : List ℕ) → seen_in names A.store B.store A.store name ≡ seen_in names A.store B.store B.store name =
      λ name. ap (λ (v : View). v.catalog name) e in
      record {
        abended = (booleans_Decides a.abended b.abended).1 (ap (λ (v : View). v.abended) e);
        job = (bits_decide (take tests a.met.items) (take tests b.met.items)).1 (ap (λ (v : View). v.job_tests) e);
        steps = steps_told later (drop tests a.met.items) (drop tests b.met.items) (ap (λ (v : View). v.step_tests) e);
        passed = (all_passed_decide A.passed B.passed).1 (ap (λ (v : View). v.passed) e);
        volumes = volumes_told A.volumes B.volumes later (λ step dd r. volume_told (steps_refer later step dd) (dd_volume A.volumes step dd)
            (dd_volume B.volumes step dd) r (ap (λ (v : View). v.volumes step dd) e));
        sets = sets_told names date A.store B.store sets_at A.store.sets;
        sets_too = sets_told names date A.store B.store sets_at B.store.sets;
        entries = entries_told names A.store B.store entries_at A.store.catalog;
        entries_too = entries_told names A.store B.store entries_at B.store.catalog;
      }

  -- tests joined by `and`
  six_of : (p q r s t u : Bool) → (p && q && r && s && t && u) ≡ true → (((((p ≡ true) × (q ≡ true)) × (r ≡ true)) × (s ≡ true)) × (t ≡ true)) × (u ≡ true)
  six_of p q r s t u h =
      let five : ((p && q && r && s && t) ≡ true) × (u ≡ true) = and_parts (p && q && r && s && t) u h in
      let four : ((p && q && r && s) ≡ true) × (t ≡ true) = and_parts (p && q && r && s) t five.0 in
      let three : ((p && q && r) ≡ true) × (s ≡ true) = and_parts (p && q && r) s four.0 in
      let two : ((p && q) ≡ true) × (r ≡ true) = and_parts (p && q) r three.0 in
      (((((and_parts p q two.0), two.1), three.1), four.1), five.1)

  three_of : (p q r s : Bool) → (p && (q && r) && s) ≡ true → (((p ≡ true) × ((q ≡ true) × (r ≡ true))) × (s ≡ true))
  three_of p q r s h =
      let two : ((p && (q && r)) ≡ true) × (s ≡ true) = and_parts (p && (q && r)) s h in
      let one : (p ≡ true) × ((q && r) ≡ true) = and_parts p (q && r) two.0 in
      ((one.0, and_parts q r one.1), two.1)

  abbrev job_met : Bool
  job_met = same_bits (take tests a.met.items) (take tests b.met.items)

  abbrev steps_met : Bool
  steps_met = same_by_step later (drop tests a.met.items) (drop tests b.met.items)

  pub views_decide : Decides (same_view names date tests later a b) Shown
  views_decide = (λ h. shown_from (parts h), λ e. whole (alike_from e))
    where
      parts : same_view names date tests later a b ≡ true → Alike
      parts h =
          let x : ((beq a.abended b.abended ≡ true) × ((job_met ≡ true) × (steps_met ≡ true))) × (same_scene names date later A B ≡ true) =
          three_of (beq a.abended b.abended) job_met steps_met (same_scene names date later A B) h in
          let y : (((((passed_alike ≡ true) × (volumes_alike ≡ true))
          × (first_sets ≡ true)) × (other_sets ≡ true)) × (first_entries ≡ true)) × (other_entries ≡ true) =
          six_of passed_alike volumes_alike first_sets other_sets first_entries other_entries x.1 in
          record {
            abended = x.0.0;
            job = x.0.1.0;
            steps = x.0.1.1;
            passed = y.0.0.0.0.0;
            volumes = y.0.0.0.0.1;
            sets = y.0.0.0.1;
            sets_too = y.0.0.1;
            entries = y.0.1;
            entries_too = y.1;
          }

      whole : Alike → same_view names date tests later a b ≡ true
      whole h =
          and_from (beq a.abended b.abended && (job_met && steps_met)) (same_scene names date later A B)
          (and_from (beq a.abended b.abended) (job_met && steps_met) h.abended (and_from job_met steps_met h.job h.steps))
          (and_from (passed_alike && volumes_alike && first_sets && other_sets && first_entries) other_entries
          (and_from (passed_alike && volumes_alike && first_sets && other_sets) first_entries
          (and_from (passed_alike && volumes_alike && first_sets) other_sets
          (and_from (passed_alike && volumes_alike) first_sets
          (and_from passed_alike volumes_alike h.passed h.volumes) h.sets) h.sets_too) h.entries) h.entries_too)

-- scenes by themselves
module _ (names : List HeldName) (date : ℕ) (later : List StepPlan) (A B : Scene) where
  abbrev SceneShown : Type 0
  SceneShown = shown_alone names date later A ≡ shown_alone names date later B

  pub scenes_decide : Decides (same_scene names date later A B) SceneShown
  scenes_decide = (λ h. shown (six h), λ e. whole e)
    where
      six : same_scene names date later A B ≡ true → (((((all_same_passed A.passed B.passed ≡ true) × (same_volumes A.volumes B.volumes later ≡ true))
          × (sets_alike names date A.store B.store A.store.sets ≡ true)) × (sets_alike names date A.store B.store B.store.sets ≡ true))
          × (entries_alike names A.store B.store A.store.catalog ≡ true)) × (entries_alike names A.store B.store B.store.catalog ≡ true)
      six h =
          let five : ((all_same_passed A.passed B.passed && same_volumes A.volumes B.volumes later && sets_alike names date A.store B.store A.store.sets
          && sets_alike names date A.store B.store B.store.sets && entries_alike names A.store B.store A.store.catalog) ≡ true)
          × (entries_alike names A.store B.store B.store.catalog ≡ true) = and_parts (all_same_passed A.passed B.passed && same_volumes A.volumes B.volumes later
          && sets_alike names date A.store B.store A.store.sets && sets_alike names date A.store B.store B.store.sets
          && entries_alike names A.store B.store A.store.catalog) (entries_alike names A.store B.store B.store.catalog) h in
          let four : ((all_same_passed A.passed B.passed && same_volumes A.volumes B.volumes later && sets_alike names date A.store B.store A.store.sets
          && sets_alike names date A.store B.store B.store.sets) ≡ true) × (entries_alike names A.store B.store A.store.catalog ≡ true) =
          and_parts (all_same_passed A.passed B.passed && same_volumes A.volumes B.volumes later && sets_alike names date A.store B.store A.store.sets
          && sets_alike names date A.store B.store B.store.sets) (entries_alike names A.store B.store A.store.catalog) five.0 in
          let three : ((all_same_passed A.passed B.passed && same_volumes A.volumes B.volumes later && sets_alike names date A.store B.store A.store.sets) ≡ true)
          × (sets_alike names date A.store B.store B.store.sets ≡ true) = and_parts (all_same_passed A.passed B.passed && same_volumes A.volumes B.volumes later
          && sets_alike names date A.store B.store A.store.sets) (sets_alike names date A.store B.store B.store.sets) four.0 in
          let two : ((all_same_passed A.passed B.passed && same_volumes A.volumes B.volumes later) ≡ true)
          × (sets_alike names date A.store B.store A.store.sets ≡ true) = and_parts (all_same_passed A.passed B.passed && same_volumes A.volumes B.volumes later)
          (sets_alike names date A.store B.store A.store.sets) three.0 in
          (((((and_parts (all_same_passed A.passed B.passed) (same_volumes A.volumes B.volumes later) two.0), two.1), three.1), four.1), five.1)

      shown : (((((all_same_passed A.passed B.passed ≡ true) × (same_volumes A.volumes B.volumes later ≡ true))
          × (sets_alike names date A.store B.store A.store.sets ≡ true)) × (sets_alike names date A.store B.store B.store.sets ≡ true))
          × (entries_alike names A.store B.store A.store.catalog ≡ true)) × (entries_alike names A.store B.store B.store.catalog ≡ true) → SceneShown
      shown h = λ i. record {
        sets = λ key serial. sets_same names date A.store B.store h.0.0.0.1 h.0.0.1 key serial i;
        catalog = λ name. entries_same names A.store B.store h.0.1 h.1 name i;
        passed = (all_passed_decide A.passed B.passed).0 h.0.0.0.0.0 i;
        volumes = λ step dd. volume_shown (steps_refer later step dd) (dd_volume A.volumes step dd) (dd_volume B.volumes step dd)
            (volumes_same A.volumes B.volumes later h.0.0.0.0.1 step dd) i;
        abended = false;
        job_tests = [];
        step_tests = [];
      }

      whole : SceneShown → same_scene names date later A B ≡ true
      whole e =
          let sets_at : (key : Key) (serial : List ℕ) →
          shown_in names date A.store B.store A.store key serial ≡ shown_in names date A.store B.store B.store key serial =
          λ key serial. ap (λ (v : View). v.sets key serial) e in
          let entries_at : (name : List ℕ) → seen_in names A.store B.store A.store name ≡ seen_in names A.store B.store B.store name =
          λ name. ap (λ (v : View). v.catalog name) e in
          and_from (all_same_passed A.passed B.passed && same_volumes A.volumes B.volumes later && sets_alike names date A.store B.store A.store.sets
          && sets_alike names date A.store B.store B.store.sets && entries_alike names A.store B.store A.store.catalog)
          (entries_alike names A.store B.store B.store.catalog)
          (and_from (all_same_passed A.passed B.passed && same_volumes A.volumes B.volumes later && sets_alike names date A.store B.store A.store.sets
          && sets_alike names date A.store B.store B.store.sets) (entries_alike names A.store B.store A.store.catalog)
          (and_from (all_same_passed A.passed B.passed && same_volumes A.volumes B.volumes later && sets_alike names date A.store B.store A.store.sets)
          (sets_alike names date A.store B.store B.store.sets)
          (and_from (all_same_passed A.passed B.passed && same_volumes A.volumes B.volumes later) (sets_alike names date A.store B.store A.store.sets)
          (and_from (all_same_passed A.passed B.passed) (same_volumes A.volumes B.volumes later)
          ((all_passed_decide A.passed B.passed).1 (ap (λ (v : View). v.passed) e))
          (volumes_told A.volumes B.volumes later (λ step dd r. volume_told (steps_refer later step dd) (dd_volume A.volumes step dd)
          (dd_volume B.volumes step dd) r (ap (λ (v : View). v.volumes step dd) e))))
          (sets_told names date A.store B.store sets_at A.store.sets))
          (sets_told names date A.store B.store sets_at B.store.sets))
          (entries_told names A.store B.store entries_at A.store.catalog))
          (entries_told names A.store B.store entries_at B.store.catalog)

-- among several
module _ (names : List HeldName) (date tests : ℕ) (later : List StepPlan) (view : PlainView) where
  abbrev shown : PlainView → View
  shown = shown_under names date tests later

  abbrev test : PlainView → Bool
  test other = same_view names date tests later other view

  found_turn : (other : PlainView) (views : List PlainView) → (list_any test views ≡ true → Contains (map shown views) (shown view)) → (b : Bool) →
      test other ≡ b → (b || list_any test views) ≡ true → Contains (map shown (other ∷ views)) (shown view)
  found_turn other views more true e q = (0, omega arith, (views_decide names date tests later other view).0 e)
  found_turn other views more false e q = let rest : Contains (map shown views) (shown view) = more q in (suc rest.0, omega arith, rest.2)

  found : (views : List PlainView) → list_any test views ≡ true → Contains (map shown views) (shown view)
  found [] h = absurd cc
  found (other ∷ views) h = found_turn other views (found views) (test other) refl h

  finds_turn : (other : PlainView) (views : List PlainView) → (Contains (map shown views) (shown view) → list_any test views ≡ true) →
      (k : ℕ) → k < length (map shown (other ∷ views)) → slice_index_or (map shown (other ∷ views)) k (shown view) ≡ shown view →
      list_any test (other ∷ views) ≡ true
  finds_turn other views more zero l e = or_left (test other) (list_any test views) ((views_decide names date tests later other view).1 e)
  finds_turn other views more (suc k) l e = or_right (test other) (list_any test views) (more (k, omega arith, e))

  finds : (views : List PlainView) → Contains (map shown views) (shown view) → list_any test views ≡ true
  finds [] c = absurd (omega arith)
  finds (other ∷ views) c = finds_turn other views (finds views) c.0 c.1 c.2

  pub among_decide : (views : List PlainView) → Decides (list_any test views) (Contains (map shown views) (shown view))
  among_decide views = (found views, finds views)

-- and put among them
module _ (shown : PlainView → View) (old : List PlainView) (view : PlainView) (stood : Bool)
    (tells : Decides stood (Contains (map shown old) (shown view))) where
  pub put_stood : stood ≡ true → IsPut (map shown old) (shown view) true (map shown old)
  put_stood e = Stood (tells.0 e)

  pub put_new : (new : List PlainView) → stood ≡ false → new ≡ old ++ view ∷ [] → IsPut (map shown old) (shown view) false (map shown new)
  put_new new e there =
      subst (λ (views : List View). IsPut (map shown old) (shown view) false views) (sym (ap (map shown) there ∙ map-append shown old (view ∷ [])))
      (New (not_from_Decides stood tells e))

-- a turn over the steps
pub ends_false : (rest : List StepPlan) (s : StepPlan) (tail : List StepPlan) (a b : List Bool) → rest ≡ s ∷ tail →
    same_bits (take (length s.tests.items) a) (take (length s.tests.items) b) ≡ false → same_by_step rest a b ≡ false
ends_false rest s tail a b e h =
    ap (λ (steps : List StepPlan). same_by_step steps a b) e
    ∙ ap (λ (c : Bool). c && same_by_step tail (drop (length s.tests.items) a) (drop (length s.tests.items) b)) h

pub goes_on : (rest : List StepPlan) (s : StepPlan) (tail : List StepPlan) (a b : List Bool) → rest ≡ s ∷ tail →
    same_bits (take (length s.tests.items) a) (take (length s.tests.items) b) ≡ true →
    same_by_step rest a b ≡ same_by_step tail (drop (length s.tests.items) a) (drop (length s.tests.items) b)
goes_on rest s tail a b e h =
    ap (λ (steps : List StepPlan). same_by_step steps a b) e
    ∙ ap (λ (c : Bool). c && same_by_step tail (drop (length s.tests.items) a) (drop (length s.tests.items) b)) h

-- what is shown by a plan is what is shown under its names, before its later steps
module _ (plan : JobPlan) (date k : ℕ) (b : Bool) (view : PlainView) where
  abbrev TellsOf : List HeldName → ℕ → List StepPlan → List PlainView → Type 0
  TellsOf names tests later views =
      Decides b (Contains (map (shown_under names date tests later) views) (shown_under names date tests later view))

  pub told_by_plan : (names : List HeldName) (tests : ℕ) (later : List StepPlan) (views old : List PlainView) → names ≡ names_of plan →
      tests ≡ length plan.tests.items → later ≡ drop k plan.steps → views ≡ old → TellsOf names tests later views →
      Decides b (Contains (map (shown_by plan date k) old) (shown_by plan date k view))
  told_by_plan names tests later views old n t l v h =
      subst (λ (xs : List PlainView). TellsOf (names_of plan) (length plan.tests.items) (drop k plan.steps) xs) v
      (subst (λ (xs : List StepPlan). TellsOf (names_of plan) (length plan.tests.items) xs views) l
      (subst (λ (x : ℕ). TellsOf (names_of plan) x later views) t
      (subst (λ (xs : List HeldName). TellsOf xs tests later views) n h)))
