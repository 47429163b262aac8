-- The copies of the catalog's entries, and what is found among them.
use Rattle.std.proofs.Common.{◌≡◌, ◌⊎◌, inl, inr, ℕ, Bool, true, false, cond, ◌&&◌, ◌||◌, List, [], ◌∷◌, ◌++◌, Option, Some, None, IfSome, refl, ap, subst, sym, ◌∙◌}
use Rattle.std.specs.BTreeMap.Range.{range_contains}
use Rattle.std.specs.FinMap.{get}
use Rattle.std.specs.List.{cons_option}
use Rattle.std.specs.Option.{option_or}
use Rattle.std.specs.Str.{bytes_eq}
use Rattle.std.specs.declared.ops.Bound.TheVariants.{Excluded, Included, Unbounded}
use Rattle.std.proofs.lemmas.Bool.{and_parts, cond-false}
use Rattle.std.proofs.lemmas.Map.Text.{is_eq-slice_cmp}
use Rattle.jname_core.specs.Generations.{base_of, has_generation_form}
use Rattle.group_core.specs.declared.entry.CatEntry.{CatEntry}
use Rattle.group_core.specs.declared.entry.CatEntry.TheVariants.{Volume, Group}
use Rattle.jname_core.specs.Generations.{above_generations, below_generations}
use Rattle.cat_core.specs.Catalogs.{Contents, entry_among, entry_within, is_generation_of, name_cmp}
use Rattle.cat_core.proofs.Bounds.{behind_base, in_range}
use Rattle.jcl_meaning.specs.declared.names.HeldName.{HeldName}
use Rattle.jcl_meaning.specs.declared.store.SoloEntry.{SoloEntry}
use Rattle.jcl_meaning.specs.Parts.{is_among, seen_entry, some_group}
use Rattle.jcl_meaning.specs.Stores.{entry_in}
use Rattle.part_copy.specs.Copies.{AddsEntries, copies_of_entries, copies_of_entry, is_of_name, is_of_some}
use Rattle.part_copy.proofs.Adding.{join}
use Rattle.part_copy.proofs.Copied.{names_same, names_turned, or_by}
use Rattle.part_copy.proofs.Held.{as_it_stands, formed}

-- one list behind another
pub entries_behind : (xs ys : List SoloEntry) (n : List ℕ) → entry_in (xs ++ ys) n ≡ option_or (entry_in xs n) (entry_in ys n)
entries_behind [] ys n = refl
entries_behind (x ∷ xs) ys n =
    ap (cond (bytes_eq n x.name) (Some x.entry)) (entries_behind xs ys n) ∙ or_by (bytes_eq n x.name) x.entry (entry_in xs n) (entry_in ys n)

placed : (u : Bool) (copy : SoloEntry) (rest : List SoloEntry) (n : List ℕ) →
    entry_in (cons_option (cond u (Some copy) None) rest) n ≡ cond u (cond (bytes_eq n copy.name) (Some copy.entry) (entry_in rest n)) (entry_in rest n)
placed true copy rest n = refl
placed false copy rest n = refl

tested : {Y : Type 0} (t u here : Bool) (y x : Option Y) (d : Y) → (t ≡ true → here ≡ u) → y ≡ cond u x None → cond here (cond t (Some d) y) y ≡ cond u (cond t (Some d) x) None
tested true true true y x d h k = refl
tested true true false y x d h k = let e : false ≡ true = h refl in absurd cc
tested true false true y x d h k = let e : true ≡ false = h refl in absurd cc
tested true false false y x d h k = k
tested false u true y x d h k = k
tested false u false y x d h k = k

none_by : (b : Bool) → ◌≡◌ {A = Option CatEntry} None (cond b None None)
none_by true = refl
none_by false = refl

-- what is found among the copies of entries
pub copies_found : (held : List ℕ) (entries : List (List ℕ × CatEntry)) (n : List ℕ) →
    entry_in (copies_of_entries held entries) n ≡ cond (bytes_eq held (base_of n)) (entry_among entries n) None
copies_found held [] n = none_by (bytes_eq held (base_of n))
copies_found held (e ∷ entries) n =
    placed (bytes_eq held (base_of e.0)) (record { name = e.0; entry = e.1 }) (copies_of_entries held entries) n
    ∙ tested (bytes_eq n e.0) (bytes_eq held (base_of n)) (bytes_eq held (base_of e.0)) (entry_in (copies_of_entries held entries) n) (entry_among entries n) e.1
    (λ same. ap (λ (x : List ℕ). bytes_eq held (base_of x)) (sym (names_same n e.0 same))) (copies_found held entries n)
    ∙ ap (λ b. cond (bytes_eq held (base_of n)) (cond b (Some e.1) (entry_among entries n)) None) (sym (is_eq-slice_cmp n e.0))

-- each of these entries stands in a catalog, and those of a base's generations are among them
abbrev pub AreThere : List (List ℕ × CatEntry) → Contents → Type 0
AreThere entries all = (n : List ℕ) → IfSome (entry_among entries n) (λ e. get all n ≡ Some e)

abbrev pub HasGenerations : List ℕ → List (List ℕ × CatEntry) → Contents → Type 0
HasGenerations name entries all = (n : List ℕ) → is_generation_of name n ≡ true → entry_among entries n ≡ get all n

pub between_there : (name below above : List ℕ) (entries : List (List ℕ × CatEntry)) (all : Contents) →
    ((n : List ℕ) → entry_among entries n ≡ entry_within (Included below) (Excluded above) all n) →
    below ≡ below_generations name → above ≡ above_generations name → HasGenerations name entries all
between_there name below above entries all among low high n is =
    among n ∙ ap (λ b. cond b (get all n) None)
    (ap (λ (b : List ℕ). range_contains name_cmp (Included b) (Excluded above) n) low
    ∙ ap (λ (b : List ℕ). range_contains name_cmp (Included (below_generations name)) (Excluded b) n) high
    ∙ in_range name n is)

pub behind_there : (name : List ℕ) (entries : List (List ℕ × CatEntry)) (all : Contents) →
    ((n : List ℕ) → entry_among entries n ≡ entry_within (Included name) Unbounded all n) → HasGenerations name entries all
behind_there name entries all among n is = among n ∙ ap (λ b. cond b (get all n) None) (behind_base name n is)

abbrev is_generation_under : List ℕ → List ℕ → Bool
is_generation_under name n = bytes_eq name (base_of n) && has_generation_form n

-- the copies of the generations of a base
there_by : (b : Bool) (o g : Option CatEntry) → IfSome o (λ e. g ≡ Some e) → IfSome (cond b o None) (λ e. g ≡ Some e)
there_by true o g h = h
there_by false o g h = tt

generations_add : (name : List ℕ) (entries : List (List ℕ × CatEntry)) (all : Contents) (old : List SoloEntry) → AreThere entries all → HasGenerations name entries all →
    AddsEntries (λ n. get all n) (is_generation_under name) old (old ++ copies_of_entries name entries)
generations_add name entries all old there has = record {
  more = copies_of_entries name entries;
  behind = refl;
  copied = λ n. subst (λ (o : Option CatEntry). IfSome o (λ e. get all n ≡ Some e)) (sym (copies_found name entries n))
      (there_by (bytes_eq name (base_of n)) (entry_among entries n) (get all n) (there n));
  whole = λ n h.
      let p = and_parts (bytes_eq name (base_of n)) (has_generation_form n) h in
      let is : is_generation_of name n ≡ true =
      ap (λ b. b && bytes_eq (base_of n) name) (formed (has_generation_form n) _ p.1) ∙ names_turned (base_of n) name ∙ p.0 in
      copies_found name entries n ∙ ap (λ b. cond b (entry_among entries n) None) p.0 ∙ has n is;
}

-- the copy of a name's own entry
entry_found : (name : List ℕ) (g : Option CatEntry) (n : List ℕ) → entry_in (copies_of_entry name g) n ≡ cond (bytes_eq n name) g None
entry_found name None n = none_by (bytes_eq n name)
entry_found name (Some e) n = refl

named_by : (b : Bool) (g h : Option CatEntry) → (b ≡ true → h ≡ g) → IfSome (cond b g None) (λ e. h ≡ Some e)
named_by true g h same = as_it_stands g h (same refl)
named_by false g h same = tt

named_add : (name : List ℕ) (all : Contents) (old : List SoloEntry) → AddsEntries (λ n. get all n) (λ n. bytes_eq n name) old (old ++ copies_of_entry name (get all name))
named_add name all old = record {
  more = copies_of_entry name (get all name);
  behind = refl;
  copied = λ n. subst (λ (o : Option CatEntry). IfSome o (λ e. get all n ≡ Some e)) (sym (entry_found name (get all name) n))
      (named_by (bytes_eq n name) (get all name) (get all n) (λ h. ap (get all) (names_same n name h)));
  whole = λ n h. entry_found name (get all name) n ∙ ap (λ b. cond b (get all name) None) h ∙ ap (get all) (sym (names_same n name h));
}

own_by : (name n : List ℕ) (a b : Bool) → bytes_eq name n ≡ a → has_generation_form n ≡ b → (a || bytes_eq name (base_of n)) ≡ true →
    (bytes_eq n name ≡ true) ⊎ ((bytes_eq name (base_of n) && b) ≡ true)
own_by name n true b e f h = inl (names_turned n name ∙ e)
own_by name n false true e f h = inr (ap (λ c. c && true) h)
own_by name n false false e f h = inl (names_turned n name ∙ ap (bytes_eq name) (sym (cond-false (has_generation_form n) _ n f)) ∙ h)

-- the copies of the entries of a name
pub held_add : (name : List ℕ) (entries : List (List ℕ × CatEntry)) (all : Contents) (old between new : List SoloEntry) → AreThere entries all → HasGenerations name entries all →
    between ≡ old ++ copies_of_entry name (get all name) → new ≡ between ++ copies_of_entries name entries → AddsEntries (λ n. get all n) (is_of_name name) old new
held_add name entries all old between new there has first then =
    join entry_in (λ n. get all n) entries_behind (λ n. bytes_eq n name) (is_generation_under name) (is_of_name name) old between new
    (λ n. own_by name n (bytes_eq name n) (has_generation_form n) refl refl)
    (subst (λ (xs : List SoloEntry). AddsEntries (λ n. get all n) (λ n. bytes_eq n name) old xs) (sym first) (named_add name all old))
    (subst (λ (xs : List SoloEntry). AddsEntries (λ n. get all n) (is_generation_under name) between xs) (sym then) (generations_add name entries all between there has))

-- an entry of none of the names is not seen
unseen : (names : List HeldName) (n : List ℕ) (o : Option CatEntry) → is_among names n ≡ false → is_among names (base_of n) ≡ false → seen_entry names n o ≡ None
unseen names n None a b = refl
unseen names n (Some (Volume serial)) a b = ap (λ c. cond c (Some (Volume serial)) None) b
unseen names n (Some (Group g)) a b =
    ap (λ c. cond c (Some (Group g)) (cond (is_among names (base_of n)) (Some some_group) None)) a ∙ ap (λ c. cond c (Some some_group) None) b

both_false : (a b : Bool) → (a || b) ≡ false → (a ≡ false) × (b ≡ false)
both_false true b h = absurd cc
both_false false b h = (refl, h)

neither : (names : List HeldName) (n : List ℕ) → is_of_some names n ≡ false → (is_among names n ≡ false) × (is_among names (base_of n) ≡ false)
neither [] n h = (refl, refl)
neither (x ∷ names) n h =
    let p = both_false (is_of_name x.name n) (is_of_some names n) h in
    let q = both_false (bytes_eq x.name n) (bytes_eq x.name (base_of n)) p.0 in
    let r = neither names n p.1 in
    (ap (λ b. b || is_among names n) q.0 ∙ r.0, ap (λ b. b || is_among names (base_of n)) q.1 ∙ r.1)

seen_by : (names : List HeldName) (all : Contents) (entries : List SoloEntry) (n : List ℕ) (b : Bool) → is_of_some names n ≡ b →
    AddsEntries (λ n. get all n) (is_of_some names) [] entries → seen_entry names n (get all n) ≡ seen_entry names n (entry_in entries n)
seen_by names all entries n true e a = ap (seen_entry names n) (sym (ap (λ (xs : List SoloEntry). entry_in xs n) a.behind ∙ a.whole n e))
seen_by names all entries n false e a =
    let r = neither names n e in unseen names n (get all n) r.0 r.1 ∙ sym (unseen names n (entry_in entries n) r.0 r.1)

-- each entry is seen as it stands
pub all_seen : (names : List HeldName) (all : Contents) (entries : List SoloEntry) → AddsEntries (λ n. get all n) (is_of_some names) [] entries →
    (n : List ℕ) → seen_entry names n (get all n) ≡ seen_entry names n (entry_in entries n)
all_seen names all entries a n = seen_by names all entries n (is_of_some names n) refl a

pub all_copied : (names : List HeldName) (all : Contents) (entries : List SoloEntry) → AddsEntries (λ n. get all n) (is_of_some names) [] entries →
    (n : List ℕ) → IfSome (entry_in entries n) (λ e. get all n ≡ Some e)
all_copied names all entries a n =
    subst (λ (o : Option CatEntry). IfSome o (λ e. get all n ≡ Some e)) (sym (ap (λ (xs : List SoloEntry). entry_in xs n) a.behind)) (a.copied n)
