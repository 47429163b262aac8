-- What one job changes within its names, another that is compatible with it does not see.
use Rattle.std.proofs.Common.{◌≡◌, ◌&&◌, ◌||◌, ◌⊎◌, inl, inr, ℕ, Bool, true, false, cond, not, List, [], ◌∷◌, Option, Some, None, refl, sym, ap, ◌∙◌, subst, rules}
use Rattle.std.specs.Prelude.{is_some}
use Rattle.std.specs.List.{list_all, list_any}
use Rattle.std.specs.Str.{bytes_eq}
use Rattle.std.proofs.lemmas.Bool.{and_parts, both_ways, false_from_ne_true, not-true, or_cases, or_left, or_right}
use Rattle.std.proofs.lemmas.Slice.Eq.{bytes_eq-Decides}
use Rattle.jname_core.specs.Generations.{base_of}
use Rattle.jname_core.specs.declared.key.Key.TheVariants.{Named}
use Rattle.group_core.specs.declared.entry.CatEntry.{CatEntry}
use Rattle.group_core.specs.declared.entry.CatEntry.TheVariants.{Volume, Group}
use Rattle.group_core.specs.Entries.{group_in, volume_in}
use Rattle.group_core.specs.Groups.{GroupState}
use Rattle.jcl_meaning.specs.declared.names.HeldName.{HeldName}
use Rattle.jcl_meaning.specs.declared.store.DataSet.{DataSet}
use Rattle.jcl_meaning.specs.Names.{agree}
use Rattle.jcl_meaning.specs.Parts.{but_for_tracks, is_alone, is_among, seen_entry, some_group}
use Rattle.jcl_meaning.specs.Stores.{Store}
use Rattle.part_laws.specs.Keeping.{AreCompatible, SameNamed, StaysWithin}
use Rattle.part_laws.proofs.SameWrites.{same_bytes}

-- one that passes the one test passes the other
one_of_both : {X G : Type 0} (p q : X → Bool) (xs : List X) → list_any p xs ≡ true → list_all q xs ≡ true → ((x : X) → p x ≡ true → q x ≡ true → G) → G
one_of_both {G = G} p q [] some all f = absurd cc
one_of_both {G = G} p q (x ∷ xs) some all f =
    let both : (q x ≡ true) × (list_all q xs ≡ true) = and_parts (q x) (list_all q xs) all in
    by_place (or_cases (p x) (list_any p xs) some) both.0 (λ e. one_of_both p q xs e both.1 f)
  where
    by_place : (p x ≡ true) ⊎ (list_any p xs ≡ true) → q x ≡ true → (list_any p xs ≡ true → G) → G
    by_place (inl e) here more = f x e here
    by_place (inr e) here more = more e

-- two holders of one name share it
shared_by : (name : List ℕ) (a b : HeldName) → bytes_eq a.name name ≡ true → bytes_eq b.name name ≡ true → agree a b ≡ true →
    (a.exclusive || b.exclusive) ≡ false
shared_by name a b ea eb ok =
    let same : a.name ≡ b.name = same_bytes a.name name ea ∙ sym (same_bytes b.name name eb) in
    let here : bytes_eq a.name b.name ≡ true = subst (λ (n : List ℕ). bytes_eq a.name n ≡ true) same (grind (rules, bytes_eq-Decides a.name a.name)) in
    not-true (a.exclusive || b.exclusive) (ap (λ (t : Bool). cond t (not (a.exclusive || b.exclusive)) true) (sym here) ∙ ok)

module _ (names others : List HeldName) (compatible : AreCompatible names others) (name : List ℕ) where
  -- a name that the other holds is not held alone, and the other way round
  not_alone : is_among others name ≡ true → is_alone names name ≡ false
  not_alone there = false_from_ne_true (is_alone names name) (λ alone.
      one_of_both (λ h. h.exclusive && bytes_eq h.name name) (λ a. list_all (agree a) others) names alone compatible (λ a pa all.
      one_of_both (λ h. bytes_eq h.name name) (agree a) others there all (λ b pb ok.
      let parts : (a.exclusive ≡ true) × (bytes_eq a.name name ≡ true) = and_parts a.exclusive (bytes_eq a.name name) pa in
      both_ways (a.exclusive || b.exclusive) (shared_by name a b parts.1 pb ok) (or_left a.exclusive b.exclusive parts.0))))

  not_held : is_alone others name ≡ true → is_among names name ≡ false
  not_held alone = false_from_ne_true (is_among names name) (λ there.
      one_of_both (λ h. bytes_eq h.name name) (λ a. list_all (agree a) others) names there compatible (λ a pa all.
      one_of_both (λ h. h.exclusive && bytes_eq h.name name) (agree a) others alone all (λ b pb ok.
      let parts : (b.exclusive ≡ true) × (bytes_eq b.name name ≡ true) = and_parts b.exclusive (bytes_eq b.name name) pb in
      both_ways (a.exclusive || b.exclusive) (shared_by name a b pa parts.1 ok) (or_right a.exclusive b.exclusive parts.0))))

-- sets, by whether the other holds the name alone
named_same : (alone : Bool) (x y : Option DataSet) → (alone ≡ true → x ≡ y) → but_for_tracks x ≡ but_for_tracks y →
    cond alone x (but_for_tracks x) ≡ cond alone y (but_for_tracks y)
named_same true x y whole e = whole refl
named_same false x y whole e = e

-- entries, by what the other sees of a name
abbrev shown : Bool → Bool → Option CatEntry → Option CatEntry
shown whole seen None = None
shown whole seen (Some (Volume serial)) = cond seen (Some (Volume serial)) None
shown whole seen (Some (Group g)) = cond whole (Some (Group g)) (cond seen (Some some_group) None)

shown_same : (whole seen : Bool) (x y : Option CatEntry) → (whole ≡ true → group_in x ≡ group_in y) → (seen ≡ true → volume_in x ≡ volume_in y) →
    is_some (group_in x) ≡ is_some (group_in y) → shown whole seen x ≡ shown whole seen y
shown_same whole seen None None g v b = refl
shown_same whole true None (Some (Volume w)) g v b = absurd (cc (v refl))
shown_same whole false None (Some (Volume w)) g v b = refl
shown_same whole seen None (Some (Group h)) g v b = absurd cc
shown_same whole true (Some (Volume w)) None g v b = absurd (cc (v refl))
shown_same whole false (Some (Volume w)) None g v b = refl
shown_same whole true (Some (Volume w)) (Some (Volume z)) g v b = let same : w ≡ z = cc (v refl) in ap (λ (n : List ℕ). Some (Volume n)) same
shown_same whole false (Some (Volume w)) (Some (Volume z)) g v b = refl
shown_same whole seen (Some (Volume w)) (Some (Group h)) g v b = absurd cc
shown_same whole seen (Some (Group k)) None g v b = absurd cc
shown_same whole seen (Some (Group k)) (Some (Volume w)) g v b = absurd cc
shown_same true seen (Some (Group k)) (Some (Group h)) g v b = ap as_entry (g refl)
  where
    as_entry : Option GroupState → Option CatEntry
    as_entry None = None
    as_entry (Some x) = Some (Group x)
shown_same false seen (Some (Group k)) (Some (Group h)) g v b = refl

pub unseen_by_other : (names others : List HeldName) (s t : Store) → AreCompatible names others → StaysWithin names s t → SameNamed others s t
unseen_by_other names others s t compatible within = record {
  named = λ name serial h. named_same (is_alone others (base_of name)) (s.set (Named name) serial) (t.set (Named name) serial)
      (λ alone. within.unheld name serial (not_held names others compatible (base_of name) alone))
      (within.shared name serial (not_alone names others compatible (base_of name) h));
  catalog = λ name. seen_same name (s.catalog name) (t.catalog name)
      (λ h. within.groups name (not_alone names others compatible name h)) (λ h. within.volumes name (not_alone names others compatible (base_of name) h))
      (within.bases name);
}
  where
    as_shown : (name : List ℕ) (x : Option CatEntry) →
        seen_entry others name x ≡ shown (is_among others name) (is_among others (base_of name)) x
    as_shown name None = refl
    as_shown name (Some (Volume serial)) = refl
    as_shown name (Some (Group g)) = refl

    seen_same : (name : List ℕ) (x y : Option CatEntry) → (is_among others name ≡ true → group_in x ≡ group_in y) →
        (is_among others (base_of name) ≡ true → volume_in x ≡ volume_in y) → is_some (group_in x) ≡ is_some (group_in y) →
        seen_entry others name x ≡ seen_entry others name y
    seen_same name x y g v b =
        as_shown name x ∙ shown_same (is_among others name) (is_among others (base_of name)) x y g v b ∙ sym (as_shown name y)
