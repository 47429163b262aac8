-- Entries by their names: what is found, what a map written at one name has, and what is behind so many of a list.
use Rattle.std.proofs.Common.{◌≡◌, ◌<◌, ◌≤◌, ◌-◌, ℕ, suc, Bool, cond, List, [], ◌∷◌, Option, Some, None, length, drop, get_or, refl, sym, ap, subst, ◌∙◌, arith, drop-cons}
use Rattle.std.specs.BTreeMap.{is_at}
use Rattle.std.specs.Cmp.Lexicographic.{nat_list_cmp_total, slice_cmp}
use Rattle.std.specs.Map.{lookup}
use Rattle.std.specs.Ordering.{nat_cmp}
use Rattle.std.specs.Str.{bytes_eq}
use Rattle.std.proofs.lemmas.Cmp.{eq_by_cmp_equiv}
use Rattle.group_core.specs.declared.entry.CatEntry.{CatEntry}
use Rattle.jcl_meaning.specs.declared.store.SoloEntry.{SoloEntry}
use Rattle.jcl_meaning.specs.Stores.{entry_in}
use Rattle.seen_store.specs.Listing.{AreEntries, ChangesEntry, ChangesEntryBy, NamedEntries, WritesEntry, entries_of}
use Rattle.seen_store.proofs.Places.{texts_tell}

-- what a search by the order of names finds
abbrev pub named : NamedEntries → List ℕ → Option CatEntry
named entries name = lookup (is_at (slice_cmp nat_cmp name)) entries

pub entry_found : (entries : NamedEntries) (name : List ℕ) → named entries name ≡ entry_in (entries_of entries) name
entry_found [] name = refl
entry_found (e ∷ entries) name =
    ap (λ (b : Bool). cond b (Some e.1) (named entries name)) (texts_tell name e.0)
    ∙ ap (cond (bytes_eq name e.0) (Some e.1)) (entry_found entries name)

at_name : (k q : List ℕ) → is_at (slice_cmp nat_cmp k) q ≡ bytes_eq q k
at_name k q = (eq_by_cmp_equiv nat_list_cmp_total).symm k q ∙ texts_tell q k

-- a map written at one name
pub written : (old new : NamedEntries) (k : List ℕ) (there : Option CatEntry) →
    ((q : List ℕ) → named new q ≡ cond (is_at (slice_cmp nat_cmp k) q) there (named old q)) → WritesEntry old new k there
written old new k there h name =
    sym (entry_found new name) ∙ h name ∙ ap (λ (b : Bool). cond b there (named old name)) (at_name k name)
    ∙ ap (cond (bytes_eq name k) there) (entry_found old name)

-- or changed there
pub changed : (f : CatEntry → CatEntry) (old new : NamedEntries) (k : List ℕ) (entry entry_now : CatEntry) → Some entry ≡ named old k → entry_now ≡ f entry →
    ((q : List ℕ) → named new q ≡ cond (is_at (slice_cmp nat_cmp k) q) (Some entry_now) (named old q)) → ChangesEntry f old new k
changed f old new k entry entry_now at is h =
    subst (λ (o : Option CatEntry). ChangesEntryBy o f old new k) (at ∙ entry_found old k)
    (subst (λ (e : CatEntry). WritesEntry old new k (Some e)) is (written old new k (Some entry_now) h))

pub not_changed : (f : CatEntry → CatEntry) (old new : NamedEntries) (k : List ℕ) → None ≡ named old k → new ≡ old → ChangesEntry f old new k
not_changed f old new k at same =
    subst (λ (o : Option CatEntry). ChangesEntryBy o f old new k) (at ∙ entry_found old k) (ap entries_of same)

-- The entries behind so many of a list are in the map, and one more is put before them.
pub one_named : (old new : NamedEntries) (list : List SoloEntry) (left : ℕ) (x : SoloEntry) (entry : CatEntry) → 0 < left → left ≤ length list →
    x ≡ get_or list (left - 1) x → entry ≡ x.entry → AreEntries old (drop left list) → WritesEntry old new x.name (Some entry) →
    AreEntries new (drop (left - 1) list)
one_named old new list left x entry some within is copied are writes name =
    let at : left - 1 < length list = omega arith in
    let next : left ≡ suc (left - 1) = omega arith in
    let front : drop (left - 1) list ≡ x ∷ drop left list =
    drop-cons list (left - 1) x at ∙ (λ i. sym is i ∷ drop (sym next i) list) in
    writes name
    ∙ (λ i. cond (bytes_eq name x.name) (Some (copied i)) (are name i))
    ∙ sym (ap (λ (l : List SoloEntry). entry_in l name) front)
