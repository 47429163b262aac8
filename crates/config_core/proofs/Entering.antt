-- Entries of the catalog stay well formed: with a group, and with a name.
use Rattle.std.proofs.Common.{◌≡◌, ◌<◌, ◌≤◌, ℕ, zero, suc, ◌+◌, Bool, true, false, cond, nat_lt, List, [], ◌∷◌, length, Option, Some, None, Ok, IfSome, is_some, refl, sym, ap, subst, ◌∙◌, arith}
use Rattle.std.specs.FinMap.{get, get-insert, insert}
use Rattle.std.specs.Ordering.{is_eq}
use Rattle.std.specs.declared.cmp.Ordering.{Ordering}
use Rattle.std.specs.declared.cmp.Ordering.TheVariants.{Less, Equal, Greater}
use Rattle.std.proofs.lemmas.Bool.{leb-false, lt-ltb}
use Rattle.std.proofs.lemmas.Cmp.{nat_list_cmp_total}
use Rattle.std.proofs.lemmas.Map.Lookups.{exact_bytes}
use Rattle.std.proofs.lemmas.Option.{same_Some}
use Rattle.jname_core.specs.Generations.{base_of, generation_of}
use Rattle.group_core.specs.declared.entry.CatEntry.{CatEntry}
use Rattle.group_core.specs.declared.entry.CatEntry.TheVariants.{Volume, Group}
use Rattle.group_core.specs.declared.group.Generation.{Generation}
use Rattle.group_core.specs.declared.group.Rolled.TheVariants.{Entered}
use Rattle.group_core.specs.Entries.{Member, found_by, group_in, member_by}
use Rattle.group_core.specs.Groups.{GroupState, entered, entered_by, inserted, left_by, lowest_of, rolled_off, serial_of, with_entered}
use Rattle.group_core.proofs.Falls.{falling_inserted}
use Rattle.cat_core.specs.Catalogs.{Contents, found, group_of, is_entered, member_of, name_cmp, with_group, with_name_by}
use Rattle.jcl_meaning.specs.WellFormed.{IsEntry, IsGroup}
use Rattle.config_core.specs.Configs.{is_full_for}
use Rattle.config_core.specs.Configured.{AreEntries, IsName}
use Rattle.config_core.proofs.Refused.{not_there}

equal : (o : Ordering) → is_eq o ≡ true → o ≡ Equal
equal Less h = cc
equal Equal h = refl
equal Greater h = cc

entry_by : (b : Bool) (q name : List ℕ) (v : CatEntry) (there : Option CatEntry) → (b ≡ true → q ≡ name) → IsEntry name (Some v) → IsEntry q there →
    IsEntry q (cond b (Some v) there)
entry_by true q name v there is new old = subst (λ n. IsEntry n (Some v)) (sym (is refl)) new
entry_by false q name v there is new old = old

-- with one entry more, or another one there
pub entries_inserted : (c : Contents) (name : List ℕ) (v : CatEntry) → AreEntries c → IsEntry name (Some v) → AreEntries (insert c name v)
entries_inserted c name v old new q =
    subst (IsEntry q) (sym (get-insert nat_list_cmp_total c name v q))
    (entry_by (is_eq (name_cmp q name)) q name v (get c q) (λ e. exact_bytes q name (equal (name_cmp q name) e)) new (old q))

-- a group
pub entries_grouped : (c : Contents) (base : List ℕ) (limit : ℕ) (scratch : Bool) → AreEntries c → IsName base → length base ≤ 35 → 1 ≤ limit → limit ≤ 255 →
    AreEntries (with_group c base limit scratch)
entries_grouped c base limit scratch old name short some few =
    entries_inserted c base (Group (record { limit = limit; scratch = scratch; generations = [] })) old
    (record { fits = short; joined = name.0.joined }, record { some = omega arith; within = few; full_at_most = omega arith; falling = tt })

-- a generation of a group that has room and not its number
length_by : (b : Bool) (g h : Generation) (hs ks : List Generation) → length ks ≡ length hs + 1 → length (cond b (g ∷ h ∷ hs) (h ∷ ks)) ≡ length (h ∷ hs) + 1
length_by true g h hs ks e = omega arith
length_by false g h hs ks e = omega (arith, e)

length_inserted : (g : Generation) (gs : List Generation) → length (inserted g gs) ≡ length gs + 1
length_inserted g [] = omega arith
length_inserted g (h ∷ hs) = length_by (nat_lt h.number g.number) g h hs (inserted g hs) (length_inserted g hs)

group_entered : (g : GroupState) (number : ℕ) (serial : List ℕ) → IsGroup g → 0 < number → number ≤ 9999 → serial_of g.generations number ≡ None →
    length g.generations < g.limit → IsGroup (with_entered g number serial)
group_entered g number serial good some most none room =
    let new : Generation = record { number = number; serial = serial } in
    let answer : entered g number serial ≡ Ok Entered =
    ap (λ o. entered_by o g number serial) none
    ∙ ap (λ b. cond b (Ok Entered) (Ok (rolled_off (lowest_of g.generations) number))) (lt-ltb (length g.generations) g.limit room) in
    subst (λ r. IsGroup (left_by r g new)) (sym answer) (record {
      some = good.some;
      within = good.within;
      full_at_most = omega (arith, length_inserted new g.generations, room);
      falling = falling_inserted 10000 new g.generations good.falling (omega (arith, most)) some none;
    })

group_entry : (o : Option CatEntry) (g : GroupState) → group_in o ≡ Some g → o ≡ Some (Group g)
group_entry None g e = absurd cc
group_entry (Some (Volume serial)) g e = absurd cc
group_entry (Some (Group h)) g e = ap (λ x. Some (Group x)) (same_Some h g e)

member_parts : (n : Option ℕ) (o : Option GroupState) (m : Member) → member_by n o ≡ Some m → IfSome n (λ k. k ≤ 9999) →
    (o ≡ Some m.1) × (0 < m.0) × (m.0 ≤ 9999)
member_parts (Some (suc n)) (Some g) m e most =
    let same : (suc n, g) ≡ m = same_Some (suc n, g) m e in
    let number : suc n ≡ m.0 = ap (λ (x : Member). x.0) same in
    (ap (λ (x : Member). Some x.1) same, omega (arith, number), omega (arith, number, most))
member_parts (Some (suc n)) None m e most = absurd cc
member_parts (Some zero) o m e most = absurd cc
member_parts None o m e most = absurd cc

not_found : (b : Bool) (o : Option (List ℕ)) → cond b true (is_some o) ≡ false → o ≡ None
not_found true o h = absurd cc
not_found false o h = not_there o h

-- a name, of a generation the number
pub entries_named : (c : Contents) (name serial : List ℕ) (o : Option Member) → member_of c name ≡ o → AreEntries c → IsName name → is_entered c name ≡ false →
    is_full_for o ≡ false → AreEntries (with_name_by o c name serial)
entries_named c name serial None member old good new room = entries_inserted c name (Volume serial) old good.0
entries_named c name serial (Some m) member old good new room =
    let base = base_of name in
    let parts = member_parts (generation_of name) (group_of c base) m member good.1 in
    let there : IsEntry base (Some (Group m.1)) = subst (IsEntry base) (group_entry (get c base) m.1 parts.0) (old base) in
    let none : serial_of m.1.generations m.0 ≡ None =
    ap (λ x. found_by x (get c name)) (sym member) ∙ not_found (is_some (group_of c name)) (found c name) new in
    let free : length m.1.generations < m.1.limit = leb-false m.1.limit (length m.1.generations) room in
    entries_inserted c base (Group (with_entered m.1 m.0 serial)) old
    (there.0, group_entered m.1 m.0 serial there.1 parts.1 parts.2 none free)
