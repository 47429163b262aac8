-- The entries of a map one by one: they rise, and each is what the map has at its place.
use Rattle.std.proofs.Common.{◌≡◌, ◌||◌, Bool, true, false, cond, T, is_lt, List, [], ◌∷◌, Ordering, Less, Equal, Greater, Some, None, All, refl, ap, sym, ◌∙◌}
use Rattle.std.specs.Prelude.{⊤}
use Rattle.std.specs.FinMap.{entries, entries_sorted, find, get, get-entries, is_sorted}
use Rattle.std.specs.FinMap.Entries.{below_all}
use Rattle.std.specs.List.{list_any}
use Rattle.std.specs.Ordering.{eq_by_cmp, is_eq}
use Rattle.std.proofs.lemmas.Bool.{and_parts}
use Rattle.std.proofs.lemmas.Cmp.{eq_by_cmp_equiv}
use Rattle.std.proofs.lemmas.List.Elements.{All-cons, All-nil}
use Rattle.std.proofs.lemmas.Option.{none-some, same_Some}
use Rattle.mount_core.specs.declared.place.KeptPlace.{KeptPlace}
use Rattle.mount_core.specs.Kept.{Kept, place_cmp}
use Rattle.mount_core.proofs.KeptMaps.{Entry, tied_equal}
use Rattle.mount_core.proofs.Places.{place_total}

-- each place stands before those behind it
abbrev pub IsRising : List (KeptPlace × Entry) → Type 0
IsRising [] = ⊤
IsRising (e ∷ es) = All (λ f. is_lt (place_cmp e.0 f.0) ≡ true) es × IsRising es

is_true : (b : Bool) → T b → b ≡ true
is_true true h = refl
is_true false h = absurd h

below_each : (x : KeptPlace) (es : List (KeptPlace × Entry)) → below_all place_cmp x es ≡ true → All (λ e. is_lt (place_cmp x e.0) ≡ true) es
below_each x [] h = All-nil (λ (e : KeptPlace × Entry). is_lt (place_cmp x e.0) ≡ true)
below_each x (e ∷ es) h =
    let both = and_parts (is_lt (place_cmp x e.0)) (below_all place_cmp x es) h in
    All-cons (λ (f : KeptPlace × Entry). is_lt (place_cmp x f.0) ≡ true) e es both.0 (below_each x es both.1)

rising : (es : List (KeptPlace × Entry)) → is_sorted place_cmp es ≡ true → IsRising es
rising [] h = tt
rising (e ∷ es) h =
    let both = and_parts (below_all place_cmp e.0 es) (is_sorted place_cmp es) h in
    (below_each e.0 es both.0, rising es both.1)

pub entries_rise : (m : Kept) → IsRising (entries m)
entries_rise m = rising (entries m) (is_true (is_sorted place_cmp (entries m)) (entries_sorted m))

not_tied : (o : Ordering) → is_lt o ≡ true → is_eq o ≡ false
not_tied Less h = refl
not_tied Equal h = absurd cc
not_tied Greater h = refl

none_below : (x : KeptPlace) (es : List (KeptPlace × Entry)) → below_all place_cmp x es ≡ true → find place_cmp x es ≡ None
none_below x [] h = refl
none_below x (e ∷ es) h =
    let both = and_parts (is_lt (place_cmp x e.0)) (below_all place_cmp x es) h in
    ap (λ b. cond b (Some e.1) (find place_cmp x es)) (not_tied (place_cmp x e.0) both.0) ∙ none_below x es both.1

-- what is found behind the first entry is found
found_behind : (e : KeptPlace × Entry) (es : List (KeptPlace × Entry)) → below_all place_cmp e.0 es ≡ true → (at : KeptPlace) (v : Entry) →
    find place_cmp at es ≡ Some v → find place_cmp at (e ∷ es) ≡ Some v
found_behind e es below at v f = by (eq_by_cmp place_cmp at e.0) refl
  where
    by : (b : Bool) → eq_by_cmp place_cmp at e.0 ≡ b → cond b (Some e.1) (find place_cmp at es) ≡ Some v
    by true t = absurd (none-some v (sym (sym f ∙ ap (λ q. find place_cmp q es) (tied_equal at e.0 t) ∙ none_below e.0 es below)))
    by false t = f

found_each : (P : KeptPlace × Entry → Type 0) (es : List (KeptPlace × Entry)) → is_sorted place_cmp es ≡ true →
    ((at : KeptPlace) (v : Entry) → find place_cmp at es ≡ Some v → P (at, v)) → All P es
found_each P [] s h = All-nil P
found_each P (e ∷ es) s h =
    let both = and_parts (below_all place_cmp e.0 es) (is_sorted place_cmp es) s in
    All-cons P e es
    (h e.0 e.1 (ap (λ b. cond b (Some e.1) (find place_cmp e.0 es)) ((eq_by_cmp_equiv place_total).refl e.0)))
    (found_each P es both.1 (λ at v f. h at v (found_behind e es both.0 at v f)))

-- what holds of what the map has holds of its entries
pub each_entry : (P : KeptPlace × Entry → Type 0) (m : Kept) → ((at : KeptPlace) (v : Entry) → get m at ≡ Some v → P (at, v)) → All P (entries m)
each_entry P m h = found_each P (entries m) (is_true (is_sorted place_cmp (entries m)) (entries_sorted m)) (λ at v f. h at v (get-entries m at ∙ f))

or_right : (a b : Bool) → b ≡ true → (a || b) ≡ true
or_right true b h = refl
or_right false b h = h

or_left : (a b : Bool) → a ≡ true → (a || b) ≡ true
or_left true b h = refl
or_left false b h = absurd cc

any_step : (q : KeptPlace × Entry → Bool) (at : KeptPlace) (v : Entry) (e : KeptPlace × Entry) (es : List (KeptPlace × Entry)) (b : Bool) →
    eq_by_cmp place_cmp at e.0 ≡ b → q (at, v) ≡ true → (find place_cmp at es ≡ Some v → list_any q es ≡ true) →
    cond b (Some e.1) (find place_cmp at es) ≡ Some v → (q e || list_any q es) ≡ true
any_step q at v e es true t h ih g =
    let k : at ≡ e.0 = tied_equal at e.0 t in
    let w : e.1 ≡ v = same_Some e.1 v g in
    or_left (q e) (list_any q es) (ap q (λ i. (sym k i, w i)) ∙ h)
any_step q at v e es false t h ih g = or_right (q e) (list_any q es) (ih g)

any_found : (q : KeptPlace × Entry → Bool) (at : KeptPlace) (v : Entry) (es : List (KeptPlace × Entry)) → q (at, v) ≡ true → find place_cmp at es ≡ Some v →
    list_any q es ≡ true
any_found q at v [] h f = absurd (none-some v f)
any_found q at v (e ∷ es) h f = any_step q at v e es (eq_by_cmp place_cmp at e.0) refl h (any_found q at v es h) f

-- a test that what the map has at a place passes is passed by an entry
pub any_entry : (q : KeptPlace × Entry → Bool) (m : Kept) (at : KeptPlace) (v : Entry) → get m at ≡ Some v → q (at, v) ≡ true → list_any q (entries m) ≡ true
any_entry q m at v f h = any_found q at v (entries m) h (sym (get-entries m at) ∙ f)
