use Rattle.std.proofs.Common.{◌≡◌, ℕ, Some, None, List, length, sym, subst, arith}
use Rattle.std.specs.BTreeMap.{Updates}
use Rattle.std.specs.Cmp.Lexicographic.{slice_cmp}
use Rattle.std.specs.Ordering.{nat_cmp}
use Rattle.name_places.specs.Places.{place_of}
use Rattle.name_places.proofs.PlaceLemmas.{places_more}
use Rattle.name_places.proofs.places.NamePlaces.add.Goals as goal

pub invariant_of-self-2 : goal.invariant_of-self-2
invariant_of-self-2 c =
    let names = c.self.inside.names.items in
    let name = c.args.name.now in
    let size : c.len.result ≡ length names = omega (arith, c.len.ensures, c.in_ok-reserve.ensures.len) in
    let P : List (List ℕ) → Type 0 = λ names. place_of names name ≡ None in
    let Q : ℕ → Type 0 = λ n. Updates (slice_cmp nat_cmp) c.self.inside.places c.insert.new.self name (Some n) in
    let R : List ℕ → Type 0 = λ name. Updates (slice_cmp nat_cmp) c.self.inside.places c.insert.new.self name (Some c.len.result) in
    rw (c.in-Ok-push.ensures.items, c.in_ok-reserve.ensures.items, c.new-name.ensures)
    (places_more c.self.inside.places c.insert.new.self names name c.self.invariant (subst P (sym c.self.view_is) c.requires.new)
    (subst Q size (subst R c.new-name.ensures c.in-Ok.ensures.updates)))
