use Rattle.std.proofs.Common.{◌≡◌, ◌<◌, ◌+◌, ◌-◌, ◌∙◌, ◌++◌, ◌∷◌, List, [], take, set, ℕ, subst, sym, ap, length, if◌then◌else◌, arith}
use Rattle.std.specs.List.{list_any}
use Rattle.std.specs.Str.{bytes_eq}
use Rattle.std.proofs.lemmas.List.{take_more, get_or_default}
use Rattle.jcl_meaning.specs.declared.state.Place.{Place}
use Rattle.path_search.specs.Makings.{AreMarked, IsOfDd, row_at}
use Rattle.path_search.proofs.Marking.{marked_one}
use Rattle.path_search.proofs.makings.mark_places.Goals as goal

pub loop-place-preserved : goal.loop-place-preserved
loop-place-preserved c =
    let i = c.loop-place.place-index in
    let p = c.place-item.result in
    let mid = c.loop-place.rows.items in
    let more : take (i + 1) c.args.places.now ≡ take i c.args.places.now ++ p ∷ [] =
    take_more c.args.places.now i p c.loop-place-test.true ∙ ap (λ (q : Place). take i c.args.places.now ++ q ∷ []) (sym c.place-item.is) in
    let dd : IsOfDd (length c.args.rows.now.items) p = subst (λ (q : Place). IsOfDd (length c.args.rows.now.items) q) (sym c.place-item.is)
    (c.requires.dds i p c.loop-place-test.true) in
    let inside : p.dd - 1 < length mid = let count = c.loop-place.invariant.count in omega (arith, dd.0, dd.1, count) in
    let here : c.index_mut.result.now ≡ row_at mid (p.dd - 1) = c.index_mut.ensures.value ∙ get_or_default mid (p.dd - 1) c.index_mut.result.now [] inside in
    subst (λ (ps : List Place). AreMarked ps c.args.rows.now.items (set mid (p.dd - 1) c.mark_volume.new.row)) (sym more)
    (marked_one (take i c.args.places.now) p c.args.rows.now.items mid c.mark_volume.new.row dd c.loop-place.invariant
    (c.in_ok-mark_volume.ensures ∙ ap (λ (r : List (List ℕ)). if list_any (bytes_eq p.serial) r then r else r ++ p.serial ∷ []) here))
