use Rattle.std.proofs.Common.{◌≡◌, ◌++◌, ◌∷◌, [], None, Some, sym, ap, ◌∙◌}
use Rattle.name_places.specs.Places.{place_of}
use Rattle.jcl_refs.specs.Waiting.{listed}
use Rattle.jcl_refs.proofs.NamedPlaces.{place_last, same_more}
use Rattle.jcl_refs.proofs.places.Places.number.Goals as goal

pub returns-clause-found : goal.returns-clause-found
returns-clause-found c =
    let names = c.args.self.now.names in
    let none : place_of names c.args.name ≡ None = ap (place_of names) (sym c.as_slice.ensures.value) ∙ sym c.in_default.ensures in
    ap (λ names. place_of names c.args.name) c.in_ok-add.ensures.ok
    ∙ ap (λ name. place_of (names ++ name ∷ []) c.args.name) c.as_slice-2.ensures.value
    ∙ place_last names c.args.name none ∙ ap Some (sym c.len-number.ensures)

pub returns-clause-same : goal.returns-clause-same
returns-clause-same c x =
    let names = c.args.self.now.names in
    let ps = c.args.self.now.places.items in
    let more : c.push.new.self.items ≡ ps ++ c.new.result ∷ [] = c.in_ok-push.ensures.items in
    ap (λ names. listed c.push.new.self.items (place_of names x)) c.in_ok-add.ensures.ok
    ∙ ap (λ ps. listed ps (place_of (names ++ c.as_slice-2.result.now ∷ []) x)) more
    ∙ same_more names ps c.as_slice-2.result.now x c.new.result c.new.ensures.items c.requires
