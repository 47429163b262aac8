use Rattle.std.proofs.Common.{◌≡◌, ◌<◌, ℕ, List, Some, length, slice_get, refl, sym, ap, subst, arith, ltb-true, ◌∙◌}
use Rattle.std.proofs.lemmas.Option.{slice_get_read, slice_get_past}
use Rattle.group_core.specs.declared.group.Generation.{Generation}
use Rattle.group_core.specs.Groups.{GroupState, IsFalling, number_or_fault}
use Rattle.group_core.proofs.Falls.{number_in_range}
use Rattle.group_core.proofs.group.Group.number_at.Goals as goal

pub returns-in-Some-clause-range : goal.returns-in-Some-clause-range
returns-in-Some-clause-range c =
    let gs : List Generation = c.deref.result.now in
    let h = c.in-Some.ensures.lookup in
    let there : slice_get gs c.from.result ≡ Some c.in-Some.generation.now
    = slice_get_read gs (length gs) c.from.result c.in-Some.generation.now refl (ltb-true c.from.result (length gs) (sym h.0)) h.1 in
    let range : (0 < c.in-Some.generation.now.number) × (c.in-Some.generation.now.number < 10000)
    = number_in_range 10000 gs c.from.result c.in-Some.generation.now (subst (IsFalling 10000) (sym c.deref.ensures.value) c.self.invariant.0) there in
    (range.0, omega (arith, range.1))

pub returns-in-None-clause-value : goal.returns-in-None-clause-value
returns-in-None-clause-value c =
    ap number_or_fault (sym (slice_get_past c.deref.result.now c.from.result c.in-None.ensures.lookup.3))
    ∙ ap (λ (i : ℕ). number_or_fault (slice_get c.deref.result.now i)) c.from.ensures
    ∙ ap (λ (gs : List Generation). number_or_fault (slice_get gs c.args.place)) c.deref.ensures.value
    ∙ ap (λ (s : GroupState). number_or_fault (slice_get s.generations c.args.place)) c.self.view_is
