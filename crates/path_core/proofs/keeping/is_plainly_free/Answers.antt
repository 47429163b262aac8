use Rattle.std.proofs.Common.{arith, sym, subst, List}
use Rattle.std.proofs.lemmas.Bool.{OnTrue_at, OnTrue_from}
use Rattle.jcl_meaning.specs.declared.state.KeyMeaning.{KeyMeaning}
use Rattle.path_core.specs.KeptSets.{AtMostKeeps}
use Rattle.path_core.proofs.Kept.{is_free}
use Rattle.path_core.proofs.keeping.is_plainly_free.Goals as goal

pub returns-then-has_no_tests : goal.returns-then-has_no_tests
returns-then-has_no_tests g c = OnTrue_from c.at_most_keeps.result _ (λ yes fixed is.
    let store = g.S.JobStore.seen c.args.job c.args.store.now in
    let P : List KeyMeaning → Type 0 = λ meanings. AtMostKeeps meanings store c.args.plan.now in
    is_free c.are_few.ensures fixed c.args.plan.now store c.args.most_views
    (subst P (sym is) (OnTrue_at yes c.at_most_keeps.ensures)) c.if-has_no_tests.ensures (omega (arith, c.if-most_views-lt2.false)))
