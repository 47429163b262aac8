use Rattle.std.proofs.Common.{◌≡◌, ◌<◌, ◌≤◌, ◌+◌, ◌∙◌, ◌∷◌, ◌++◌, [], List, Option, None, Some, ℕ, length, subst, sym, ap, refl, arith}
use Rattle.std.specs.Prelude.{All}
use Rattle.jcl_plan.specs.declared.plan.JobPlan.{JobPlan}
use Rattle.jcl_plan.specs.declared.plan.StepPlan.{StepPlan}
use Rattle.jcl_meaning.specs.declared.state.Place.{Place}
use Rattle.jcl_meaning.specs.Agendas.{path_agenda}
use Rattle.jcl_meaning.specs.Names.{names_of}
use Rattle.jcl_meaning.specs.Solo.{nothing_own}
use Rattle.jcl_meaning.specs.Views.{IsViewAfter}
use Rattle.part_laws.specs.Fits.{Fits}
use Rattle.path_meaning.specs.Verdicts.{IsEarliest, IsFirstWithMore, IsFree}
use Rattle.path_search.specs.declared.trail.Link.{Link}
use Rattle.path_search.specs.Crossings.{known_of}
use Rattle.path_search.specs.Makings.{AreAdded, Rows}
use Rattle.path_search.specs.Reached.{IsReached}
use Rattle.path_search.specs.Stops.{IsReport}
use Rattle.path_search.proofs.Reaching.{all_seen, is_free, reached_next, reached_start, too_many}
use Rattle.path_search.proofs.Risking.{is_earliest}
use Rattle.path_search.proofs.search.analyse_over.Goals as goal

pub loop-part-init : goal.loop-part-init
loop-part-init g c =
    let domain = c.args.domain.now in
    let fixed = g.D.ViewDomain.fixed domain in
    let plan = g.D.ViewDomain.plan domain in
    let store = g.D.ViewDomain.store domain in
    let views = g.D.ViewDomain.members domain c.in_ok-views.views in
    record {
      reached = subst (λ (trail : List (List Link)). IsReached fixed plan store c.args.most_views 0 views 1 trail c.new-places.result.items)
          (sym c.empty-trail.ensures)
          (subst (λ (places : List Place). IsReached fixed plan store c.args.most_views 0 views 1 [] places) (sym c.new-places.ensures.items)
          (reached_start fixed plan store c.args.most_views views c.in_ok-views.ensures.first));
      stands = c.in_ok-views.ensures.part;
    }

pub cross_all-requires-clause-seen : goal.cross_all-requires-clause-seen
cross_all-requires-clause-seen g c =
    let domain = c.args.domain.now in
    let fixed = g.D.ViewDomain.fixed domain in
    let plan = g.D.ViewDomain.plan domain in
    let store = g.D.ViewDomain.store domain in
    let members = g.D.ViewDomain.members domain in
    let job : fixed.job_tests ≡ plan.tests.items = subst (λ (p : JobPlan). fixed.job_tests ≡ p.tests.items) (sym c.requires.plan) c.requires.job_tests in
    let fits : Fits (names_of plan) fixed.meanings (path_agenda plan) nothing_own =
    subst (λ (p : JobPlan). Fits (names_of p) fixed.meanings (path_agenda p) nothing_own) (sym c.requires.plan) c.requires.fits in
    let k = c.loop-part.part in
    let less : k < length c.args.plan.now.steps = subst (λ (ss : List StepPlan). k < length ss) c.as_slice-step-items.ensures c.loop-part-test.true in
    let inside : k < length plan.steps = subst (λ (p : JobPlan). k < length p.steps) (sym c.requires.plan) less in
    let to_end : k ≤ length plan.steps = omega (arith, inside) in
    let views = members c.loop-part.views in
    all_seen c.path_laws.ensures fixed plan store k to_end job fits c.args.most_views c.loop-part.count views c.loop-part.trail
    c.loop-part.places.items c.loop-part.invariant.reached

pub returns-in-Some : goal.returns-in-Some
returns-in-Some g c =
    let domain = c.args.domain.now in
    let fixed = g.D.ViewDomain.fixed domain in
    let plan = g.D.ViewDomain.plan domain in
    let store = g.D.ViewDomain.store domain in
    let members = g.D.ViewDomain.members domain in
    let job : fixed.job_tests ≡ plan.tests.items = subst (λ (p : JobPlan). fixed.job_tests ≡ p.tests.items) (sym c.requires.plan) c.requires.job_tests in
    let fits : Fits (names_of plan) fixed.meanings (path_agenda plan) nothing_own =
    subst (λ (p : JobPlan). Fits (names_of p) fixed.meanings (path_agenda p) nothing_own) (sym c.requires.plan) c.requires.fits in
    let k = c.loop-part.part in
    let less : k < length c.args.plan.now.steps = subst (λ (ss : List StepPlan). k < length ss) c.as_slice-step-items.ensures c.loop-part-test.true in
    let inside : k < length plan.steps = subst (λ (p : JobPlan). k < length p.steps) (sym c.requires.plan) less in
    let to_end : k ≤ length plan.steps = omega (arith, inside) in
    let views = members c.loop-part.views in
    let report = c.in_ok-report-in-Some.field-0 in
    subst (λ (p : JobPlan). IsEarliest fixed p store c.args.most_views report.fault report.step report.dd report.path.items) c.requires.plan
    (is_earliest c.path_laws.ensures fixed plan store k to_end job fits c.args.most_views c.loop-part.count views c.loop-part.trail
    c.loop-part.places.items c.loop-part.invariant.reached
    c.cross_all.new.behind.best c.in-Some.found c.in-Some.is c.in_ok-cross_all.ensures.across.stops report
    (subst (λ (levels : List (List Link)). IsReport levels k c.in-Some.found report) c.as_slice.ensures c.in_ok-report-in-Some.ensures))

pub returns-then-count-most_views : goal.returns-then-count-most_views
returns-then-count-most_views g c =
    let domain = c.args.domain.now in
    let fixed = g.D.ViewDomain.fixed domain in
    let plan = g.D.ViewDomain.plan domain in
    let store = g.D.ViewDomain.store domain in
    let members = g.D.ViewDomain.members domain in
    let job : fixed.job_tests ≡ plan.tests.items = subst (λ (p : JobPlan). fixed.job_tests ≡ p.tests.items) (sym c.requires.plan) c.requires.job_tests in
    let fits : Fits (names_of plan) fixed.meanings (path_agenda plan) nothing_own =
    subst (λ (p : JobPlan). Fits (names_of p) fixed.meanings (path_agenda p) nothing_own) (sym c.requires.plan) c.requires.fits in
    let k = c.loop-part.part in
    let less : k < length c.args.plan.now.steps = subst (λ (ss : List StepPlan). k < length ss) c.as_slice-step-items.ensures c.loop-part-test.true in
    let inside : k < length plan.steps = subst (λ (p : JobPlan). k < length p.steps) (sym c.requires.plan) less in
    let to_end : k ≤ length plan.steps = omega (arith, inside) in
    let views = members c.loop-part.views in
    let known = known_of members c.cross_all.new.behind in
    let more : c.args.most_views < length known.links =
    (let above = c.if-count-most_views.true in let len = c.len-count.ensures in omega (arith, above, len)) in
    subst (λ (p : JobPlan). IsFirstWithMore fixed p store c.args.most_views (k + 1)) c.requires.plan
    (too_many c.path_laws.ensures fixed plan store k to_end job fits c.args.most_views c.loop-part.count views c.loop-part.trail
    c.loop-part.places.items c.loop-part.invariant.reached known
    c.in_ok-cross_all.ensures.across c.in-None.is inside more)

pub loop-part-preserved : goal.loop-part-preserved
loop-part-preserved g c =
    let domain = c.args.domain.now in
    let fixed = g.D.ViewDomain.fixed domain in
    let plan = g.D.ViewDomain.plan domain in
    let store = g.D.ViewDomain.store domain in
    let members = g.D.ViewDomain.members domain in
    let job : fixed.job_tests ≡ plan.tests.items = subst (λ (p : JobPlan). fixed.job_tests ≡ p.tests.items) (sym c.requires.plan) c.requires.job_tests in
    let fits : Fits (names_of plan) fixed.meanings (path_agenda plan) nothing_own =
    subst (λ (p : JobPlan). Fits (names_of p) fixed.meanings (path_agenda p) nothing_own) (sym c.requires.plan) c.requires.fits in
    let k = c.loop-part.part in
    let less : k < length c.args.plan.now.steps = subst (λ (ss : List StepPlan). k < length ss) c.as_slice-step-items.ensures c.loop-part-test.true in
    let inside : k < length plan.steps = subst (λ (p : JobPlan). k < length p.steps) (sym c.requires.plan) less in
    let to_end : k ≤ length plan.steps = omega (arith, inside) in
    let views = members c.loop-part.views in
    let known = known_of members c.cross_all.new.behind in
    let places = c.loop-part.places.items in
    let after = c.add_places.new.places.items in
    let few : length known.links ≤ c.args.most_views = (let low = c.if-count-most_views.false in let len = c.len-count.ensures in omega (arith, low, len)) in
    let added : AreAdded fixed.volumes (k + 1) known.made places after =
    subst (λ (volumes : List (List ℕ)). AreAdded volumes (k + 1) known.made places after) (sym c.requires.volumes)
    (subst (λ (rows : Rows). AreAdded c.args.volumes.now (k + 1) rows places after) c.as_slice-in-loop-part.ensures.value c.in_ok-add_places.ensures.added) in
    record {
      stands = c.in_ok-cross_all.ensures.stands;
      reached = subst (λ (trail : List (List Link)). IsReached fixed plan store c.args.most_views (k + 1) known.views c.len-count.result trail after)
          (sym c.in_ok-push.ensures.ok)
          (subst (λ (count : ℕ). IsReached fixed plan store c.args.most_views (k + 1) known.views count (c.loop-part.trail ++ known.links ∷ []) after)
          (sym c.len-count.ensures)
          (reached_next c.path_laws.ensures fixed plan store k to_end job fits c.args.most_views c.loop-part.count views c.loop-part.trail
          c.loop-part.places.items c.loop-part.invariant.reached known
          c.in_ok-cross_all.ensures.across c.in-None.is inside after added few));
    }

pub cross_end-requires-clause-seen : goal.cross_end-requires-clause-seen
cross_end-requires-clause-seen g c =
    let domain = c.args.domain.now in
    let fixed = g.D.ViewDomain.fixed domain in
    let plan = g.D.ViewDomain.plan domain in
    let store = g.D.ViewDomain.store domain in
    let members = g.D.ViewDomain.members domain in
    let job : fixed.job_tests ≡ plan.tests.items = subst (λ (p : JobPlan). fixed.job_tests ≡ p.tests.items) (sym c.requires.plan) c.requires.job_tests in
    let fits : Fits (names_of plan) fixed.meanings (path_agenda plan) nothing_own =
    subst (λ (p : JobPlan). Fits (names_of p) fixed.meanings (path_agenda p) nothing_own) (sym c.requires.plan) c.requires.fits in
    let k = c.len-part.result in
    let same : length c.as_slice-step-items.result.now ≡ length c.args.plan.now.steps = ap (λ (ss : List StepPlan). length ss) c.as_slice-step-items.ensures in
    let last : c.loop-part.part ≡ k =
    (let low = c.loop-part-test.false in let high = c.loop-part.auto.part-end in let len = c.len-part.ensures in omega (arith, same, low, high, len)) in
    let end : k ≡ length plan.steps = c.len-part.ensures ∙ ap (λ (p : JobPlan). length p.steps) (sym c.requires.plan) in
    let to_end : k ≤ length plan.steps = omega (arith, end) in
    let views = members c.loop-part.views in
    let reached : IsReached fixed plan store c.args.most_views k views c.loop-part.count c.loop-part.trail c.loop-part.places.items =
    subst (λ (n : ℕ). IsReached fixed plan store c.args.most_views n views c.loop-part.count c.loop-part.trail c.loop-part.places.items) last
    c.loop-part.invariant.reached in
    all_seen c.path_laws.ensures fixed plan store k to_end job fits c.args.most_views c.loop-part.count views c.loop-part.trail c.loop-part.places.items reached

pub returns-in-Some-2 : goal.returns-in-Some-2
returns-in-Some-2 g c =
    let domain = c.args.domain.now in
    let fixed = g.D.ViewDomain.fixed domain in
    let plan = g.D.ViewDomain.plan domain in
    let store = g.D.ViewDomain.store domain in
    let members = g.D.ViewDomain.members domain in
    let job : fixed.job_tests ≡ plan.tests.items = subst (λ (p : JobPlan). fixed.job_tests ≡ p.tests.items) (sym c.requires.plan) c.requires.job_tests in
    let fits : Fits (names_of plan) fixed.meanings (path_agenda plan) nothing_own =
    subst (λ (p : JobPlan). Fits (names_of p) fixed.meanings (path_agenda p) nothing_own) (sym c.requires.plan) c.requires.fits in
    let k = c.len-part.result in
    let same : length c.as_slice-step-items.result.now ≡ length c.args.plan.now.steps = ap (λ (ss : List StepPlan). length ss) c.as_slice-step-items.ensures in
    let last : c.loop-part.part ≡ k =
    (let low = c.loop-part-test.false in let high = c.loop-part.auto.part-end in let len = c.len-part.ensures in omega (arith, same, low, high, len)) in
    let end : k ≡ length plan.steps = c.len-part.ensures ∙ ap (λ (p : JobPlan). length p.steps) (sym c.requires.plan) in
    let to_end : k ≤ length plan.steps = omega (arith, end) in
    let views = members c.loop-part.views in
    let reached : IsReached fixed plan store c.args.most_views k views c.loop-part.count c.loop-part.trail c.loop-part.places.items =
    subst (λ (n : ℕ). IsReached fixed plan store c.args.most_views n views c.loop-part.count c.loop-part.trail c.loop-part.places.items) last
    c.loop-part.invariant.reached in
    let report = c.in_ok-report-in-Some-2.field-0 in
    subst (λ (p : JobPlan). IsEarliest fixed p store c.args.most_views report.fault report.step report.dd report.path.items) c.requires.plan
    (is_earliest c.path_laws.ensures fixed plan store k to_end job fits c.args.most_views c.loop-part.count views c.loop-part.trail
    c.loop-part.places.items reached
    c.in_ok-found.field-0 c.in-Some-2.found c.in-Some-2.is c.in_ok-found.ensures.ended report
    (subst (λ (levels : List (List Link)). IsReport levels k c.in-Some-2.found report) c.as_slice-in-Some-2.ensures c.in_ok-report-in-Some-2.ensures))

pub returns : goal.returns
returns g c =
    let domain = c.args.domain.now in
    let fixed = g.D.ViewDomain.fixed domain in
    let plan = g.D.ViewDomain.plan domain in
    let store = g.D.ViewDomain.store domain in
    let members = g.D.ViewDomain.members domain in
    let job : fixed.job_tests ≡ plan.tests.items = subst (λ (p : JobPlan). fixed.job_tests ≡ p.tests.items) (sym c.requires.plan) c.requires.job_tests in
    let fits : Fits (names_of plan) fixed.meanings (path_agenda plan) nothing_own =
    subst (λ (p : JobPlan). Fits (names_of p) fixed.meanings (path_agenda p) nothing_own) (sym c.requires.plan) c.requires.fits in
    let k = c.len-part.result in
    let same : length c.as_slice-step-items.result.now ≡ length c.args.plan.now.steps = ap (λ (ss : List StepPlan). length ss) c.as_slice-step-items.ensures in
    let last : c.loop-part.part ≡ k =
    (let low = c.loop-part-test.false in let high = c.loop-part.auto.part-end in let len = c.len-part.ensures in omega (arith, same, low, high, len)) in
    let end : k ≡ length plan.steps = c.len-part.ensures ∙ ap (λ (p : JobPlan). length p.steps) (sym c.requires.plan) in
    let to_end : k ≤ length plan.steps = omega (arith, end) in
    let views = members c.loop-part.views in
    let reached : IsReached fixed plan store c.args.most_views k views c.loop-part.count c.loop-part.trail c.loop-part.places.items =
    subst (λ (n : ℕ). IsReached fixed plan store c.args.most_views n views c.loop-part.count c.loop-part.trail c.loop-part.places.items) last
    c.loop-part.invariant.reached in
    subst (λ (p : JobPlan). IsFree fixed p store c.args.most_views c.loop-part.places.items) c.requires.plan
    (is_free c.path_laws.ensures fixed plan store k to_end job fits c.args.most_views c.loop-part.count views c.loop-part.trail
    c.loop-part.places.items reached end c.in_ok-found.field-0 c.in_ok-found.ensures.ended
    c.in-None-2.is)
