-- The names that a job wants, in byte order, each once, and who holds none.
use Rattle.std.proofs.Common.{◌≡◌, ◌≢◌, ℕ, ◌==◌, true, false, not, List, [], ◌∷◌, ◌++◌, map, sym}
use Rattle.std.proofs.lemmas.Bool.{eqb-false, not-true}
use Rattle.std.proofs.lemmas.List.Elements.{All-append, All-filter, All-from_get_or, All-map, All-weaker, filter_passes}
use Rattle.enq_core.specs.declared.table.Hold.{Hold}
use Rattle.enq_core.specs.declared.table.Want.{Want}
use Rattle.enq_core.specs.Holds.{AreWants, HoldsNone, holds_of, without_job}
use Rattle.jcl_plan.specs.declared.plan.JobPlan.{JobPlan}
use Rattle.jcl_meaning.specs.declared.names.HeldName.{HeldName}
use Rattle.jcl_meaning.specs.Names.{AreSorted, IsBefore, names_of, wanted_by}
use Rattle.jcl_meaning.proofs.SortedNames.{sorted_all}
use Rattle.world_meaning.specs.Holdings.{wants_of}
use Rattle.queued_job.specs.Naming.{want_of}

in_order : (names : List HeldName) → AreSorted names → AreWants (map want_of names)
in_order [] s = tt
in_order (h ∷ names) s = (All-map (λ other. IsBefore h.name other.name) want_of names s.0, in_order names s.1)

pub wants_in_order : (plan : JobPlan) → AreWants (wants_of plan)
wants_in_order plan = in_order (names_of plan) (sorted_all [] (wanted_by plan.steps) tt)

pub holding_leaves : (holds : List Hold) (job other : ℕ) (wants : List Want) → other ≢ job → HoldsNone holds other → HoldsNone (holds ++ holds_of job wants) other
holding_leaves holds job other wants apart none =
    All-append (λ hold. hold.job ≢ other) holds (holds_of job wants) none
    (All-map (λ hold. hold.job ≢ other) (λ (want : Want). record { job = job; name = want.name; exclusive = want.exclusive }) wants
    (All-from_get_or (λ want. job ≢ other) wants (record { name = []; exclusive = false }) (λ i h is. apart (sym is))))

pub releasing_leaves_none : (holds : List Hold) (job : ℕ) → HoldsNone (without_job job holds) job
releasing_leaves_none holds job =
    All-weaker (λ hold. not (hold.job == job) ≡ true) (λ hold. hold.job ≢ job) (λ hold e. eqb-false hold.job job (not-true (hold.job == job) e)) (without_job job holds)
    (filter_passes (λ hold. not (hold.job == job)) holds)

pub releasing_leaves : (holds : List Hold) (job other : ℕ) → HoldsNone holds other → HoldsNone (without_job job holds) other
releasing_leaves holds job other none = All-filter (λ hold. not (hold.job == job)) (λ hold. hold.job ≢ other) holds none
