-- The names that a printable plan holds are printable.
use Rattle.std.proofs.Common.{ℕ, ◌≤◌, Bool, true, false, cond, List, [], ◌∷◌, All, take}
use Rattle.std.specs.declared.cmp.Ordering.{Ordering}
use Rattle.std.specs.declared.cmp.Ordering.TheVariants.{Equal, Greater, Less}
use Rattle.std.specs.List.{flat_map}
use Rattle.std.specs.Ordering.{nat_cmp}
use Rattle.std.specs.Cmp.Lexicographic.{slice_cmp}
use Rattle.std.proofs.lemmas.List.Elements.{All-append, All-cons, All-head, All-map, All-nil, All-tail, All-take, All-weaker}
use Rattle.enq_core.specs.declared.table.Want.{Want}
use Rattle.jname_core.specs.declared.key.Key.{Key}
use Rattle.jname_core.specs.declared.key.Key.TheVariants.{Named, Relative, Temporary, Unnamed}
use Rattle.jname_core.specs.Generations.{base_of, before_suffix, has_generation_form}
use Rattle.jcl_plan.specs.declared.plan.DdKind.{DdKind}
use Rattle.jcl_plan.specs.declared.plan.DdKind.TheVariants.{Cards, Dummy, Set, Sysout}
use Rattle.jcl_plan.specs.declared.plan.DdPlan.{DdPlan}
use Rattle.jcl_plan.specs.declared.plan.JobPlan.{JobPlan}
use Rattle.jcl_plan.specs.declared.plan.StepPlan.{StepPlan}
use Rattle.jcl_plan.specs.declared.plan.VolumePlan.{VolumePlan}
use Rattle.jcl_plan.specs.declared.plan.VolumePlan.TheVariants as volume
use Rattle.jcl_meaning.specs.declared.names.HeldName.{HeldName}
use Rattle.jcl_meaning.specs.Names.{dd_names, entered_at, held, held_under, names_of, set_names, volume_names, wanted_by, wants_alone, with_name, with_names}
use Rattle.world_meaning.specs.Holdings.{wants_of}
use Rattle.line_laws.specs.Printable.{IsPrintable}
use Rattle.print_laws.specs.Printable.{IsPrintableDd, IsPrintableKey, IsPrintableKind, IsPrintablePlan, IsPrintableStep, IsPrintableVolume}
use Rattle.text_laws.proofs.Elements.{of_flat, of_one}

abbrev IsHeld : HeldName → Type 0
IsHeld h = IsPrintable h.name

abbrev AreHeld : List HeldName → Type 0
AreHeld names = All IsHeld names

-- the base of a name is a front of it
base_printable : (name : List ℕ) → IsPrintable name → IsPrintable (base_of name)
base_printable name h = by (has_generation_form name)
  where
    by : (b : Bool) → IsPrintable (cond b (take (before_suffix name) name) name)
    by true = All-take (λ (c : ℕ). (32 ≤ c) × (c ≤ 126)) (before_suffix name) name h
    by false = h

-- the names of a DD
key_held : (key : Key) (exclusive : Bool) → IsPrintableKey key → AreHeld (set_names (held_under key) exclusive)
key_held (Named name) exclusive h = of_one IsHeld (held (base_of name) exclusive) (base_printable name h)
key_held (Relative base sign amount) exclusive h = of_one IsHeld (held base exclusive) h
key_held (Temporary name) exclusive h = All-nil IsHeld
key_held (Unnamed step dd) exclusive h = All-nil IsHeld

volume_held : (v : VolumePlan) → IsPrintableVolume v → AreHeld (volume_names v)
volume_held volume.NotCoded h = All-nil IsHeld
volume_held (volume.Serial serial) h = All-nil IsHeld
volume_held (volume.OfName name) h = of_one IsHeld (held (base_of name) false) (base_printable name h)
volume_held (volume.OfDd step dd) h = All-nil IsHeld

kind_held : (kind : DdKind) → IsPrintableKind kind → AreHeld (dd_names kind)
kind_held (Sysout class) h = All-nil IsHeld
kind_held Dummy h = All-nil IsHeld
kind_held (Cards cards) h = All-nil IsHeld
kind_held (Set p) h =
    All-append IsHeld (set_names (held_under p.key) (wants_alone p)) (volume_names p.volume) (key_held p.key (wants_alone p) h.0) (volume_held p.volume h.1)

-- and of the steps
abbrev step_names : StepPlan → List HeldName
step_names step = flat_map (λ dd. dd_names dd.kind) step.dds

step_held : (step : StepPlan) → IsPrintableStep step → AreHeld (step_names step)
step_held step h =
    of_flat IsHeld (λ (dd : DdPlan). dd_names dd.kind) step.dds
    (All-weaker IsPrintableDd (λ (dd : DdPlan). AreHeld (dd_names dd.kind)) (λ dd is. kind_held dd.kind is.1) step.dds h.dds)

steps_held : (steps : List StepPlan) → All IsPrintableStep steps → AreHeld (wanted_by steps)
steps_held steps all =
    of_flat IsHeld step_names steps (All-weaker IsPrintableStep (λ (step : StepPlan). AreHeld (step_names step)) step_held steps all)

-- each in its place
entered : (o : Ordering) (h there : HeldName) (rest more : List HeldName) → IsHeld h → IsHeld there → AreHeld rest → AreHeld more →
    AreHeld (entered_at o h there rest more)
entered Less h there rest more new old behind with_it = All-cons IsHeld h (there ∷ rest) new (All-cons IsHeld there rest old behind)
entered Equal h there rest more new old behind with_it = All-cons IsHeld _ rest old behind
entered Greater h there rest more new old behind with_it = All-cons IsHeld there more old with_it

with_one : (names : List HeldName) (h : HeldName) → AreHeld names → IsHeld h → AreHeld (with_name names h)
with_one [] h all new = of_one IsHeld h new
with_one (there ∷ rest) h all new =
    entered (slice_cmp nat_cmp h.name there.name) h there rest (with_name rest h) new (All-head IsHeld there rest all) (All-tail IsHeld there rest all)
    (with_one rest h (All-tail IsHeld there rest all) new)

with_all : (names more : List HeldName) → AreHeld names → AreHeld more → AreHeld (with_names names more)
with_all names [] old new = old
with_all names (h ∷ more) old new =
    with_all (with_name names h) more (with_one names h old (All-head IsHeld h more new)) (All-tail IsHeld h more new)

-- what a job wants to hold
pub wants_printable : (plan : JobPlan) → IsPrintablePlan plan → All (λ (want : Want). IsPrintable want.name) (wants_of plan)
wants_printable plan h =
    All-map (λ (want : Want). IsPrintable want.name) (λ (x : HeldName). record { name = x.name; exclusive = x.exclusive }) (names_of plan)
    (with_all [] (wanted_by plan.steps) (All-nil IsHeld) (steps_held plan.steps h.steps))
