-- The volume on which a DD's set is taken has a printable serial.
use Rattle.std.proofs.Common.{◌&&◌, ◌==◌, ℕ, Bool, true, false, List, [], ◌∷◌, Option, Some, None, All}
use Rattle.std.specs.Prelude.{IfSome, is_some}
use Rattle.std.proofs.lemmas.List.Elements.{All-head, All-tail}
use Rattle.jname_core.specs.declared.key.Key.{Key}
use Rattle.jname_core.specs.declared.key.Key.TheVariants.{Named}
use Rattle.jcl_plan.specs.declared.plan.SetPlan.{SetPlan}
use Rattle.jcl_plan.specs.declared.plan.Status.{Status}
use Rattle.jcl_plan.specs.declared.plan.Status.TheVariants.{Mod, New, Old, Shr}
use Rattle.jcl_plan.specs.declared.plan.VolumePlan.{VolumePlan}
use Rattle.jcl_plan.specs.declared.plan.VolumePlan.TheVariants.{NotCoded, OfDd, OfName, Serial}
use Rattle.jcl_meaning.specs.declared.state.DdVolume.{DdVolume}
use Rattle.jcl_meaning.specs.declared.state.Passed.{Passed}
use Rattle.jcl_meaning.specs.declared.state.Place.{Place}
use Rattle.jcl_meaning.specs.declared.take.Decision.{Decision}
use Rattle.jcl_meaning.specs.declared.take.Decision.TheVariants.{Refuses, Takes}
use Rattle.jcl_meaning.specs.declared.take.Target.{Target}
use Rattle.jcl_meaning.specs.declared.take.Target.TheVariants as target
use Rattle.jcl_meaning.specs.declared.take.Where.{Where}
use Rattle.jcl_meaning.specs.declared.take.Where.TheVariants.{Anywhere, At, Lost}
use Rattle.jcl_meaning.specs.Names.{same_key}
use Rattle.jcl_meaning.specs.Resolutions.{place_of}
use Rattle.jcl_meaning.specs.States.{Fixed, State}
use Rattle.jcl_meaning.specs.Stores.{Store, catalogued, volume_of}
use Rattle.jcl_meaning.specs.TakeActs.{decision_at, target_at}
use Rattle.jcl_meaning.specs.Takes.{at_or_lost, dd_volume, decide, first_passed, found_or_made, is_known, is_there, looked_at, on_volume, passed_or_else, target_of, there_or, where_of}
use Rattle.line_laws.specs.Printable.{IsPrintable, IsPrintableName}
use Rattle.print_laws.specs.Printable.{IsPrintableFixed, IsPrintableStore, IsPrintableVolume}
use Rattle.print_laws.proofs.GroupsPrintable.{either}
use Rattle.print_laws.proofs.OwnPrintable.{IsPrintableAt, IsPrintableOnVolume, IsPrintablePassed, IsPrintablePlace}
use Rattle.print_laws.proofs.StoresPrintable.{catalogued_printable, volume_of_printable}

abbrev pub IsPrintableDecision : Decision → Type 0
IsPrintableDecision (Refuses fault) = Unit {0}
IsPrintableDecision (Takes serial h) = IsPrintable serial

abbrev IsPrintableWhere : Where → Type 0
IsPrintableWhere Anywhere = Unit {0}
IsPrintableWhere (At serial) = IsPrintable serial
IsPrintableWhere Lost = Unit {0}

abbrev IsPrintableTarget : Target → Type 0
IsPrintableTarget (target.Makes place) = IsPrintableName place
IsPrintableTarget (target.Finds serial) = IsPrintable serial
IsPrintableTarget (target.Receives p) = IsPrintable p.serial
IsPrintableTarget (target.FindsByCatalog serial) = IsPrintable serial
IsPrintableTarget target.Misses = Unit {0}

-- what is looked up
first_printable : (ps : List Passed) (key : Key) → All IsPrintablePassed ps → IfSome (first_passed ps key) IsPrintablePassed
first_printable [] key h = tt
first_printable (p ∷ ps) key h =
    either (λ (q : Option Passed). IfSome q IsPrintablePassed) (same_key p.key key) (Some p) (first_passed ps key) (All-head IsPrintablePassed p ps h)
    (first_printable ps key (All-tail IsPrintablePassed p ps h))

volume_printable : (vs : List DdVolume) (step dd : ℕ) → All IsPrintableOnVolume vs → IsPrintableName (dd_volume vs step dd)
volume_printable [] step dd h = tt
volume_printable (v ∷ vs) step dd h =
    either IsPrintableName (v.step == step && v.dd == dd) (Some v.serial) (dd_volume vs step dd) (All-head IsPrintableOnVolume v vs h)
    (volume_printable vs step dd (All-tail IsPrintableOnVolume v vs h))

place_printable : (ps : List Place) (step dd : ℕ) → All IsPrintablePlace ps → IsPrintableName (place_of ps step dd)
place_printable [] step dd h = tt
place_printable (p ∷ ps) step dd h =
    either IsPrintableName (p.step == step && p.dd == dd) (Some p.serial) (place_of ps step dd) (All-head IsPrintablePlace p ps h)
    (place_printable ps step dd (All-tail IsPrintablePlace p ps h))

-- the volume that VOL names
at_printable : (serial : Option (List ℕ)) → IsPrintableName serial → IsPrintableWhere (at_or_lost serial)
at_printable None h = tt
at_printable (Some serial) h = h

name_at_printable : (p : Option Passed) (entered : Option (List ℕ)) → IfSome p IsPrintablePassed → IsPrintableName entered →
    IsPrintableWhere (passed_or_else p entered)
name_at_printable (Some p) entered h k = h
name_at_printable None entered h k = at_printable entered k

where_printable : (v : VolumePlan) (s : Store) (passed : List Passed) (volumes : List DdVolume) → IsPrintableVolume v → IsPrintableStore s →
    All IsPrintablePassed passed → All IsPrintableOnVolume volumes → IsPrintableWhere (where_of v s passed volumes)
where_printable NotCoded s passed volumes p h k l = tt
where_printable (Serial serial) s passed volumes p h k l = p
where_printable (OfName name) s passed volumes p h k l =
    name_at_printable (first_passed passed (Named name)) (volume_of s name) (first_printable passed (Named name) k) (volume_of_printable s name h)
where_printable (OfDd step dd) s passed volumes p h k l = at_printable (dd_volume volumes step dd) (volume_printable volumes step dd l)

-- what a DD goes for
there_printable : (p : Option Passed) (entered : Option (List ℕ)) (other : Target) → IfSome p IsPrintablePassed → IsPrintableName entered →
    IsPrintableTarget other → IsPrintableTarget (there_or p entered other)
there_printable (Some p) entered other h k l = h
there_printable None (Some serial) other h k l = k
there_printable None None other h k l = l

found_printable : (status : Status) (p : Option Passed) (entered place : Option (List ℕ)) → IfSome p IsPrintablePassed → IsPrintableName entered →
    IsPrintableName place → IsPrintableTarget (found_or_made status p entered place)
found_printable New p entered place h k l = l
found_printable Old p entered place h k l = there_printable p entered target.Misses h k tt
found_printable Shr p entered place h k l = there_printable p entered target.Misses h k tt
found_printable Mod p entered place h k l = there_printable p entered (target.Makes place) h k l

on_volume_printable : (status : Status) (serial : List ℕ) → IsPrintable serial → IsPrintableTarget (on_volume status serial)
on_volume_printable New serial h = h
on_volume_printable Old serial h = h
on_volume_printable Shr serial h = h
on_volume_printable Mod serial h = h

target_printable : (status : Status) (w : Where) (p : Option Passed) (entered place : Option (List ℕ)) → IsPrintableWhere w →
    IfSome p IsPrintablePassed → IsPrintableName entered → IsPrintableName place → IsPrintableTarget (target_of status w p entered place)
target_printable status Lost p entered place q h k l = tt
target_printable status (At serial) p entered place q h k l = on_volume_printable status serial q
target_printable status Anywhere p entered place q h k l = found_printable status p entered place h k l

-- and what is decided
decide_printable : (t : Target) (known there space granted : Bool) → IsPrintableTarget t → IsPrintableDecision (decide t known there space granted)
decide_printable (target.Makes None) known there space granted h = tt
decide_printable (target.Makes (Some serial)) false there space granted h = tt
decide_printable (target.Makes (Some serial)) true true space granted h = tt
decide_printable (target.Makes (Some serial)) true false false granted h = tt
decide_printable (target.Makes (Some serial)) true false true false h = tt
decide_printable (target.Makes (Some serial)) true false true true h = h
decide_printable (target.Finds serial) false there space granted h = tt
decide_printable (target.Finds serial) true false space granted h = tt
decide_printable (target.Finds serial) true true space granted h = h
decide_printable (target.Receives p) known false space granted h = tt
decide_printable (target.Receives p) known true space granted h = h
decide_printable (target.FindsByCatalog serial) known false space granted h = tt
decide_printable (target.FindsByCatalog serial) known true space granted h = h
decide_printable target.Misses known there space granted h = tt

pub decision_printable : (fixed : Fixed) (n dd : ℕ) (p : SetPlan) (key : Key) (s : State) → IsPrintableFixed fixed → IsPrintableVolume p.volume →
    IsPrintableAt s → IsPrintableDecision (decision_at fixed p key s (target_at fixed n dd p key s))
decision_printable fixed n dd p key s f v h =
    let t : Target = target_at fixed n dd p key s in
    decide_printable t (is_known fixed.volumes (looked_at t)) (is_there s.store key (looked_at t)) (is_some p.space) s.answers.primary
    (target_printable p.status (where_of p.volume s.store s.own.passed s.own.volumes) (first_passed s.own.passed key) (catalogued s.store key)
    (place_of fixed.places n dd) (where_printable p.volume s.store s.own.passed s.own.volumes v h.store h.own.passed h.own.volumes)
    (first_printable s.own.passed key h.own.passed) (catalogued_printable s.store key h.store) (place_printable fixed.places n dd f.places))
