-- The places of a printable plan's sets are on printable volumes, where these are printable.
use Rattle.std.proofs.Common.{◌≡◌, ◌+◌, ◌-◌, ℕ, Bool, true, false, List, [], ◌∷◌, Option, Some, None, All}
use Rattle.std.proofs.lemmas.List.Elements.{All-append, All-contains, All-head, All-nil, All-same, All-tail}
use Rattle.jcl_plan.specs.declared.plan.DdKind.{DdKind}
use Rattle.jcl_plan.specs.declared.plan.DdKind.TheVariants.{Cards, Dummy, Set, Sysout}
use Rattle.jcl_plan.specs.declared.plan.DdPlan.{DdPlan}
use Rattle.jcl_plan.specs.declared.plan.JobPlan.{JobPlan}
use Rattle.jcl_plan.specs.declared.plan.SetPlan.{SetPlan}
use Rattle.jcl_plan.specs.declared.plan.StepPlan.{StepPlan}
use Rattle.jcl_plan.specs.declared.plan.VolumePlan.{VolumePlan}
use Rattle.jcl_plan.specs.declared.plan.VolumePlan.TheVariants as volume
use Rattle.jcl_meaning.specs.declared.state.Place.{Place}
use Rattle.world_meaning.specs.Placements.{ArePlaces, PlacedAmong, PlacedBy, PlacedDd, PlacedDds, PlacedIf, PlacedSteps, among, nowhere, places, unit_volumes}
use Rattle.world_meaning.specs.Worlds.{Config}
use Rattle.line_laws.specs.Printable.{IsPrintable}
use Rattle.print_laws.specs.Printable.{IsPrintableDd, IsPrintableKind, IsPrintablePlan, IsPrintableStep, IsPrintableVolume}
use Rattle.text_laws.proofs.Elements.{at_or, of_one}

abbrev IsPlaced : Place → Type 0
IsPlaced p = IsPrintable p.serial

abbrev ArePlaced : List Place → Type 0
ArePlaced all = All IsPlaced all

none_placed : (here : List Place) → here ≡ [] → ArePlaced here
none_placed here is = All-same IsPlaced here [] is (All-nil IsPlaced)

one_placed : (step dd : ℕ) (serial : List ℕ) (here : List Place) → here ≡ record { step = step; dd = dd; serial = serial } ∷ [] → IsPrintable serial →
    ArePlaced here
one_placed step dd serial here is h = All-same IsPlaced here _ is (of_one IsPlaced (record { step = step; dd = dd; serial = serial }) h)

among_placed : (volumes : List (List ℕ)) (step dd : ℕ) (here : List Place) → All IsPrintable volumes → PlacedAmong volumes step dd here → ArePlaced here
among_placed volumes step dd here all (nowhere none is) = none_placed here is
among_placed volumes step dd here all (among serial has is) = one_placed step dd serial here is (All-contains IsPrintable volumes serial all has)

by_placed : (v : VolumePlan) (volumes : List (List ℕ)) (step dd : ℕ) (here : List Place) → All IsPrintable volumes → IsPrintableVolume v →
    PlacedBy v volumes step dd here → ArePlaced here
by_placed volume.NotCoded volumes step dd here all h is = among_placed volumes step dd here all is
by_placed (volume.Serial serial) volumes step dd here all h is = one_placed step dd serial here is h
by_placed (volume.OfName name) volumes step dd here all h is = none_placed here is
by_placed (volume.OfDd s d) volumes step dd here all h is = none_placed here is

module _ (c : Config) (volumes : All IsPrintable c.volumes) (units : All (λ (serials : List (List ℕ)). All IsPrintable serials) c.units) where
  unit_printable : (unit : Option ℕ) → All IsPrintable (unit_volumes c.volumes c.units unit)
  unit_printable None = volumes
  unit_printable (Some n) = at_or (λ (serials : List (List ℕ)). All IsPrintable serials) c.units (n - 1) [] units (All-nil IsPrintable)

  if_placed : (b : Bool) (step dd : ℕ) (p : SetPlan) (here : List Place) → IsPrintableVolume p.volume → PlacedIf b c step dd p here → ArePlaced here
  if_placed true step dd p here h is = by_placed p.volume (unit_volumes c.volumes c.units p.units) step dd here (unit_printable p.units) h is
  if_placed false step dd p here h is = none_placed here is

  dd_placed : (step dd : ℕ) (kind : DdKind) (here : List Place) → IsPrintableKind kind → PlacedDd c step dd kind here → ArePlaced here
  dd_placed step dd (Sysout class) here h is = none_placed here is
  dd_placed step dd Dummy here h is = none_placed here is
  dd_placed step dd (Cards cards) here h is = none_placed here is
  dd_placed step dd (Set p) here h is = if_placed (places p.status p.volume) step dd p here h.1 is

  dds_placed : (step dd : ℕ) (dds : List DdPlan) (all : List Place) → All IsPrintableDd dds → PlacedDds c step dd dds all → ArePlaced all
  dds_placed step dd [] all h is = none_placed all is
  dds_placed step dd (d ∷ ds) all h (here, behind, is, first, rest) =
      All-same IsPlaced all _ is
      (All-append IsPlaced here behind (dd_placed step dd d.kind here (All-head IsPrintableDd d ds h).1 first)
      (dds_placed step (dd + 1) ds behind (All-tail IsPrintableDd d ds h) rest))

  steps_placed : (n : ℕ) (steps : List StepPlan) (all : List Place) → All IsPrintableStep steps → PlacedSteps c n steps all → ArePlaced all
  steps_placed n [] all h is = none_placed all is
  steps_placed n (step ∷ steps) all h (here, behind, is, first, rest) =
      All-same IsPlaced all _ is
      (All-append IsPlaced here behind (dds_placed n 1 step.dds here (All-head IsPrintableStep step steps h).dds first)
      (steps_placed (n + 1) steps behind (All-tail IsPrintableStep step steps h) rest))

  pub places_printable : (plan : JobPlan) (all : List Place) → IsPrintablePlan plan → ArePlaces c plan all → ArePlaced all
  places_printable plan all h is = steps_placed 1 plan.steps all h.steps is
