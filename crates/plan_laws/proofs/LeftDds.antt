-- What is true of each DD of a step is true of each that is left.
use Rattle.std.proofs.Common.{ℕ, zero, suc, Bool, true, false, List, [], ◌∷◌, ◌++◌, drop, length, map, take_while, Option, Some, None, if◌then◌else◌}
use Rattle.std.specs.Prelude.{All}
use Rattle.std.specs.List.{prefix_len}
use Rattle.std.proofs.lemmas.List.Elements.{All-append, All-cons, All-drop, All-head, All-nil, All-tail, All-take}
use Rattle.jcl_dds.specs.declared.dd.DdCard.{DdCard}
use Rattle.jcl_procs.specs.declared.step.FlatStep.{FlatStep}
use Rattle.jcl_refs.specs.LaterDds.{Found, Next, as_dummy, defined_by, found_in, has_name, has_no_name, left_by, next_by, next_of, onto_found, wanted_by}
use Rattle.jcl_refs.specs.Plans.{with_dds_left}

module _ (Card : DdCard → Type 0) (dummy : (dd : DdCard) → Card dd → Card (as_dummy dd))
    (defined : (dd later : DdCard) → Card dd → Card later → Card (defined_by dd later)) where
  record FoundFact (f : Found) : Type 0 where
    before : All Card f.before
    first : Card f.first
    continued : All Card f.continued
    behind : All Card f.behind

  abbrev IfFound : Option Found → Type 0
  IfFound None = Unit {0}
  IfFound (Some f) = FoundFact f

  onto_fact : (dd : DdCard) (found : Option Found) → Card dd → IfFound found → IfFound (onto_found dd found)
  onto_fact dd None card fact = tt
  onto_fact dd (Some f) card fact =
      record { before = All-cons Card dd f.before card fact.before; first = fact.first; continued = fact.continued; behind = fact.behind }

  by_name : (b : Bool) (here later : Option Found) → IfFound here → IfFound later → IfFound (if b then here else later)
  by_name true here later h l = h
  by_name false here later h l = l

  found_fact : (name : List ℕ) (dds : List DdCard) → All Card dds → IfFound (found_in name dds)
  found_fact name [] all = tt
  found_fact name (dd ∷ dds) all =
      let run = take_while has_no_name dds in
      let rest = All-tail Card dd dds all in
      by_name (has_name name dd) (Some (record { before = []; first = dd; continued = run; behind = drop (length run) dds }))
      (onto_found dd (found_in name dds))
      (record {
        before = All-nil Card;
        first = All-head Card dd dds all;
        continued = All-take Card (prefix_len has_no_name dds) dds rest;
        behind = All-drop Card (length run) dds rest;
      })
      (onto_fact dd (found_in name dds) (All-head Card dd dds all) (found_fact name dds rest))

  abbrev NextFact : Next → Type 0
  NextFact next = All Card next.stays × All Card next.rest

  next_found : (dd : DdCard) (dds : List DdCard) (found : Option Found) → Card dd → All Card dds → IfFound found → NextFact (next_by dd dds found)
  next_found dd dds None card all fact = (All-cons Card (as_dummy dd) [] (dummy dd card) (All-nil Card), all)
  next_found dd dds (Some f) card all fact = (
    All-nil Card,
    All-cons Card (defined_by dd f.first) (f.continued ++ (f.before ++ f.behind)) (defined dd f.first card fact.first)
        (All-append Card f.continued (f.before ++ f.behind) fact.continued (All-append Card f.before f.behind fact.before fact.behind)),
  )

  next_fact : (dd : DdCard) (dds : List DdCard) (wanted : Option (List ℕ)) → Card dd → All Card dds → NextFact (next_of dd dds wanted)
  next_fact dd dds None card all = (All-cons Card dd [] card (All-nil Card), all)
  next_fact dd dds (Some name) card all = next_found dd dds (found_in name dds) card all (found_fact name dds all)

  pub all_left : (n : ℕ) (dds : List DdCard) → All Card dds → All Card (left_by n dds)
  all_left zero dds all = all
  all_left (suc n) [] all = All-nil Card
  all_left (suc n) (dd ∷ dds) all =
      let next = next_of dd dds (wanted_by dd.dd_name) in
      let fact = next_fact dd dds (wanted_by dd.dd_name) (All-head Card dd dds all) (All-tail Card dd dds all) in
      All-append Card next.stays (left_by n next.rest) fact.0 (all_left n next.rest fact.1)

  pub steps_left : (steps : List FlatStep) → All (λ s. All Card s.dds) steps → All (λ s. All Card s.dds) (map with_dds_left steps)
  steps_left [] all = All-nil (λ (s : FlatStep). All Card s.dds)
  steps_left (s ∷ steps) all =
      let Q : FlatStep → Type 0 = λ s. All Card s.dds in
      All-cons Q (with_dds_left s) (map with_dds_left steps) (all_left (length s.dds) s.dds (All-head Q s steps all))
      (steps_left steps (All-tail Q s steps all))
