-- Before its first action, the own state of a job fits its agenda.
use Rattle.std.proofs.Common.{◌≡◌, ◌&&◌, ◌==◌, ◌+◌, ◌-◌, ◌≤◌, ◌<◌, ◌++◌, ℕ, Bool, true, false, cond, nat_le, List, [], ◌∷◌, length, All, Option, Some, None, Result, Ok, Err, refl, sym, ap, ◌∙◌, subst, arith, append_assoc, length-append, eq-eqb, ne_eqb, leb-true}
use Rattle.std.specs.Prelude.{slice_get}
use Rattle.std.specs.List.{flat_map}
use Rattle.std.proofs.lemmas.Bool.{and_from, and_left, and_right, cond-false, cond-true}
use Rattle.std.proofs.lemmas.List.{append-nil}
use Rattle.std.proofs.lemmas.List.Elements.{All-head, All-tail}
use Rattle.jname_core.specs.declared.key.Key.{Key}
use Rattle.jname_core.specs.declared.key.Key.TheVariants.{Named, Relative, Temporary, Unnamed}
use Rattle.jname_core.specs.declared.key.Sign.{Sign}
use Rattle.jname_core.specs.declared.key.Sign.TheVariants.{Plus, Minus}
use Rattle.jname_core.specs.Generations.{base_of, generation_name}
use Rattle.jname_core.specs.Grammar.{IsDotted}
use Rattle.group_core.specs.declared.entry.CatEntry.{CatEntry}
use Rattle.group_core.specs.declared.entry.CatEntry.TheVariants.{Volume, Group}
use Rattle.group_core.specs.declared.group.Generation.{Generation}
use Rattle.group_core.specs.declared.group.GroupFault.{GroupFault}
use Rattle.group_core.specs.declared.group.GroupFault.TheVariants as refused
use Rattle.group_core.specs.Entries.{group_in}
use Rattle.group_core.specs.Groups.{GroupState, IsFalling, checked, newest_of, number_or_fault, resolved}
use Rattle.group_core.proofs.Falls.{number_in_range}
use Rattle.jcl_plan.specs.declared.fault.Fault.TheVariants.{F5}
use Rattle.jcl_plan.specs.declared.plan.DdKind.{DdKind}
use Rattle.jcl_plan.specs.declared.plan.DdKind.TheVariants.{Sysout, Dummy, Cards, Set}
use Rattle.jcl_plan.specs.declared.plan.DdPlan.{DdPlan}
use Rattle.jcl_plan.specs.declared.plan.JobPlan.{JobPlan}
use Rattle.jcl_plan.specs.declared.plan.StepPlan.{StepPlan}
use Rattle.jcl_plan.specs.declared.plan.VolumePlan.{VolumePlan}
use Rattle.jcl_plan.specs.declared.plan.VolumePlan.TheVariants.{NotCoded, Serial, OfName, OfDd}
use Rattle.jcl_meaning.specs.declared.names.HeldName.{HeldName}
use Rattle.jcl_meaning.specs.declared.program.Move.{Move}
use Rattle.jcl_meaning.specs.declared.program.SoloProgram.{SoloProgram}
use Rattle.jcl_meaning.specs.declared.state.KeyMeaning.{KeyMeaning}
use Rattle.jcl_meaning.specs.declared.state.Resolution.{Resolution}
use Rattle.jcl_meaning.specs.declared.state.Resolution.TheVariants.{Fails, Means}
use Rattle.jcl_meaning.specs.Agendas.{Action, agenda, disposes_from, left_by, lefts_from, lefts_in, moves_from, step_actions, steps_from, takes_from}
use Rattle.jcl_meaning.specs.Names.{dd_names, held, held_under, names_of, set_names, volume_names, wanted_by, wants_alone}
use Rattle.jcl_meaning.specs.Parts.{is_alone, is_among}
use Rattle.jcl_meaning.specs.Plans.{passes}
use Rattle.jcl_meaning.specs.Programs.{moves_of}
use Rattle.jcl_meaning.specs.Resolutions.{meaning_at, meaning_of_dd, meanings_from, meanings_in, meanings_of}
use Rattle.jcl_meaning.specs.Solo.{nothing_own}
use Rattle.jcl_meaning.specs.Stores.{Store, by_group, by_number, resolution_of}
use Rattle.jcl_meaning.specs.WellFormed.{IsDdKind, IsEntry, IsKey, IsStep, IsWellFormedPlan, IsWellFormedStore}
use Rattle.part_laws.specs.Keeping.{HasSoundGroups}
use Rattle.part_laws.specs.Fits.{Fits, IsDdHeld, IsRest, IsVolumeHeld, sees_alone, sees_set}
use Rattle.part_laws.proofs.Generations.{generation_base}
use Rattle.part_laws.proofs.SameReads.{group_there}
use Rattle.part_laws.proofs.Wanted.{AreHeld, all_held, held_behind, held_front, one_held}

-- all that the DDs of a step, and of steps, name is held
abbrev DdsHeld : List HeldName → List KeyMeaning → ℕ → ℕ → List DdPlan → Type 0
DdsHeld names meanings n dd [] = Unit {0}
DdsHeld names meanings n dd (d ∷ ds) = IsDdHeld names meanings n dd d.kind × DdsHeld names meanings n (dd + 1) ds

abbrev StepsHeld : List HeldName → List KeyMeaning → ℕ → List StepPlan → Type 0
StepsHeld names meanings n [] = Unit {0}
StepsHeld names meanings n (step ∷ steps) = DdsHeld names meanings n 1 step.dds × StepsHeld names meanings (n + 1) steps

-- then an agenda is in order
get_behind : (xs : List DdPlan) (d : DdPlan) (ys : List DdPlan) → slice_get (xs ++ d ∷ ys) (length xs) ≡ Some d
get_behind [] d ys = refl
get_behind (x ∷ xs) d ys = get_behind xs d ys

module _ (names : List HeldName) (meanings : List KeyMeaning) where
  disposes_rest : (n dd : ℕ) (all done ds : List DdPlan) (more : List Action) → all ≡ done ++ ds → dd ≡ length done + 1 → IsRest names meanings n all more →
      IsRest names meanings n all (disposes_from n dd ds ++ more)
  disposes_rest n dd all done [] more e k rest = rest
  disposes_rest n dd all done (d ∷ ds) more e k rest =
      let at : dd - 1 ≡ length done = omega arith in
      let next : dd + 1 ≡ length (done ++ d ∷ []) + 1 = omega (arith, length-append done (d ∷ [])) in (
        refl,
        omega arith,
        (λ i. slice_get (e i) (at i)) ∙ get_behind done d ds,
        disposes_rest n (dd + 1) all (done ++ d ∷ []) ds more (e ∙ sym (append_assoc done (d ∷ []) ds)) next rest,
      )

  moves_rest : (n : ℕ) (step : StepPlan) (ms : List Move) (ends more : List Action) → IsRest names meanings n step.dds (ends ++ more) →
      IsRest names meanings n step.dds ((moves_from step ms ++ ends) ++ more)
  moves_rest n step [] ends more rest = rest
  moves_rest n step (m ∷ ms) ends more rest = (refl, moves_rest n step ms ends more rest)

  takes_rest : (n dd : ℕ) (all done ds : List DdPlan) (ends more : List Action) → all ≡ done ++ ds → dd ≡ length done + 1 → DdsHeld names meanings n dd ds →
      IsRest names meanings n all (ends ++ more) → IsRest names meanings n done ((takes_from n dd ds ++ ends) ++ more)
  takes_rest n dd all done [] ends more e k held rest =
      subst (λ (ds : List DdPlan). IsRest names meanings n ds (ends ++ more)) (e ∙ append-nil done) rest
  takes_rest n dd all done (d ∷ ds) ends more e k held rest =
      let next : dd + 1 ≡ length (done ++ d ∷ []) + 1 = omega (arith, length-append done (d ∷ [])) in
      (refl, k, held.0, takes_rest n (dd + 1) all (done ++ d ∷ []) ds ends more (e ∙ sym (append_assoc done (d ∷ []) ds)) next held.1 rest)

  -- what comes behind all steps is in order at any place
  abbrev IsLast : List Action → Type 0
  IsLast more = (n : ℕ) (dds : List DdPlan) → IsRest names meanings n dds more

  step_rest : (n m : ℕ) (dds : List DdPlan) (step : StepPlan) (ms : List Move) (more : List Action) → DdsHeld names meanings n 1 step.dds → IsLast more →
      IsRest names meanings m dds (step_actions n step ms ++ more)
  step_rest n m dds step ms more held last =
      takes_rest n 1 step.dds [] step.dds (moves_from step ms ++ (Action.Finish n ∷ disposes_from n 1 step.dds)) more refl refl held
      (moves_rest n step ms (Action.Finish n ∷ disposes_from n 1 step.dds) more
      (disposes_rest n 1 step.dds [] step.dds more refl refl (last n step.dds)))

  steps_rest : (moves : List ℕ → List Move) (n : ℕ) (steps : List StepPlan) (more : List Action) → StepsHeld names meanings n steps → IsLast more →
      IsLast (steps_from moves n steps ++ more)
  steps_rest moves n [] more held last = last
  steps_rest moves n (step ∷ steps) more held last = λ m dds.
      subst (IsRest names meanings m dds) (sym (append_assoc (step_actions n step (moves step.program)) (steps_from moves (n + 1) steps) more))
      (step_rest n m dds step (moves step.program) (steps_from moves (n + 1) steps ++ more) held.0 (steps_rest moves (n + 1) steps more held.1 last))

  left_rest : (b : Bool) (n dd : ℕ) (d : DdPlan) (more : List Action) → IsDdHeld names meanings n dd d.kind → IsLast more →
      IsLast (cond b (Action.Left n dd d ∷ []) [] ++ more)
  left_rest true n dd d more held last = λ m dds. (held, last m dds)
  left_rest false n dd d more held last = last

  lefts_in_rest : (n dd : ℕ) (ds : List DdPlan) (more : List Action) → DdsHeld names meanings n dd ds → IsLast more → IsLast (lefts_in n dd ds ++ more)
  lefts_in_rest n dd [] more held last = last
  lefts_in_rest n dd (d ∷ ds) more held last = λ m dds.
      subst (IsRest names meanings m dds) (sym (append_assoc (left_by n dd d) (lefts_in n (dd + 1) ds) more))
      (left_rest (passes d.kind) n dd d (lefts_in n (dd + 1) ds ++ more) held.0 (lefts_in_rest n (dd + 1) ds more held.1 last) m dds)

  lefts_rest : (n : ℕ) (steps : List StepPlan) (more : List Action) → StepsHeld names meanings n steps → IsLast more → IsLast (lefts_from n steps ++ more)
  lefts_rest n [] more held last = last
  lefts_rest n (step ∷ steps) more held last = λ m dds.
      subst (IsRest names meanings m dds) (sym (append_assoc (lefts_in n 1 step.dds) (lefts_from (n + 1) steps) more))
      (lefts_in_rest n 1 step.dds (lefts_from (n + 1) steps ++ more) held.0 (lefts_rest (n + 1) steps more held.1 last) m dds)

  agenda_rest : (plan : JobPlan) (programs : List SoloProgram) → StepsHeld names meanings 1 plan.steps → IsLast (agenda plan programs)
  agenda_rest plan programs held =
      steps_rest (moves_of programs) 1 plan.steps (lefts_from 1 plan.steps ++ (Action.Over ∷ [])) held
      (lefts_rest 1 plan.steps (Action.Over ∷ []) held (λ n dds. tt))

-- what the list of meanings says of each DD is what its key means
abbrev IsMeantBy : (ℕ → ℕ → Resolution) → Store → ℕ → ℕ → DdKind → Type 0
IsMeantBy look s n dd (Sysout class) = Unit {0}
IsMeantBy look s n dd Dummy = Unit {0}
IsMeantBy look s n dd (Cards cards) = Unit {0}
IsMeantBy look s n dd (Set p) = look n dd ≡ resolution_of s p.key

abbrev DdsMeant : (ℕ → ℕ → Resolution) → Store → ℕ → ℕ → List DdPlan → Type 0
DdsMeant look s n dd [] = Unit {0}
DdsMeant look s n dd (d ∷ ds) = IsMeantBy look s n dd d.kind × DdsMeant look s n (dd + 1) ds

abbrev StepsMeant : (ℕ → ℕ → Resolution) → Store → ℕ → List StepPlan → Type 0
StepsMeant look s n [] = Unit {0}
StepsMeant look s n (step ∷ steps) = DdsMeant look s n 1 step.dds × StepsMeant look s (n + 1) steps

module _ (s : Store) where
  one_meant_by : (look other : ℕ → ℕ → Resolution) (n dd : ℕ) (kind : DdKind) → look n dd ≡ other n dd → IsMeantBy other s n dd kind →
      IsMeantBy look s n dd kind
  one_meant_by look other n dd (Sysout class) e h = tt
  one_meant_by look other n dd Dummy e h = tt
  one_meant_by look other n dd (Cards cards) e h = tt
  one_meant_by look other n dd (Set p) e h = e ∙ h

  dds_meant_by : (look other : ℕ → ℕ → Resolution) (n dd : ℕ) (ds : List DdPlan) → ((k : ℕ) → dd ≤ k → look n k ≡ other n k) → DdsMeant other s n dd ds →
      DdsMeant look s n dd ds
  dds_meant_by look other n dd [] e h = tt
  dds_meant_by look other n dd (d ∷ ds) e h =
      (one_meant_by look other n dd d.kind (e dd (omega arith)) h.0, dds_meant_by look other n (dd + 1) ds (λ k le. e k (omega arith)) h.1)

  steps_meant_by : (look other : ℕ → ℕ → Resolution) (n : ℕ) (steps : List StepPlan) → ((m k : ℕ) → n ≤ m → look m k ≡ other m k) →
      StepsMeant other s n steps → StepsMeant look s n steps
  steps_meant_by look other n [] e h = tt
  steps_meant_by look other n (step ∷ steps) e h =
      (dds_meant_by look other n 1 step.dds (λ k le. e n k (omega arith)) h.0, steps_meant_by look other (n + 1) steps (λ m k le. e m k (omega arith)) h.1)

  -- another DD, or one of another step, is passed over
  other_dd : (n dd k : ℕ) (kind : DdKind) (rest : List KeyMeaning) → dd < k → meaning_at (meaning_of_dd s n dd kind ++ rest) n k ≡ meaning_at rest n k
  other_dd n dd k (Sysout class) rest lt = refl
  other_dd n dd k Dummy rest lt = refl
  other_dd n dd k (Cards cards) rest lt = refl
  other_dd n dd k (Set p) rest lt =
      cond-false (n == n && dd == k) (resolution_of s p.key) (meaning_at rest n k) (and_right (n == n) (dd == k) (ne_eqb dd k (λ e. omega (arith, e, lt))))

  other_step : (n m dd k : ℕ) (kind : DdKind) (rest : List KeyMeaning) → n < m → meaning_at (meaning_of_dd s n dd kind ++ rest) m k ≡ meaning_at rest m k
  other_step n m dd k (Sysout class) rest lt = refl
  other_step n m dd k Dummy rest lt = refl
  other_step n m dd k (Cards cards) rest lt = refl
  other_step n m dd k (Set p) rest lt =
      cond-false (n == m && dd == k) (resolution_of s p.key) (meaning_at rest m k) (and_left (n == m) (dd == k) (ne_eqb n m (λ e. omega (arith, e, lt))))

  other_steps : (n m dd k : ℕ) (ds : List DdPlan) (rest : List KeyMeaning) → n < m → meaning_at (meanings_in s n dd ds ++ rest) m k ≡ meaning_at rest m k
  other_steps n m dd k [] rest lt = refl
  other_steps n m dd k (d ∷ ds) rest lt =
      ap (λ (ms : List KeyMeaning). meaning_at ms m k) (append_assoc (meaning_of_dd s n dd d.kind) (meanings_in s n (dd + 1) ds) rest)
      ∙ other_step n m dd k d.kind (meanings_in s n (dd + 1) ds ++ rest) lt ∙ other_steps n m (dd + 1) k ds rest lt

  here_meant : (n dd : ℕ) (kind : DdKind) (rest : List KeyMeaning) → IsMeantBy (meaning_at (meaning_of_dd s n dd kind ++ rest)) s n dd kind
  here_meant n dd (Sysout class) rest = tt
  here_meant n dd Dummy rest = tt
  here_meant n dd (Cards cards) rest = tt
  here_meant n dd (Set p) rest =
      cond-true (n == n && dd == dd) (resolution_of s p.key) (meaning_at rest n dd) (and_from (n == n) (dd == dd) (eq-eqb n n refl) (eq-eqb dd dd refl))

  dds_meant : (n dd : ℕ) (ds : List DdPlan) (rest : List KeyMeaning) → DdsMeant (meaning_at (meanings_in s n dd ds ++ rest)) s n dd ds
  dds_meant n dd [] rest = tt
  dds_meant n dd (d ∷ ds) rest =
      let e : (meaning_of_dd s n dd d.kind ++ meanings_in s n (dd + 1) ds) ++ rest ≡ meaning_of_dd s n dd d.kind ++ (meanings_in s n (dd + 1) ds ++ rest)
      = append_assoc (meaning_of_dd s n dd d.kind) (meanings_in s n (dd + 1) ds) rest in (
        subst (λ (ms : List KeyMeaning). IsMeantBy (meaning_at ms) s n dd d.kind) (sym e) (here_meant n dd d.kind (meanings_in s n (dd + 1) ds ++ rest)),
        dds_meant_by (meaning_at ((meaning_of_dd s n dd d.kind ++ meanings_in s n (dd + 1) ds) ++ rest))
            (meaning_at (meanings_in s n (dd + 1) ds ++ rest)) n (dd + 1) ds
            (λ k le. ap (λ (ms : List KeyMeaning). meaning_at ms n k) e ∙ other_dd n dd k d.kind (meanings_in s n (dd + 1) ds ++ rest) (omega arith))
            (dds_meant n (dd + 1) ds rest),
      )

  steps_meant : (n : ℕ) (steps : List StepPlan) → StepsMeant (meaning_at (meanings_from s n steps)) s n steps
  steps_meant n [] = tt
  steps_meant n (step ∷ steps) = (
    dds_meant n 1 step.dds (meanings_from s (n + 1) steps),
    steps_meant_by (meaning_at (meanings_in s n 1 step.dds ++ meanings_from s (n + 1) steps)) (meaning_at (meanings_from s (n + 1) steps)) (n + 1) steps
        (λ m k le. other_steps n m 1 k step.dds (meanings_from s (n + 1) steps) (omega arith))
        (steps_meant (n + 1) steps),
  )

-- a relative number means a generation of its base, of four digits
some_number : (gs : List Generation) (i n : ℕ) (g : Option Generation) → slice_get gs i ≡ g → IsFalling 10000 gs → number_or_fault g ≡ Ok n → n ≤ 9999
some_number gs i n None e f h = absurd cc
some_number gs i n (Some g) e f h =
    let same : g.number ≡ n = cc in
    let range : (0 < g.number) × (g.number < 10000) = number_in_range 10000 gs i g f e in
    omega (arith, range.1, same)

checked_number : (b : Bool) (number n : ℕ) → nat_le number 9999 ≡ b → ◌≡◌ {A = Result ℕ GroupFault} (cond b (Ok number) (Err refused.TooHigh)) (Ok n) → n ≤ 9999
checked_number true number n le h =
    let same : number ≡ n = cc in
    omega (arith, leb-true number 9999 le, same)
checked_number false number n le h = absurd cc

plus_number : (b : Bool) (gs : List Generation) (amount n : ℕ) → IsFalling 10000 gs →
    cond b (number_or_fault (slice_get gs 0)) (checked (newest_of gs + amount)) ≡ Ok n → n ≤ 9999
plus_number true gs amount n f h = some_number gs 0 n (slice_get gs 0) refl f h
plus_number false gs amount n f h = checked_number (nat_le (newest_of gs + amount) 9999) (newest_of gs + amount) n refl h

resolved_number : (gs : List Generation) (sign : Sign) (amount n : ℕ) → IsFalling 10000 gs → resolved gs sign amount ≡ Ok n → n ≤ 9999
resolved_number gs Plus amount n f h = plus_number (amount == 0) gs amount n f h
resolved_number gs Minus amount n f h = some_number gs amount n (slice_get gs amount) refl f h

-- a key that a number means is this generation
abbrev IsGenerationOf : List ℕ → Key → Type 0
IsGenerationOf base key = (n : ℕ) × (n ≤ 9999) × (Named (generation_name base n) ≡ key)

number_means : (base : List ℕ) (r : Result ℕ GroupFault) (key : Key) → ((n : ℕ) → r ≡ Ok n → n ≤ 9999) → by_number base r ≡ Means key → IsGenerationOf base key
number_means base (Ok n) key within e = (n, within n refl, cc)
number_means base (Err refused.TooHigh) key within e = absurd cc
number_means base (Err refused.NoGeneration) key within e = absurd cc
number_means base (Err refused.Elsewhere) key within e = absurd cc

group_means : (g : Option GroupState) (base : List ℕ) (sign : Sign) (amount : ℕ) (key : Key) → ((k : GroupState) → g ≡ Some k → IsFalling 10000 k.generations) →
    by_group g base sign amount ≡ Means key → IsGenerationOf base key
group_means None base sign amount key falls e = absurd cc
group_means (Some g) base sign amount key falls e =
    number_means base (resolved g.generations sign amount) key (λ n is. resolved_number g.generations sign amount n (falls g refl) is) e

if_short : (b : Bool) (r : Resolution) (key : Key) → cond b r (Fails F5) ≡ Means key → r ≡ Means key
if_short true r key e = e
if_short false r key e = absurd cc

not_empty : (base : List ℕ) → IsDotted 44 base → 0 < length base
not_empty [] h = absurd h.joined.0
not_empty (c ∷ cs) h = omega arith

-- what a key means is held as the key is
module _ (names : List HeldName) (s : Store) (sound : HasSoundGroups s) (alone : Bool) where
  abbrev IsHeldAs : Key → Type 0
  IsHeldAs key = (sees_set names key ≡ true) × (alone ≡ true → sees_alone names key ≡ true)

  generation_held : (base : List ℕ) (key : Key) → IsDotted 44 base → AreHeld names (held base alone ∷ []) → IsGenerationOf base key → IsHeldAs key
  generation_held base key dotted h of =
      let same : base ≡ base_of (generation_name base of.0) = sym (generation_base base of.0 (not_empty base dotted) of.1) in
      subst IsHeldAs of.2 (subst (λ (n : List ℕ). (is_among names n ≡ true) × (alone ≡ true → is_alone names n ≡ true)) same (one_held names base alone h))

  key_held : (k key : Key) → IsKey k → AreHeld names (set_names (held_under k) alone) → resolution_of s k ≡ Means key → IsHeldAs key
  key_held (Named name) key good h e =
      let same : Named name ≡ key = cc in
      subst IsHeldAs same (one_held names (base_of name) alone h)
  key_held (Relative base sign amount) key good h e =
      generation_held base key good h
      (group_means (group_in (s.catalog base)) base sign amount key (λ g is. sound base g (group_there (s.catalog base) g is))
      (if_short (nat_le (length base) 35) (by_group (group_in (s.catalog base)) base sign amount) key e))
  key_held (Temporary name) key good h e =
      let same : Temporary name ≡ key = cc in
      subst IsHeldAs same (refl, λ a. refl)
  key_held (Unnamed step dd) key good h e =
      let same : Unnamed step dd ≡ key = cc in
      subst IsHeldAs same (refl, λ a. refl)

volume_held : (names : List HeldName) (volume : VolumePlan) → AreHeld names (volume_names volume) → IsVolumeHeld names volume
volume_held names NotCoded h = tt
volume_held names (Serial serial) h = tt
volume_held names (OfName name) h = (one_held names (base_of name) false h).0
volume_held names (OfDd step dd) h = tt

module _ (names : List HeldName) (meanings : List KeyMeaning) (s : Store) (sound : HasSoundGroups s) where
  dd_held : (n dd : ℕ) (kind : DdKind) → IsDdKind kind → AreHeld names (dd_names kind) → IsMeantBy (meaning_at meanings) s n dd kind →
      IsDdHeld names meanings n dd kind
  dd_held n dd (Sysout class) good h meant = tt
  dd_held n dd Dummy good h meant = tt
  dd_held n dd (Cards cards) good h meant = tt
  dd_held n dd (Set p) good h meant =
      let key : AreHeld names (set_names (held_under p.key) (wants_alone p)) =
      held_front names (set_names (held_under p.key) (wants_alone p)) (volume_names p.volume) h in
      let volume : AreHeld names (volume_names p.volume) = held_behind names (set_names (held_under p.key) (wants_alone p)) (volume_names p.volume) h in
      record {
        key =
            λ k e. let it : IsHeldAs names s sound (wants_alone p) k =
            key_held names s sound (wants_alone p) p.key k good.0 key (sym meant ∙ e) in record { seen = it.0; alone = it.1 };
        volume = volume_held names p.volume volume;
      }

  dds_held : (n dd : ℕ) (ds : List DdPlan) → All (λ d. IsDdKind d.kind) ds → AreHeld names (flat_map (λ d. dd_names d.kind) ds) →
      DdsMeant (meaning_at meanings) s n dd ds → DdsHeld names meanings n dd ds
  dds_held n dd [] good h meant = tt
  dds_held n dd (d ∷ ds) good h meant = (
    dd_held n dd d.kind (All-head (λ x. IsDdKind x.kind) d ds good) (held_front names (dd_names d.kind) (flat_map (λ x. dd_names x.kind) ds) h) meant.0,
    dds_held n (dd + 1) ds (All-tail (λ x. IsDdKind x.kind) d ds good) (held_behind names (dd_names d.kind) (flat_map (λ x. dd_names x.kind) ds) h) meant.1,
  )

  steps_held : (n : ℕ) (steps : List StepPlan) → All IsStep steps → AreHeld names (wanted_by steps) → StepsMeant (meaning_at meanings) s n steps →
      StepsHeld names meanings n steps
  steps_held n [] good h meant = tt
  steps_held n (step ∷ steps) good h meant = (
    dds_held n 1 step.dds (All-head IsStep step steps good).dds (held_front names (flat_map (λ d. dd_names d.kind) step.dds) (wanted_by steps) h) meant.0,
    steps_held (n + 1) steps (All-tail IsStep step steps good) (held_behind names (flat_map (λ d. dd_names d.kind) step.dds) (wanted_by steps) h) meant.1,
  )

pub start_fits : (plan : JobPlan) (programs : List SoloProgram) (s : Store) → IsWellFormedPlan plan → HasSoundGroups s →
    Fits (names_of plan) (meanings_of s plan) (agenda plan programs) nothing_own
start_fits plan programs s good sound = record {
  step = 0;
  dds = [];
  ahead = agenda_rest (names_of plan) (meanings_of s plan) plan programs
      (steps_held (names_of plan) (meanings_of s plan) s sound 1 plan.steps good.steps (all_held plan) (steps_meant s 1 plan.steps)) 0 [];
  taken = λ e. absurd cc;
  passed = tt;
}

-- in a well-formed store each group is sound
entry_sound : (base : List ℕ) (entry : Option CatEntry) (g : GroupState) → IsEntry base entry → entry ≡ Some (Group g) → IsFalling 10000 g.generations
entry_sound base None g h e = absurd cc
entry_sound base (Some (Volume serial)) g h e = absurd cc
entry_sound base (Some (Group k)) g h e =
    let same : k ≡ g = cc in
    subst (λ (x : GroupState). IsFalling 10000 x.generations) same h.1.falling

pub sound_groups : (s : Store) → IsWellFormedStore s → HasSoundGroups s
sound_groups s h = λ base g e. entry_sound base (s.catalog base) g (h.entries base) e
