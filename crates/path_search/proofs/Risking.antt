-- The earliest stop is the earliest fault of the job.
use Rattle.std.proofs.Common.{◌≡◌, ◌⊎◌, inl, inr, ⊎_elim, ◌∷◌, ◌<◌, ◌≤◌, ◌+◌, ◌-◌, ◌∙◌, ◌++◌, List, [], length, drop, take, ℕ, zero, suc, Bool, true}
use Rattle.std.proofs.Common.{false, subst, sym, refl, ap, arith, map, Option, Some, None, length-append, append_assoc, lt-ltb, le-ltb, if◌then◌else◌}
use Rattle.std.specs.Prelude.{Contains, All, IfSome, nat_lt, slice_get}
use Rattle.std.specs.List.{filter_map}
use Rattle.std.proofs.lemmas.List.Elements.{All-append, All-map, All-nil, All-weaker, Contains-append_left, Contains-append_right, filter_map-append}
use Rattle.std.proofs.lemmas.Option.{slice_get_within}
use Rattle.jcl_plan.specs.declared.entry.JobLine.{JobLine}
use Rattle.jcl_plan.specs.declared.fault.Fault.{Fault}
use Rattle.jcl_plan.specs.declared.outcome.Abend.TheVariants.{User}
use Rattle.jcl_plan.specs.declared.outcome.Fate.{Fate}
use Rattle.jcl_plan.specs.declared.outcome.Fate.TheVariants as fate
use Rattle.jcl_plan.specs.declared.outcome.Outcome.{Outcome}
use Rattle.jcl_plan.specs.declared.outcome.Outcome.TheVariants as outcome
use Rattle.jcl_plan.specs.declared.plan.JobPlan.{JobPlan}
use Rattle.jcl_meaning.specs.Agendas.{path_agenda}
use Rattle.jcl_meaning.specs.History.{IsStepOutcome}
use Rattle.jcl_meaning.specs.Names.{names_of}
use Rattle.jcl_meaning.specs.Solo.{Met, Ran, nothing_own, run, solo_path_of}
use Rattle.jcl_meaning.specs.States.{Fixed}
use Rattle.jcl_meaning.specs.Stores.{Store}
use Rattle.jcl_meaning.specs.Views.{View, ran_to}
use Rattle.meaning_laws.specs.Laws.{behind, joined}
use Rattle.part_laws.specs.Fits.{Fits}
use Rattle.path_meaning.specs.Paths.{MeetsFault, fate_told, fault_place, fates_in, path_shown, shown_code, shown_of}
use Rattle.path_meaning.specs.Verdicts.{FewViewsUpTo, IsEarliest}
use Rattle.path_laws.specs.Paths.{before_part, part_ran}
use Rattle.view_domain.specs.Crossings.{IsStop}
use Rattle.path_laws.specs.PathParts.{path_part}
use Rattle.path_search.specs.declared.stops.Found.{Found}
use Rattle.path_search.specs.declared.trail.Link.{Link}
use Rattle.path_search.specs.declared.verdict.RiskReport.{RiskReport}
use Rattle.path_search.specs.Crossings.{AreStopsNoted, IsAlong, IsMet, IsOwnEnd, LeadsTo, NoneBefore}
use Rattle.path_search.specs.PathLaws.{PathLaws}
use Rattle.path_search.specs.Reached.{IsReached}
use Rattle.path_search.specs.Stops.{IsReport, own_end}
use Rattle.path_search.specs.Trails.{path_at}
use Rattle.path_search.proofs.Across.{drop_inside}
use Rattle.path_search.proofs.Along.{none_of, same_fates, shown_early, shown_push, whole, with_one}
use Rattle.path_search.proofs.PartPlaces.{all_of_part, at_place, before_next, part_runs_if_met, placed}
use Rattle.path_search.proofs.Reaching.{before_stop}

append_nil : {X : Type 0} (xs : List X) → xs ++ [] ≡ xs
append_nil [] = refl
append_nil (x ∷ xs) = ap (λ ys. x ∷ ys) (append_nil xs)

take_front : {X : Type 0} (n : ℕ) (xs ys : List X) → length xs ≡ n → take n (xs ++ ys) ≡ xs
take_front zero [] ys e = refl
take_front zero (x ∷ xs) ys e = absurd (omega arith)
take_front (suc n) [] ys e = absurd (omega arith)
take_front (suc n) (x ∷ xs) ys e = ap (λ zs. x ∷ zs) (take_front n xs ys (omega arith))

-- A path as it is up to before a part, the part, and what comes behind it.
record InWhole (fixed : Fixed) (plan : JobPlan) (store : Store) (k : ℕ) (outcomes : List Outcome) : Type 0 where
  late : List Met
  lines : List JobLine
  faults : (solo_path_of fixed plan store outcomes).faults
      ≡ (ran_to fixed plan store k outcomes).faults ++ (map (behind (before_part plan k)) (part_ran fixed plan store k outcomes).faults ++ late)
  told : (solo_path_of fixed plan store outcomes).lines ≡ (ran_to fixed plan store k outcomes).lines ++ ((part_ran fixed plan store k outcomes).lines ++ lines)
  after : All (λ m. before_part plan k + length (path_part plan k) ≤ m.place) late

own_shown : (o : Outcome) → IsOwnEnd o → shown_of fate.Run o ≡ o
own_shown o (inl e) = subst (λ (p : Outcome). shown_code p ≡ p) (sym e) refl
own_shown o (inr e) = subst (λ (p : Outcome). shown_code p ≡ p) (sym e) refl

own_within : (o : Outcome) → IsOwnEnd o → IsStepOutcome o
own_within o (inl e) = subst IsStepOutcome (sym e) (omega arith)
own_within o (inr e) = subst IsStepOutcome (sym e) tt

module _ (laws : PathLaws) (fixed : Fixed) (plan : JobPlan) (store : Store) (k : ℕ) (to_end : k ≤ length plan.steps)
    (job_tests : fixed.job_tests ≡ plan.tests.items)
    (fits : Fits (names_of plan) fixed.meanings (path_agenda plan) nothing_own) where
  in_whole : (outcomes : List Outcome) → (k < length plan.steps) ⊎ (k ≡ length plan.steps) → InWhole fixed plan store k outcomes
  in_whole outcomes (inl inside) =
      let begins = laws.begins fixed plan store (k + 1) outcomes in
      let ran = ran_to fixed plan store k outcomes in
      let part = part_ran fixed plan store k outcomes in
      let step = drop_inside k plan.steps inside in
      let next : before_part plan (k + 1) ≡ before_part plan k + length (path_part plan k) = before_next plan k step.0 step.1 step.2 in
      let is = whole laws fixed plan store k to_end job_tests fits outcomes inside in
      record {
        late = map (behind (before_part plan (k + 1))) begins.0.faults;
        lines = begins.0.lines;
        faults = ap (λ (r : Ran). r.faults) begins.1
            ∙ ap (λ (r : Ran). r.faults ++ map (behind (before_part plan (k + 1))) begins.0.faults) is
            ∙ append_assoc ran.faults (map (behind (before_part plan k)) part.faults) (map (behind (before_part plan (k + 1))) begins.0.faults);
        told = ap (λ (r : Ran). r.lines) begins.1 ∙ ap (λ (r : Ran). r.lines ++ begins.0.lines) is ∙ append_assoc ran.lines part.lines begins.0.lines;
        after = All-map (λ (m : Met). before_part plan k + length (path_part plan k) ≤ m.place) (behind (before_part plan (k + 1))) begins.0.faults
            (λ i d l. omega (arith, next));
      }
  in_whole outcomes (inr end) =
      let ran = ran_to fixed plan store k outcomes in
      let part = part_ran fixed plan store k outcomes in
      let ended : solo_path_of fixed plan store outcomes ≡ joined (before_part plan k) ran part =
      subst (λ (n : ℕ). solo_path_of fixed plan store outcomes ≡ joined (before_part plan n) (ran_to fixed plan store n outcomes)
      (part_ran fixed plan store n outcomes))
      (sym end) (laws.ends fixed plan store outcomes) in
      record {
        late = [];
        lines = [];
        faults = ap (λ (r : Ran). r.faults) ended
            ∙ ap (λ (fs : List Met). ran.faults ++ fs) (sym (append_nil (map (behind (before_part plan k)) part.faults)));
        told = ap (λ (r : Ran). r.lines) ended ∙ ap (λ (ls : List JobLine). ran.lines ++ ls) (sym (append_nil part.lines));
        after = All-nil _;
      }

  module _ (limit count : ℕ) (views : List View) (levels : List (List Link)) (places : List _)
      (reached : IsReached fixed plan store limit k views count levels places) (best : Option Found) (found : Found) (is : best ≡ Some found)
      (noted : AreStopsNoted fixed plan store k views count best) (report : RiskReport) (told : IsReport levels k found report) where
    met : IsMet fixed plan store k views found
    met = subst (λ (b : Option Found). IfSome b (IsMet fixed plan store k views)) is noted.met

    at_end : (k < length plan.steps) ⊎ (k ≡ length plan.steps)
    at_end = by k (length plan.steps) to_end
      where
        by : (m n : ℕ) → m ≤ n → (m < n) ⊎ (m ≡ n)
        by zero zero l = inr refl
        by zero (suc n) l = inl (omega arith)
        by (suc m) zero l = absurd (omega arith)
        by (suc m) (suc n) l = ⊎_elim (λ h. inl (omega arith)) (λ e. inr (ap suc e)) (by m n (omega arith))

    lead : LeadsTo fixed plan store k (path_at levels k found.parent) met.view
    lead = reached.leads found.parent met.view met.there

    none_before : (at : ℕ) → at ≡ found.stop.at → at < length (path_part plan k) → (outcomes : List Outcome) → All IsStepOutcome outcomes →
        All (λ m. before_part plan k + at ≤ m.place) (solo_path_of fixed plan store outcomes).faults
    none_before at same inside outcomes within =
        let w = in_whole outcomes at_end in
        let part = part_ran fixed plan store k outcomes in
        let clean = none_of (ran_to fixed plan store k outcomes).faults (reached.none_met outcomes within) in
        let stop : All (λ m. found.stop.at ≤ m.place) part.faults =
        subst (λ (b : Option Found). NoneBefore b part.faults) is
        (before_stop laws fixed plan store k to_end job_tests fits limit count views levels places reached best noted outcomes within) in
        subst (λ (fs : List Met). All (λ m. before_part plan k + at ≤ m.place) fs)
        (sym (w.faults ∙ ap (λ (fs : List Met). fs ++ (map (behind (before_part plan k)) part.faults ++ w.late)) clean))
        (All-append (λ (m : Met). before_part plan k + at ≤ m.place) (map (behind (before_part plan k)) part.faults) w.late
        (All-map (λ (m : Met). before_part plan k + at ≤ m.place) (behind (before_part plan k)) part.faults
        (All-weaker (λ (m : Met). found.stop.at ≤ m.place) (λ (m : Met). before_part plan k + at ≤ (behind (before_part plan k) m).place)
        (λ m l. omega (arith, same)) part.faults stop))
        (All-weaker (λ (m : Met). before_part plan k + length (path_part plan k) ≤ m.place) (λ (m : Met). before_part plan k + at ≤ m.place)
        (λ m l. omega (arith, inside)) w.late w.after))

    -- what the path shows
    module _ (stop : IsStop plan k found.stop (part_ran fixed plan store k (lead.outcomes ++ found.outcome ∷ [])).faults) where
      abbrev os : List Outcome
      os = lead.outcomes

      abbrev more : List Outcome
      more = lead.outcomes ++ found.outcome ∷ []

      abbrev fates : List Fate
      fates = fates_in (ran_to fixed plan store k lead.outcomes).lines

      abbrev part : Ran
      part = part_ran fixed plan store k (lead.outcomes ++ found.outcome ∷ [])

      fates_count : length fates ≡ k
      fates_count = laws.fates fixed plan store k lead.outcomes to_end lead.along.clean

      all_fates : (later : List Fate) × (fates_in (solo_path_of fixed plan store more).lines ≡ fates ++ (fates_in part.lines ++ later))
      all_fates =
          let w = in_whole more at_end in (
            fates_in w.lines,
            ap fates_in w.told
                ∙ filter_map-append fate_told (ran_to fixed plan store k more).lines (part.lines ++ w.lines)
                ∙ ap (λ (fs : List Fate). fs ++ fates_in (part.lines ++ w.lines))
                (same_fates laws fixed plan store k to_end job_tests fits met.view lead.outcomes found.outcome lead.count lead.along)
                ∙ ap (λ (fs : List Fate). fates ++ fs) (filter_map-append fate_told part.lines w.lines),
          )

      same_counts : length fates ≡ length lead.outcomes
      same_counts = fates_count ∙ sym lead.count

      path_is : report.path.items ≡ path_shown fates lead.outcomes ++ own_end k found
      path_is = told.path ∙ ap (λ (n : ℕ). path_at levels n found.parent ++ own_end k found) reached.deep
          ∙ ap (λ (ps : List Outcome). ps ++ own_end k found) lead.shown

      shown : (found.stop.ended ≡ k) ⊎ ((found.stop.ended ≡ k + 1) × (k < length plan.steps)) →
          report.path.items ≡ path_shown (take found.stop.ended (fates_in (solo_path_of fixed plan store more).lines)) more
      shown (inl e) =
          let whole_fates = all_fates in
          let front : take found.stop.ended (fates_in (solo_path_of fixed plan store more).lines) ≡ fates =
          ap (take found.stop.ended) whole_fates.1 ∙ take_front found.stop.ended fates (fates_in part.lines ++ whole_fates.0) (fates_count ∙ sym e) in
          let none : own_end k found ≡ [] =
          ap (λ (b : Bool). if b then found.outcome ∷ [] else []) (le-ltb k found.stop.ended (omega (arith, e))) in
          path_is ∙ ap (λ (ps : List Outcome). path_shown fates lead.outcomes ++ ps) none ∙ append_nil (path_shown fates lead.outcomes)
          ∙ sym (ap (λ (fs : List Fate). path_shown fs more) front ∙ shown_early fates lead.outcomes (found.outcome ∷ []) same_counts)
      shown (inr e) =
          let whole_fates = all_fates in
          let step = drop_inside k plan.steps e.1 in
          let runs = part_runs_if_met fixed plan k step.0 step.1 (ran_to fixed plan store k more).state _ stop.behind step.2 stop.first in
          let all : fates_in (solo_path_of fixed plan store more).lines ≡ (fates ++ fate.Run ∷ []) ++ (runs.0 ++ whole_fates.0) =
          whole_fates.1 ∙ ap (λ (fs : List Fate). fates ++ (fs ++ whole_fates.0)) runs.1
          ∙ sym (append_assoc fates (fate.Run ∷ []) (runs.0 ++ whole_fates.0)) in
          let long : length (fates ++ fate.Run ∷ []) ≡ found.stop.ended = length-append fates (fate.Run ∷ []) ∙ ap (λ n. n + 1) fates_count ∙ sym e.0 in
          let front : take found.stop.ended (fates_in (solo_path_of fixed plan store more).lines) ≡ fates ++ fate.Run ∷ [] =
          ap (take found.stop.ended) all ∙ take_front found.stop.ended (fates ++ fate.Run ∷ []) (runs.0 ++ whole_fates.0) long in
          let own : own_end k found ≡ found.outcome ∷ [] =
          ap (λ (b : Bool). if b then found.outcome ∷ [] else []) (lt-ltb k found.stop.ended (omega (arith, e.0))) in
          path_is ∙ ap (λ (ps : List Outcome). path_shown fates lead.outcomes ++ ps) own
          ∙ sym (ap (λ (fs : List Fate). path_shown fs more) front ∙ shown_push fates lead.outcomes fate.Run found.outcome same_counts
          ∙ ap (λ (o : Outcome). path_shown fates lead.outcomes ++ o ∷ []) (own_shown found.outcome met.own))

      first_met : Contains (solo_path_of fixed plan store more).faults (record { place = before_part plan k + found.stop.at; fault = found.stop.fault })
      first_met =
          let w = in_whole more at_end in
          let b = before_part plan k in
          subst (λ (fs : List Met). Contains fs (record { place = b + found.stop.at; fault = found.stop.fault })) (sym w.faults)
          (Contains-append_right (ran_to fixed plan store k more).faults (map (behind b) part.faults ++ w.late)
          (record { place = b + found.stop.at; fault = found.stop.fault })
          (Contains-append_left (map (behind b) part.faults) w.late (record { place = b + found.stop.at; fault = found.stop.fault })
          (subst (λ (fs : List Met). Contains (map (behind b) fs) (record { place = b + found.stop.at; fault = found.stop.fault })) (sym stop.first)
          (0, omega arith, refl))))

      earliest : IsEarliest fixed plan store limit report.fault report.step report.dd report.path.items
      earliest =
          let place = placed (length plan.steps) k stop.action (record { step = found.stop.step; dd = found.stop.dd; ended = found.stop.ended })
          (at_place _ (path_part plan k) found.stop.at stop.action (all_of_part plan k to_end) stop.due) stop.at in
          record {
            meets = record {
              outcomes = more;
              within = (with_one laws fixed plan store k to_end job_tests fits met.view lead.outcomes found.outcome lead.count lead.along
                  (own_within found.outcome met.own)).within;
              place = before_part plan k + found.stop.at;
              action = stop.action;
              due = laws.agenda plan k found.stop.at stop.action to_end stop.due;
              ended = found.stop.ended;
              at = subst (λ (n : ℕ). fault_place (length plan.steps) stop.action ≡ Some
                  (record { step = n; dd = report.dd; ended = found.stop.ended })) (sym told.step)
                  (subst (λ (n : ℕ). fault_place (length plan.steps) stop.action ≡ Some
                  (record { step = found.stop.step; dd = n; ended = found.stop.ended })) (sym told.dd) stop.at);
              met = subst (λ (f : Fault). Contains (solo_path_of fixed plan store more).faults
                  (record { place = before_part plan k + found.stop.at; fault = f })) (sym told.fault) first_met;
              shown = shown place.1;
            };
            none_before = none_before found.stop.at refl (slice_get_within (path_part plan k) found.stop.at stop.action stop.due);
            few = subst (λ (n : ℕ). FewViewsUpTo fixed plan store limit n) (sym place.0) reached.few;
          }

    pub is_earliest : IsEarliest fixed plan store limit report.fault report.step report.dd report.path.items
    is_earliest = earliest (met.stops lead.outcomes lead.along lead.count)
