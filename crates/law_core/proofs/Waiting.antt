-- What a turn that tells that a job waits leaves.
use Rattle.std.proofs.Common.{◌≡◌, ℕ, Bool, true, false, List, [], ◌∷◌, drop, Option, Some, None, refl, sym, ap, subst, ◌∙◌}
use Rattle.std.specs.Prelude.{◌||◌}
use Rattle.std.specs.List.{list_any}
use Rattle.std.proofs.lemmas.Bool.{both_ways, or_parts}
use Rattle.jcl_plan.specs.declared.entry.Entry.{Entry}
use Rattle.jcl_plan.specs.declared.entry.Entry.TheVariants as entry
use Rattle.jcl_plan.specs.declared.entry.JobLine.{JobLine}
use Rattle.jcl_plan.specs.declared.entry.JobLine.TheVariants as line
use Rattle.jcl_plan.specs.declared.plan.JobPlan.{JobPlan}
use Rattle.jcl_meaning.specs.declared.state.Own.{Own}
use Rattle.jcl_meaning.specs.Agendas.{agenda}
use Rattle.jcl_meaning.specs.States.{Fixed}
use Rattle.world_meaning.specs.declared.event.Event.TheVariants as event
use Rattle.world_meaning.specs.Admissions.{Answered, MayFail, assured, explained, fixed_at, no_space, refused, risk, risky, too_many}
use Rattle.world_meaning.specs.Holdings.{Holds, blocked, broken, held, read as reads_plan}
use Rattle.world_meaning.specs.Lenses.{seen}
use Rattle.world_meaning.specs.Readings.{Denoting}
use Rattle.world_meaning.specs.Records.{Reopened}
use Rattle.world_meaning.specs.Selections.{nothing, selected}
use Rattle.world_meaning.specs.Transitions.{Acts, GoesOn, Transition, Turns, acts, explained_by, past, taken, told_with, unknown}
use Rattle.world_meaning.specs.Turns.{Advances, acts as does_act, answers_due, ends, granting, state_in, waits}
use Rattle.world_meaning.specs.Worlds.{Admission, Admitted, Config, Initiator, IsAt, Named, Running, Selected, Shared, Stage, Wanting, World, counted, going_on, of_job, with_running}
use Rattle.law_core.specs.Waits.{IsAsFar, OnlyWaits, is_wait}
use Rattle.law_core.proofs.Over.{advance_stands, waitless}

module _ (job : ℕ) (wait : JobLine) (waits_for : is_wait wait ≡ true) where
  abbrev told : List Entry
  told = entry.Job job wait ∷ []

  -- lines of a job that are this one begin with it
  first_told : (other : ℕ) (l : JobLine) (lines path : List JobLine) → told_with other (l ∷ lines) path ≡ told → (other ≡ job) × (l ≡ wait)
  first_told other l lines [] e = (cc, cc)
  first_told other l lines (p ∷ path) e = (cc, cc)

  never : {A : Type 0} (l : JobLine) → is_wait l ≡ false → l ≡ wait → A
  never l plain is = absurd (both_ways (is_wait l) plain (ap is_wait is ∙ waits_for))

  none_told : (other : ℕ) (lines : List JobLine) → list_any is_wait lines ≡ false → told_with other lines [] ≡ told → ⊥
  none_told other [] h e = absurd cc
  none_told other (l ∷ lines) h e = never l (or_parts (is_wait l) (list_any is_wait lines) h).0 (first_told other l lines [] e).1

  module _ (c : Config) (s : Shared) (r : Running) (lines : List JobLine) (new : Shared) (runs : Option Running) where
    record Waited (stage : Stage) : Type 0 where
      its_own : r.job ≡ job
      after : Stage
      as_far : IsAsFar stage after
      same : new ≡ s
      on : runs ≡ going_on r (wait ∷ []) after

    begins : (path : List JobLine) (l : JobLine) (rest : List JobLine) → lines ≡ l ∷ rest → told_with r.job lines path ≡ told → (r.job ≡ job) × (l ≡ wait)
    begins path l rest is e = first_told r.job l rest path (ap (λ (xs : List JobLine). told_with r.job xs path) (sym is) ∙ e)

    waited : (stage after : Stage) (path : List JobLine) (l : JobLine) → IsAsFar stage after → lines ≡ l ∷ [] → new ≡ s → runs ≡ going_on r lines after →
        told_with r.job lines path ≡ told → Waited stage
    waited stage after path l as_far is same on e =
        let both = begins path l [] is e in
        record {
          its_own = both.0;
          after = after;
          as_far = as_far;
          same = same;
          on = on ∙ ap (λ (xs : List JobLine). going_on r xs after) (is ∙ ap (λ (x : JobLine). x ∷ []) both.1);
        }

    in_holds : (stage : Stage) (plan : JobPlan) → IsAsFar stage (Wanting plan) → Holds s r plan lines new runs → told_with r.job lines [] ≡ told → Waited stage
    in_holds stage plan as_far (held free is n on) e = never _ refl (begins [] _ [] is e).1
    in_holds stage plan as_far (blocked by first is n on) e = waited stage (Wanting plan) [] _ as_far is n on e

    in_failing : (plan : JobPlan) (fixed : Fixed) (l : JobLine) (path : List JobLine) → is_wait l ≡ false → MayFail c s r plan fixed l lines new runs →
        told_with r.job lines path ≡ told → Waited (Named plan)
    in_failing plan fixed l path plain (risky b is n on) e = never l plain (begins path l [] is e).1
    in_failing plan fixed l path plain (refused free b is n conserved on) e = never l plain (begins path l (line.Refused ∷ []) is e).1

    in_answer : (plan : JobPlan) (fixed : Fixed) (path : List JobLine) → Answered c s r plan fixed lines new runs → told_with r.job lines path ≡ told →
        Waited (Named plan)
    in_answer plan fixed path (assured places kept free safe are_made are others is n conserved on) e = never _ refl (begins path _ [] is e).1
    in_answer plan fixed path (no_space serial there is n on) e = waited (Named plan) (Named plan) path _ refl is n on e
    in_answer plan fixed path (risk fault step dd outcomes meets m) e = in_failing plan fixed _ path refl m e
    in_answer plan fixed path (too_many step low high views m) e = in_failing plan fixed _ path refl m e

    in_turn : (plan : JobPlan) (a : Admission) (count : ℕ) (own : Own) → Advances c s r plan a count own lines new runs → told_with r.job lines [] ≡ told →
        Waited (Admitted plan a count own)
    in_turn plan a count own (waits x growth primary is must none n on) e = absurd (none_told r.job lines (ap (list_any is_wait) none) e)
    in_turn plan a count own (does_act x growth primary free is grants further more its n conserved on) e =
        absurd (none_told r.job lines (ap (list_any is_wait) its ∙ waitless (agenda plan c.programs) a.fixed x
        (advance_stands (answers_due c.programs plan.steps (granting s r.job growth primary)) a.fixed (agenda plan c.programs)
        (drop count (agenda plan c.programs)) (state_in (seen r.job s.store) own) count x refl is)) e)
    in_turn plan a count own (ends x growth primary free is grants further last its n conserved on) e =
        absurd (none_told r.job lines (ap (list_any is_wait) its ∙ waitless (agenda plan c.programs) a.fixed x
        (advance_stands (answers_due c.programs plan.steps (granting s r.job growth primary)) a.fixed (agenda plan c.programs)
        (drop count (agenda plan c.programs)) (state_in (seen r.job s.store) own) count x refl is)) e)

    in_stage : (stage : Stage) (g : GoesOn c s r stage lines new runs) → told_with r.job lines (explained_by c s r stage lines new runs g) ≡ told → Waited stage
    in_stage (Selected first) (broken n free f is e conserved gone) t = never _ refl (begins [] _ [] is t).1
    in_stage (Selected first) (reads_plan plan rest denoted h) t = in_holds (Selected first) plan tt h t
    in_stage (Wanting plan) h t = in_holds (Wanting plan) plan refl h t
    in_stage (Named plan) g t =
        in_answer plan (fixed_at c s r.job plan g.places) (explained c.explains (fixed_at c s r.job plan g.places) plan (seen r.job s.store) lines) g.answers t
    in_stage (Admitted plan a count own) g t = in_turn plan a count own g t

  module _ (old mid new : World) where
    assembled : (place : ℕ) (x : Initiator) (r : Running) (shared : Shared) (runs : Option Running) (lines : List JobLine) → IsAt old place x → x.running ≡ Some r →
        mid ≡ record (counted old) { shared = shared; initiators = with_running old.initiators place x runs } →
        Waited old.config old.shared r lines shared runs r.stage → Reopened mid.config.layout mid.shared new.shared → new ≡ record mid { shared = new.shared } →
        OnlyWaits old job wait new
    assembled place x r shared runs lines at running is w reopened rest = record {
      place = place;
      it = x;
      runs = r;
      after = w.after;
      at = at;
      running = running;
      its_own = w.its_own;
      as_far = w.as_far;
      reopened = subst (λ (s : Shared). Reopened old.config.layout s new.shared) w.same
          (subst (λ (v : World). Reopened v.config.layout v.shared new.shared) is reopened);
      rest = rest ∙ ap (λ (v : World). record v { shared = new.shared }) is
          ∙ ap (λ (o : Option Running). record (counted old) { shared = new.shared; initiators = with_running old.initiators place x o }) w.on;
    }

    in_acts : (place : ℕ) (x : Initiator) (o : Option Running) → x.running ≡ o → IsAt old place x → Acts (counted old) place x o told mid →
        Reopened mid.config.layout mid.shared new.shared → new ≡ record mid { shared = new.shared } → OnlyWaits old job wait new
    in_acts place x None running at (nothing n is same) reopened rest = absurd cc
    in_acts place x None running at (selected v first is same) reopened rest = never (line.Selected x.number) refl (sym (its_line is))
      where
        its_line : told ≡ of_job v.job (line.Selected x.number ∷ []) → wait ≡ line.Selected x.number
        its_line e = cc
    in_acts place x (Some r) running at g reopened rest =
        assembled place x r g.shared g.runs g.job_lines at running g.leaves
        (in_stage old.config old.shared r g.job_lines g.shared g.runs r.stage g.goes (sym g.told)) reopened rest

    in_turns : (number : ℕ) → Turns (counted old) number told mid → Reopened mid.config.layout mid.shared new.shared → new ≡ record mid { shared = new.shared } →
        OnlyWaits old job wait new
    in_turns number (unknown absent is same) reopened rest = absurd cc
    in_turns number (acts place x at is a) reopened rest = in_acts place x x.running refl at a reopened rest

  pub only_waits : (job_of : Denoting) (old new : World) (number : ℕ) → Transition job_of old (event.Turn number) told new → OnlyWaits old job wait new
  only_waits job_of old new number (past more is same) = absurd cc
  only_waits job_of old new number (taken less h) = in_turns old h.middle new number h.does h.reopened h.rest
