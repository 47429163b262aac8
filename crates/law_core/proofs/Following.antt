-- An assured job, event by event: its lines are those of turns that go on where the one before ended.
use Rattle.std.proofs.Common.{◌≡◌, ◌≤◌, ◌++◌, ℕ, Bool, true, false, List, [], ◌∷◌, drop, length, Some, refl, sym, ap, ◌∙◌, subst, leb-true}
use Rattle.std.specs.Prelude.{◌||◌, nat_le}
use Rattle.std.specs.List.{list_any}
use Rattle.std.proofs.lemmas.Bool.{or_parts}
use Rattle.std.proofs.lemmas.List.Folds.{list_any-append}
use Rattle.jcl_plan.specs.declared.entry.Entry.{Entry}
use Rattle.jcl_plan.specs.declared.entry.JobLine.{JobLine}
use Rattle.jcl_plan.specs.declared.plan.JobPlan.{JobPlan}
use Rattle.jcl_meaning.specs.declared.program.SoloProgram.{SoloProgram}
use Rattle.jcl_meaning.specs.declared.state.Own.{Own}
use Rattle.jcl_meaning.specs.Agendas.{agenda}
use Rattle.jcl_meaning.specs.Names.{names_of}
use Rattle.jcl_meaning.specs.Parts.{SamePart}
use Rattle.jcl_meaning.specs.States.{Fixed}
use Rattle.jcl_meaning.specs.Stores.{Store}
use Rattle.meaning_laws.proofs.Parts.{part_along}
use Rattle.world_meaning.specs.declared.event.Event.{Event}
use Rattle.world_meaning.specs.Headlines.{is_end, lines_of}
use Rattle.world_meaning.specs.Lenses.{seen}
use Rattle.world_meaning.specs.Readings.{Denoting}
use Rattle.world_meaning.specs.Transitions.{Runs}
use Rattle.world_meaning.specs.Turns.{Advanced, advance, answers_due, has_cancel, is_over, state_in}
use Rattle.world_meaning.specs.Worlds.{Admission, Admitted, Config, Running, World}
use Rattle.world_laws.specs.JobTurns.{AreTurns, Turn, done_behind, lines_in}
use Rattle.world_laws.proofs.Effects.{changes}
use Rattle.law_core.specs.Soundness.{IsSound, RunsAt}
use Rattle.law_core.proofs.Gone.{heard_first, stays_silent}
use Rattle.law_core.proofs.NextTurns.{Then, Turns_to, next, over, stays, turned}
use Rattle.law_core.proofs.Over.{advance_stands, goes_plain}
use Rattle.law_core.proofs.PlainLines.{is_of_admission, is_special}
use Rattle.law_core.proofs.Sound.{sound_behind}
use Rattle.law_core.proofs.Voices.{heard}

-- the turns that a job's lines are
pub record Turned (programs : List SoloProgram) (plan : JobPlan) (fixed : Fixed) (s : Store) (count : ℕ) (own : Own) (lines : List JobLine) : Type 0 where
  pub turns : List Turn
  pub are : AreTurns programs plan fixed s count own turns
  pub told : lines ≡ lines_in turns
  pub whole : list_any is_end lines ≡ true → length (agenda plan programs) ≤ done_behind count turns

-- lines that hold neither END nor ASSURED
no_end : (lines : List JobLine) → list_any is_special lines ≡ false → list_any is_end lines ≡ false
no_end [] h = refl
no_end (l ∷ lines) h =
    let both : (is_special l ≡ false) × (list_any is_special lines ≡ false) = or_parts (is_special l) (list_any is_special lines) h in
    λ i. (or_parts (is_end l) (is_of_admission l) both.0).0 i || no_end lines both.1 i

abbrev Turns_by : List SoloProgram → JobPlan → Fixed → Turn → ℕ → Own → Type 0
Turns_by programs plan fixed t count own =
    advance (answers_due programs plan.steps (record { cancel = t.cancel; growth = t.growth; primary = true })) fixed (drop count (agenda plan programs))
    (state_in t.store own) count ≡ Some t.did

module _ (programs : List SoloProgram) (plan : JobPlan) (fixed : Fixed) where
  -- no turn
  nothing : (s : Store) (count : ℕ) (own : Own) → Turned programs plan fixed s count own []
  nothing s count own = record { turns = []; are = tt; told = refl; whole = λ h. absurd cc }

  -- a turn that is none of the job's, and then some
  skipped : (s t : Store) (count : ℕ) (own : Own) (lines : List JobLine) → SamePart (names_of plan) s t → Turned programs plan fixed t count own lines →
      Turned programs plan fixed s count own lines
  skipped s t count own lines same later = by_turns later.turns later.are later.told later.whole
    where
      by_turns : (turns : List Turn) → AreTurns programs plan fixed t count own turns → lines ≡ lines_in turns →
          (list_any is_end lines ≡ true → length (agenda plan programs) ≤ done_behind count turns) → Turned programs plan fixed s count own lines
      by_turns [] are told whole = record { turns = []; are = tt; told = told; whole = whole }
      by_turns (turn ∷ turns) are told whole = record {
        turns = turn ∷ turns;
        are = (part_along (names_of plan) s t turn.store same are.0, are.1, are.2);
        told = told;
        whole = whole;
      }

  -- a turn behind which the job goes on
  followed : (s : Store) (count : ℕ) (own : Own) (turn : Turn) (later : List JobLine) → SamePart (names_of plan) s turn.store →
      Turns_by programs plan fixed turn count own → list_any is_end turn.did.done.lines ≡ false →
      Turned programs plan fixed turn.did.done.state.store turn.did.count turn.did.done.state.own later →
      Turned programs plan fixed s count own (turn.did.done.lines ++ later)
  followed s count own turn later same goes plain rest = record {
    turns = turn ∷ rest.turns;
    are = (same, goes, rest.are);
    told = ap (λ (ls : List JobLine). turn.did.done.lines ++ ls) rest.told;
    whole = λ h. rest.whole (sym (list_any-append is_end turn.did.done.lines later ∙ (λ i. plain i || list_any is_end later)) ∙ h);
  }

  -- its last turn
  ended : (s : Store) (count : ℕ) (own : Own) (turn : Turn) → SamePart (names_of plan) s turn.store → Turns_by programs plan fixed turn count own →
      nat_le (length (agenda plan programs)) turn.did.count ≡ true → Turned programs plan fixed s count own (turn.did.done.lines ++ [])
  ended s count own turn same goes last = record {
    turns = turn ∷ [];
    are = (same, goes, tt);
    told = refl;
    whole = λ h. leb-true (length (agenda plan programs)) turn.did.count last;
  }

  -- what the machine says of a turn is what a turn is
  plain_turn : (turn : Turn) (count : ℕ) (own : Own) → Turns_by programs plan fixed turn count own →
      nat_le (length (agenda plan programs)) turn.did.count ≡ false → list_any is_end turn.did.done.lines ≡ false
  plain_turn turn count own goes further =
      no_end turn.did.done.lines (goes_plain plan programs fixed turn.did
      (advance_stands (answers_due programs plan.steps (record { cancel = turn.cancel; growth = turn.growth; primary = true })) fixed (agenda plan programs)
      (drop count (agenda plan programs)) (state_in turn.store own) count turn.did refl goes) further)

-- the lines of an event that is heard so
heard_so : (job : ℕ) (lines : List Entry) (more : List (List Entry)) (ls : List JobLine) → heard job lines ≡ ls → lines_of job (lines ∷ more) ≡ ls ++ lines_of job more
heard_so job lines more ls h = heard_first job lines more ∙ ap (λ (xs : List JobLine). xs ++ lines_of job more) h

pub follow : (job_of : Denoting) (w end : World) (es : List Event) (told : List (List Entry)) (programs : List SoloProgram) (place : ℕ) (r : Running)
    (plan : JobPlan) (a : Admission) (count : ℕ) (own : Own) (s : Store) → w.config.programs ≡ programs → IsSound w → RunsAt w place r →
    r.stage ≡ Admitted plan a count own → a.assured ≡ true → SamePart (names_of plan) s (seen r.job w.shared.store) → Runs job_of w es told end →
    Turned programs plan a.fixed s count own (lines_of r.job told)
follow job_of w end [] [] programs place r plan a count own s same sound run stage assured part runs = nothing programs plan a.fixed s count own
follow job_of w end [] (lines ∷ more) programs place r plan a count own s same sound run stage assured part runs = absurd runs
follow job_of w end (e ∷ es) [] programs place r plan a count own s same sound run stage assured part runs = absurd runs
follow job_of w end (e ∷ es) (lines ∷ more) programs place r plan a count own s same sound run stage assured part runs =
    by_next (next job_of w runs.0 e lines sound place r run plan a count own stage runs.1 assured)
    (λ q n o v run_q stage_q part_q. follow job_of runs.0 end es more programs place q plan a n o v
    (ap (λ (c : Config). c.programs) (changes job_of w runs.0 e lines runs.1).config ∙ same)
    (sound_behind job_of w runs.0 e lines sound runs.1) run_q stage_q assured part_q runs.2)
  where
    turn_of : (x : Advanced) (growth : Bool) → Turn
    turn_of x growth = record { store = seen r.job w.shared.store; cancel = has_cancel w.shared.cancels r.job; growth = growth; did = x }

    with_programs : (x : Advanced) (growth : Bool) → Turns_to w.config w.shared r.job plan a count own growth x →
        Turns_by programs plan a.fixed (turn_of x growth) count own
    with_programs x growth is = subst (λ (p : List SoloProgram). Turns_by p plan a.fixed (turn_of x growth) count own) same is

    further : (x : Advanced) (b : Bool) → is_over w.config plan x ≡ b → nat_le (length (agenda plan programs)) x.count ≡ b
    further x b is = subst (λ (p : List SoloProgram). nat_le (length (agenda plan p)) x.count ≡ b) same is

    by_next : Then w runs.0 place r plan a count own lines →
        ((q : Running) (n : ℕ) (o : Own) (v : Store) → RunsAt runs.0 place q → q.stage ≡ Admitted plan a n o →
        SamePart (names_of plan) v (seen q.job runs.0.shared.store) → Turned programs plan a.fixed v n o (lines_of q.job more)) →
        Turned programs plan a.fixed s count own (lines_of r.job (lines ∷ more))
    by_next (stays still part_now silent) later =
        subst (Turned programs plan a.fixed s count own) (sym (heard_so r.job lines more [] silent))
        (later r count own s still stage (part_along (names_of plan) s (seen r.job w.shared.store) (seen r.job runs.0.shared.store) part part_now))
    by_next (turned x growth q is more_left run_q job stage_q part_q says) later =
        subst (Turned programs plan a.fixed s count own) (sym (heard_so r.job lines more x.done.lines says))
        (followed programs plan a.fixed s count own (turn_of x growth) (lines_of r.job more) part (with_programs x growth is)
        (plain_turn programs plan a.fixed (turn_of x growth) count own (with_programs x growth is) (further x false more_left))
        (subst (λ (n : ℕ). Turned programs plan a.fixed x.done.state.store x.count x.done.state.own (lines_of n more)) job
        (later q x.count x.done.state.own x.done.state.store run_q stage_q
        (subst (λ (n : ℕ). SamePart (names_of plan) x.done.state.store (seen n runs.0.shared.store)) (sym job) part_q))))
    by_next (over x growth is last gone says) later =
        subst (Turned programs plan a.fixed s count own)
        (sym (heard_so r.job lines more x.done.lines says
        ∙ ap (λ (ls : List JobLine). x.done.lines ++ ls) (stays_silent job_of runs.0 end es more r.job gone runs.2)))
        (ended programs plan a.fixed s count own (turn_of x growth) part (with_programs x growth is) (further x true last))
