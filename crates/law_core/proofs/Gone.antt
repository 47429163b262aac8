-- A job that is over stays so, and writes no more.
use Rattle.std.proofs.Common.{◌≡◌, ◌≢◌, ◌⊎◌, inl, inr, ◌≤◌, ◌+◌, ◌++◌, ◌==◌, arith, ℕ, List, [], ◌∷◌, Some, None, refl, sym, ap, ◌∙◌, subst}
use Rattle.std.specs.Prelude.{All, not}
use Rattle.std.specs.List.{flat_map}
use Rattle.std.proofs.lemmas.List.Elements.{All-contains, All-filter, All-push, filter_map-append}
use Rattle.jcl_plan.specs.declared.entry.Entry.{Entry}
use Rattle.world_meaning.specs.declared.event.Event.{Event}
use Rattle.world_meaning.specs.Headlines.{line_of, lines_of}
use Rattle.world_meaning.specs.Readings.{Denoting}
use Rattle.world_meaning.specs.Transitions.{Runs, Transition}
use Rattle.world_meaning.specs.Worlds.{Running, World}
use Rattle.law_core.specs.Soundness.{RunsAt}
use Rattle.law_core.proofs.Alone.{job_left}
use Rattle.law_core.proofs.Moves.{Moved, ended_early, enters, moved, picks, still, turn_left, turns, unqueued}
use Rattle.law_core.proofs.Places.{WasAt, here, runs_cases, runs_same, there}
use Rattle.law_core.proofs.Voices.{Voice, ends_early, has_turn, heard, is_read, voice, waits}

-- its number was given, and it neither waits nor has an initiator
pub record IsGone (w : World) (job : ℕ) : Type 0 where
  pub numbered : job ≤ w.jobs
  pub not_waiting : All (λ v. v.job ≢ job) w.waiting
  pub not_running : (place : ℕ) (r : Running) → RunsAt w place r → r.job ≢ job

module _ (old new : World) (job : ℕ) (g : IsGone old job) where
  more : (new.jobs ≡ old.jobs) ⊎ (new.jobs ≡ old.jobs + 1) → job ≤ new.jobs
  more (inl e) = let le : job ≤ old.jobs = g.numbered in omega (arith, e, le)
  more (inr e) = let le : job ≤ old.jobs = g.numbered in omega (arith, e, le)

  pub gone_stays : Moved old new → IsGone new job
  gone_stays (still i w j h) = record {
    numbered = more j;
    not_waiting = subst (All (λ v. v.job ≢ job)) (sym w) g.not_waiting;
    not_running = λ place r run. g.not_running place r (runs_same old new i place r run);
  }
  gone_stays (enters v is i w j h) = record {
    numbered = more (inr j);
    not_waiting = subst (All (λ v. v.job ≢ job)) (sym w) (All-push (λ v. v.job ≢ job) old.waiting v g.not_waiting
        (λ same. let le : job ≤ old.jobs = g.numbered in let no : ⊥ = omega (arith, is, same, le) in no));
    not_running = λ place r run. g.not_running place r (runs_same old new i place r run);
  }
  gone_stays (unqueued v contained i w j h) = record {
    numbered = more (inl j);
    not_waiting = subst (All (λ v. v.job ≢ job)) (sym w) (All-filter (λ y. not (y.job == v.job)) (λ v. v.job ≢ job) old.waiting g.not_waiting);
    not_running = λ place r run. g.not_running place r (runs_same old new i place r run);
  }
  gone_stays (picks at x v q is_at idle contained its no_names no_plan i w j h) = record {
    numbered = more (inl j);
    not_waiting = subst (All (λ v. v.job ≢ job)) (sym w) (All-filter (λ y. not (y.job == v.job)) (λ v. v.job ≢ job) old.waiting g.not_waiting);
    not_running = λ place r run. by_case place r (runs_cases old new at x (Some q) is_at i place r run);
  }
    where
      by_case : (place : ℕ) (r : Running) → WasAt old at (Some q) place r → r.job ≢ job
      by_case place r (here same e) =
          let one : q ≡ r = cc in
          λ is. All-contains (λ v. v.job ≢ job) old.waiting v g.not_waiting contained (sym its ∙ (ap (λ (z : Running). z.job) one ∙ is))
      by_case place r (there apart was) = g.not_running place r was
  gone_stays (turns at x q lines shared runs is_at running on i w j h s) = record {
    numbered = more (inl j);
    not_waiting = subst (All (λ v. v.job ≢ job)) (sym w) g.not_waiting;
    not_running = λ place r run. by_case place r (runs_cases old new at x runs is_at i place r run);
  }
    where
      by_case : (place : ℕ) (r : Running) → WasAt old at runs place r → r.job ≢ job
      by_case place r (here same e) = λ is. g.not_running at q (record { it = x; at = is_at; running = running })
          (sym (job_left old q shared runs (turn_left old.config old.shared q q.stage lines shared runs refl on) r e) ∙ is)
      by_case place r (there apart was) = g.not_running place r was
  gone_stays (ended_early at x q is_at running i w j h) = record {
    numbered = more (inl j);
    not_waiting = subst (All (λ v. v.job ≢ job)) (sym w) g.not_waiting;
    not_running = λ place r run. by_case place r (runs_cases old new at x None is_at i place r run);
  }
    where
      by_case : (place : ℕ) (r : Running) → WasAt old at None place r → r.job ≢ job
      by_case place r (here same e) = let no : None ≡ Some r = e in absurd cc
      by_case place r (there apart was) = g.not_running place r was

-- it is not heard
pub gone_silent : (job_of : Denoting) (old new : World) (e : Event) (lines : List Entry) (job : ℕ) → IsGone old job → Transition job_of old e lines new →
    heard job lines ≡ []
gone_silent job_of old new e lines job g t = by_voice (voice job_of old new e lines t job)
  where
    by_voice : Voice old e lines job → heard job lines ≡ []
    by_voice (inl silent) = silent
    by_voice (inr (is_read is)) = let le : job ≤ old.jobs = g.numbered in let no : ⊥ = omega (arith, is, le) in absurd no
    by_voice (inr (waits v contained is)) = absurd (All-contains (λ v. v.job ≢ job) old.waiting v g.not_waiting contained is)
    by_voice (inr (has_turn place x r at is running same)) = absurd (g.not_running place r (record { it = x; at = at; running = running }) same)
    by_voice (inr (ends_early place r at same stage)) = absurd (g.not_running place r at same)

-- the lines of an event, and those of the later ones
pub heard_first : (job : ℕ) (lines : List Entry) (more : List (List Entry)) → lines_of job (lines ∷ more) ≡ heard job lines ++ lines_of job more
heard_first job lines more = filter_map-append (line_of job) lines (flat_map (λ (l : List Entry). l) more)

pub stays_silent : (job_of : Denoting) (w end : World) (es : List Event) (told : List (List Entry)) (job : ℕ) → IsGone w job → Runs job_of w es told end →
    lines_of job told ≡ []
stays_silent job_of w end [] [] job g runs = refl
stays_silent job_of w end [] (lines ∷ more) job g runs = absurd runs
stays_silent job_of w end (e ∷ es) [] job g runs = absurd runs
stays_silent job_of w end (e ∷ es) (lines ∷ more) job g runs =
    heard_first job lines more
    ∙ (λ i. gone_silent job_of w runs.0 e lines job g runs.1 i
    ++ stays_silent job_of runs.0 end es more job (gone_stays w runs.0 job g (moved job_of w runs.0 e lines runs.1)) runs.2 i)
