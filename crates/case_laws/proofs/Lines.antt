-- One list of lines for every event for which nothing is open.
use Rattle.std.proofs.Common.{◌≡◌, ◌≢◌, ◌≤◌, ◌<◌, ◌+◌, ℕ, zero, suc, true, false, List, [], ◌∷◌, map, Option, Some, None, All, arith, length, length-append, refl, sym, ap, ◌∙◌, subst}
use Rattle.std.specs.Prelude.{slice_get}
use Rattle.std.specs.List.{Contains}
use Rattle.std.proofs.lemmas.Bool.{both_ways}
use Rattle.std.proofs.lemmas.List.Elements.{All-contains, All-head, All-tail}
use Rattle.jcl_plan.specs.declared.entry.Entry.{Entry}
use Rattle.jcl_plan.specs.declared.entry.Entry.TheVariants as entry
use Rattle.jcl_plan.specs.declared.entry.JobLine.{JobLine}
use Rattle.jcl_plan.specs.declared.entry.JobLine.TheVariants as line
use Rattle.jcl_plan.specs.declared.plan.JobPlan.{JobPlan}
use Rattle.cb_meaning.specs.Needs.{records_needed}
use Rattle.cb_meaning.specs.Spelled.{Records}
use Rattle.prog_core.specs.Operations.{is_busy}
use Rattle.world_meaning.specs.declared.event.Event.{Event}
use Rattle.world_meaning.specs.declared.event.Event.TheVariants as event
use Rattle.world_meaning.specs.Cancels.{CancelsJob, RunsNot, admitted as cancels_admitted, is_admitted, no_job, selected as cancels_selected, waiting as cancels_waiting}
use Rattle.world_meaning.specs.Devices.{EndsDevice, Writes, ended, idle, no_volume, nothing_written, wrote}
use Rattle.world_meaning.specs.Displays.{SetsDate, set as dated}
use Rattle.world_meaning.specs.Readings.{Denoting, IsWritten, Reads, full, no_number, read, read_line, rejected}
use Rattle.world_meaning.specs.Selections.{Selects, nothing, selected}
use Rattle.world_meaning.specs.Transitions.{Acts, Does, Transition, Turns, acts, past, shown, taken, unknown, GoesOn, explained_by, told_with}
use Rattle.world_meaning.specs.Worlds.{Admitted, Config, Initiator, IsAt, Named, Running, Selected, Shared, Stage, Waiting, Wanting, World, counted, of_job}
use Rattle.world_meaning.specs.Zaps.{ZapsRecord, not_owned, selected as zaps_selected, zapped}
use Rattle.world_laws.proofs.Beside.{one_there}
use Rattle.law_core.specs.Soundness.{IsSound, RunsAt}
use Rattle.law_core.proofs.Places.{one_running}
use Rattle.case_laws.specs.Lines.{HasNoChoice, LeavesNoneOpen}
use Rattle.case_laws.proofs.Needed.{needed}
use Rattle.case_laws.proofs.Queues.{not_both as not_both_selected, same_job}
use Rattle.case_laws.proofs.Spools.{not_both as not_both_written, same_line, same_taken_job}
use Rattle.case_laws.proofs.Supplies.{get_number, same_place}
use Rattle.date_core.specs.Dates.{days_before}
use Rattle.date_core.proofs.Dates.{one_day, one_year}
use Rattle.case_laws.proofs.TurnLines.{goes_same}

-- a job is written only where there are records enough for it
too_few : (free behind left need : ℕ) → free ≡ suc (behind + left) → need ≤ suc behind → free < need → ⊥
too_few free behind left need e f g = omega (arith, e, f, g)

module _ (job_of : Denoting) (w : World) (deck : List (List ℕ)) where
  room : (plan : JobPlan) (first : ℕ) (records : Records) → IsWritten w.config w.shared.records records (w.jobs + 1) plan first →
      length w.shared.records.free < records_needed plan → ⊥
  room plan first records h few =
      too_few (length w.shared.records.free) (length h.behind) (length records.free) (records_needed plan)
      (ap length h.taken ∙ ap suc (length-append h.behind records.free))
      (needed w.config.layout (length w.config.units) records (w.jobs + 1) (first ∷ h.behind) plan h.denoted) few

  reads_same : (a b : World) (l m : List Entry) → Reads job_of w deck l a → Reads job_of w deck m b → l ≡ m
  reads_same a b l m (no_number more e n) (no_number more_too f o) = e ∙ sym f
  reads_same a b l m (no_number more e n) (rejected cause less d f o) = absurd (omega arith)
  reads_same a b l m (no_number more e n) (full plan less d few f o) = absurd (omega arith)
  reads_same a b l m (no_number more e n) (read plan first records less d h f o) = absurd (omega arith)
  reads_same a b l m (rejected cause less d e n) (no_number more f o) = absurd (omega arith)
  reads_same a b l m (rejected cause less d e n) (rejected other less_too g f o) =
      let same : cause ≡ other = cc in e ∙ ap (λ c. of_job (w.jobs + 1) (line.Rejected c ∷ [])) same ∙ sym f
  reads_same a b l m (rejected cause less d e n) (full plan less_too g few f o) = absurd cc
  reads_same a b l m (rejected cause less d e n) (read plan first records less_too g h f o) = absurd cc
  reads_same a b l m (full plan less d few e n) (no_number more f o) = absurd (omega arith)
  reads_same a b l m (full plan less d few e n) (rejected cause less_too g f o) = absurd cc
  reads_same a b l m (full plan less d few e n) (full other less_too g few_too f o) = e ∙ sym f
  reads_same a b l m (full plan less d few e n) (read other first records less_too g h f o) =
      let same : plan ≡ other = cc in
      absurd (room other first records h (subst (λ (p : JobPlan). length w.shared.records.free < records_needed p) same few))
  reads_same a b l m (read plan first records less d h e n) (no_number more f o) = absurd (omega arith)
  reads_same a b l m (read plan first records less d h e n) (rejected cause less_too g f o) = absurd cc
  reads_same a b l m (read plan first records less d h e n) (full other less_too g few f o) =
      let same : other ≡ plan = cc in
      absurd (room plan first records h (subst (λ (p : JobPlan). length w.shared.records.free < records_needed p) same few))
  reads_same a b l m (read plan first records less d h e n) (read other second others less_too g k f o) =
      let same : plan ≡ other = cc in e ∙ ap (λ (p : JobPlan). of_job (w.jobs + 1) (read_line p ∷ [])) same ∙ sym f

all_at : {X : Type 0} (P : X → Type 0) (xs : List X) (k : ℕ) (x : X) → All P xs → slice_get xs k ≡ Some x → P x
all_at P [] k x all e = absurd cc
all_at P (y ∷ ys) zero x all e = let same : y ≡ x = cc in subst P same (All-head P y ys all)
all_at P (y ∷ ys) (suc k) x all e = all_at P ys k x (All-tail P y ys all) e

-- nothing is explained but at an admission
unexplained : (c : Config) (old : Shared) (r : Running) (stage : Stage) (lines : List JobLine) (new : Shared) (runs : Option Running) →
    HasNoChoice c old r.job stage → (g : GoesOn c old r stage lines new runs) → explained_by c old r stage lines new runs g ≡ []
unexplained c old r (Selected first) lines new runs closed g = refl
unexplained c old r (Wanting plan) lines new runs closed g = refl
unexplained c old r (Named plan) lines new runs closed g = absurd closed
unexplained c old r (Admitted plan a count own) lines new runs closed g = refl

plainly : (job : ℕ) (told : List Entry) (lines path : List JobLine) → told ≡ told_with job lines path → path ≡ [] → told ≡ of_job job lines
plainly job told lines path is none = is ∙ ap (told_with job lines) none

module _ (w : World) (s : IsSound w) where
  selects_same : (a b : World) (place : ℕ) (x : Initiator) (l m : List Entry) → Selects (counted w) place x l a → Selects (counted w) place x m b → l ≡ m
  selects_same a b place x l m (nothing none e n) (nothing none_too f o) = e ∙ sym f
  selects_same a b place x l m (nothing none e n) (selected v t f o) = absurd (not_both_selected w.waiting x.classes v none t)
  selects_same a b place x l m (selected v t e n) (nothing none f o) = absurd (not_both_selected w.waiting x.classes v none t)
  selects_same a b place x l m (selected v t e n) (selected u k f o) =
      e ∙ ap (λ (job : ℕ). of_job job (line.Selected x.number ∷ [])) (same_job w.waiting x.classes v u t k) ∙ sym f

  acts_same : (a b : World) (place : ℕ) (x : Initiator) (o : Option Running) (l m : List Entry) →
      ((r : Running) → o ≡ Some r → HasNoChoice w.config w.shared r.job r.stage) → Acts (counted w) place x o l a → Acts (counted w) place x o m b → l ≡ m
  acts_same a b place x None l m decided p q = selects_same a b place x l m p q
  acts_same a b place x (Some r) l m decided p q =
      plainly r.job l p.job_lines _ p.told (unexplained w.config w.shared r r.stage p.job_lines p.shared p.runs (decided r refl) p.goes)
      ∙ ap (of_job r.job) (goes_same w.config w.shared r p.shared q.shared p.runs q.runs p.job_lines q.job_lines r.stage (decided r refl) p.goes q.goes)
      ∙ sym (plainly r.job m q.job_lines _ q.told (unexplained w.config w.shared r r.stage q.job_lines q.shared q.runs (decided r refl) q.goes))

  turns_same : (a b : World) (number : ℕ) (l m : List Entry) → LeavesNoneOpen w (event.Turn number) → Turns (counted w) number l a →
      Turns (counted w) number m b → l ≡ m
  turns_same a b number l m closed (unknown none e n) (unknown none_too f o) = e ∙ sym f
  turns_same a b number l m closed (unknown none e n) (acts place x at is p) = absurd (all_at (λ y. y.number ≢ number) w.initiators place x none at is)
  turns_same a b number l m closed (acts place x at is p) (unknown none e n) = absurd (all_at (λ y. y.number ≢ number) w.initiators place x none at is)
  turns_same a b number l m closed (acts place x at is p) (acts other y too so q) =
      let there : other ≡ place = same_place (map (λ (z : Initiator). z.number) w.initiators) other place number s.initiators
      (get_number w.initiators other y too ∙ ap Some so) (get_number w.initiators place x at ∙ ap Some is) in
      let one : y ≡ x = one_there w.initiators other place y x there too at in
      acts_same a b place x x.running l m (λ r runs. closed place r (record { it = x; at = at; running = runs }) is) p
      (subst (λ (z : Initiator). Acts (counted w) place z z.running m b) one (subst (λ (k : ℕ). Acts (counted w) k y y.running m b) there q))

  ends_same : (a b : World) (serial : List ℕ) (l m : List Entry) → EndsDevice (counted w) serial l a → EndsDevice (counted w) serial m b → l ≡ m
  ends_same a b serial l m (no_volume none e n) (no_volume none_too f o) = e ∙ sym f
  ends_same a b serial l m (no_volume none e n) (idle there isnt f o) =
      absurd (All-contains (λ v. v ≢ serial) w.config.volumes serial none there refl)
  ends_same a b serial l m (no_volume none e n) (ended there is f o) = absurd (All-contains (λ v. v ≢ serial) w.config.volumes serial none there refl)
  ends_same a b serial l m (idle there isnt e n) (no_volume none f o) = absurd (All-contains (λ v. v ≢ serial) w.config.volumes serial none there refl)
  ends_same a b serial l m (idle there isnt e n) (idle there_too isnt_too f o) = e ∙ sym f
  ends_same a b serial l m (idle there isnt e n) (ended there_too is f o) = absurd (both_ways (is_busy w.shared.operations (Some serial)) isnt is)
  ends_same a b serial l m (ended there is e n) (no_volume none f o) = absurd (All-contains (λ v. v ≢ serial) w.config.volumes serial none there refl)
  ends_same a b serial l m (ended there is e n) (idle there_too isnt f o) = absurd (both_ways (is_busy w.shared.operations (Some serial)) isnt is)
  ends_same a b serial l m (ended there is e n) (ended there_too is_too f o) = e ∙ sym f

  writes_same : (a b : World) (class : ℕ) (l m : List Entry) → Writes (counted w) class l a → Writes (counted w) class m b → l ≡ m
  writes_same a b class l m (nothing_written none e n) (nothing_written none_too f o) = e ∙ sym f
  writes_same a b class l m (nothing_written none e n) (wrote job it left t f o) = absurd (not_both_written w.shared.spool class job it left none t)
  writes_same a b class l m (wrote job it left t e n) (nothing_written none f o) = absurd (not_both_written w.shared.spool class job it left none t)
  writes_same a b class l m (wrote job it left t e n) (wrote other that rest u f o) =
      let jobs = same_taken_job w.shared.spool class job other it that left rest t u in
      let its = same_line w.shared.spool class job other it that left rest t u in
      e ∙ (λ i. entry.Writer class (jobs i) (its i) ∷ []) ∙ sym f

  -- a job waits, or one initiator has it
  not_running : (job place : ℕ) (x : Initiator) (r : Running) → All (λ y. RunsNot y.running job) w.initiators → IsAt w place x → x.running ≡ Some r →
      r.job ≡ job → ⊥
  not_running job place x r none at runs is =
      subst (λ (o : Option Running). RunsNot o job) runs (all_at (λ y. RunsNot y.running job) w.initiators place x none at) is

  not_waiting : (job place : ℕ) (x : Initiator) (r : Running) (v : Waiting) → Contains w.waiting v → v.job ≡ job → IsAt w place x → x.running ≡ Some r →
      r.job ≡ job → ⊥
  not_waiting job place x r v there is at runs same =
      All-contains (λ y. y.job ≢ r.job) w.waiting v (s.alone place r (record { it = x; at = at; running = runs })).not_waiting there (is ∙ sym same)

  one_stage : (job place other : ℕ) (x y : Initiator) (r q : Running) → IsAt w place x → x.running ≡ Some r → r.job ≡ job → IsAt w other y →
      y.running ≡ Some q →
      q.job ≡ job → is_admitted r.stage ≡ true → is_admitted q.stage ≡ false → ⊥
  one_stage job place other x y r q at runs is too runs_too so yet not_yet =
      let run : RunsAt w place r = record { it = x; at = at; running = runs } in
      let run_too : RunsAt w other q = record { it = y; at = too; running = runs_too } in
      let there : other ≡ place = (s.alone place r run).alone other q run_too (so ∙ sym is) in
      let one : q ≡ r = one_running w place q r (subst (λ k. RunsAt w k q) there run_too) run in
      both_ways (is_admitted q.stage) not_yet (ap (λ (z : Running). is_admitted z.stage) one ∙ yet)

  cancels_same : (a b : World) (job : ℕ) (l m : List Entry) → CancelsJob (counted w) job l a → CancelsJob (counted w) job m b → l ≡ m
  cancels_same a b job l m (no_job none e n) (no_job none_too f o) = e ∙ sym f
  cancels_same a b job l m (no_job none e n) (cancels_waiting v free there is f o conserved) =
      absurd (All-contains (λ y. y.job ≢ job) w.waiting v none.waits_not there is)
  cancels_same a b job l m (no_job none e n) (cancels_selected place x r free at runs is not_yet f o conserved) =
      absurd (not_running job place x r none.runs_not at runs is)
  cancels_same a b job l m (no_job none e n) (cancels_admitted place x r at runs is yet f o) = absurd (not_running job place x r none.runs_not at runs is)
  cancels_same a b job l m (cancels_waiting v free there is e n conserved) (no_job none f o) =
      absurd (All-contains (λ y. y.job ≢ job) w.waiting v none.waits_not there is)
  cancels_same a b job l m (cancels_waiting v free there is e n conserved) (cancels_waiting u free_too there_too so f o conserved_too) = e ∙ sym f
  cancels_same a b job l m (cancels_waiting v free there is e n conserved) (cancels_selected place x r free_too at runs so not_yet f o conserved_too) =
      e ∙ sym f
  cancels_same a b job l m (cancels_waiting v free there is e n conserved) (cancels_admitted place x r at runs so yet f o) =
      absurd (not_waiting job place x r v there is at runs so)
  cancels_same a b job l m (cancels_selected place x r free at runs is not_yet e n conserved) (no_job none f o) =
      absurd (not_running job place x r none.runs_not at runs is)
  cancels_same a b job l m (cancels_selected place x r free at runs is not_yet e n conserved) (cancels_waiting v free_too there so f o conserved_too) =
      e ∙ sym f
  cancels_same a b job l m (cancels_selected place x r free at runs is not_yet e n conserved)
      (cancels_selected other y q free_too too runs_too so not_yet_too f o conserved_too) = e ∙ sym f
  cancels_same a b job l m (cancels_selected place x r free at runs is not_yet e n conserved) (cancels_admitted other y q too runs_too so yet f o) =
      absurd (one_stage job other place y x q r too runs_too so at runs is yet not_yet)
  cancels_same a b job l m (cancels_admitted place x r at runs is yet e n) (no_job none f o) = absurd (not_running job place x r none.runs_not at runs is)
  cancels_same a b job l m (cancels_admitted place x r at runs is yet e n) (cancels_waiting v free there so f o conserved) =
      absurd (not_waiting job place x r v there so at runs is)
  cancels_same a b job l m (cancels_admitted place x r at runs is yet e n) (cancels_selected other y q free too runs_too so not_yet f o conserved) =
      absurd (one_stage job place other x y r q at runs is too runs_too so yet not_yet)
  cancels_same a b job l m (cancels_admitted place x r at runs is yet e n) (cancels_admitted other y q too runs_too so yet_too f o) = e ∙ sym f

  zaps_same : (a b : World) (n offset : ℕ) (bytes : List ℕ) (l m : List Entry) → ZapsRecord (counted w) n offset bytes l a →
      ZapsRecord (counted w) n offset bytes m b → l ≡ m
  zaps_same a b n offset bytes l m (not_owned isnt e k) (not_owned isnt_too f o) = e ∙ sym f
  zaps_same a b n offset bytes l m (not_owned isnt e k) (zaps_selected may has f o) = absurd (both_ways _ isnt may)
  zaps_same a b n offset bytes l m (not_owned isnt e k) (zapped may has f o) = absurd (both_ways _ isnt may)
  zaps_same a b n offset bytes l m (zaps_selected may has e k) (not_owned isnt f o) = absurd (both_ways _ isnt may)
  zaps_same a b n offset bytes l m (zaps_selected may has e k) (zaps_selected may_too has_too f o) = e ∙ sym f
  zaps_same a b n offset bytes l m (zaps_selected may has e k) (zapped may_too hasnt f o) = absurd (both_ways _ hasnt has)
  zaps_same a b n offset bytes l m (zapped may hasnt e k) (not_owned isnt f o) = absurd (both_ways _ isnt may)
  zaps_same a b n offset bytes l m (zapped may hasnt e k) (zaps_selected may_too has f o) = absurd (both_ways _ hasnt has)
  zaps_same a b n offset bytes l m (zapped may hasnt e k) (zapped may_too hasnt_too f o) = e ∙ sym f

  dates_same : (a b : World) (day : ℕ) (l m : List Entry) → SetsDate (counted w) day l a → SetsDate (counted w) day m b → l ≡ m
  dates_same a b day l m (dated y n is e k) (dated z d so f o) =
      let year : y ≡ z = one_year day y n z d is so in
      let of_year : n ≡ d = one_day day (days_before z) n d (is.counts ∙ ap (λ x. days_before x + n) year) so.counts in
      e ∙ (λ i. entry.Date (1900 + year i) (of_year i) ∷ []) ∙ sym f

  does_same : (job_of : Denoting) (a b : World) (e : Event) (l m : List Entry) → LeavesNoneOpen w e → Does job_of (counted w) e l a →
      Does job_of (counted w) e m b → l ≡ m
  does_same job_of a b (event.Read deck) l m closed p q = reads_same job_of (counted w) deck a b l m p q
  does_same job_of a b (event.Turn number) l m closed p q = turns_same a b number l m closed p q
  does_same job_of a b (event.DeviceEnd serial) l m closed p q = ends_same a b serial l m p q
  does_same job_of a b (event.Write class) l m closed p q = writes_same a b class l m p q
  does_same job_of a b (event.Cancel job) l m closed p q = cancels_same a b job l m p q
  does_same job_of a b (event.Zap n offset bytes) l m closed p q = zaps_same a b n offset bytes l m p q
  does_same job_of a b event.Display l m closed (shown e n) (shown f o) = e ∙ sym f
  does_same job_of a b (event.Date day) l m closed p q = dates_same a b day l m p q

pub same_lines : (job_of : Denoting) (w one other : World) (e : Event) (lines more : List Entry) → IsSound w → LeavesNoneOpen w e →
    Transition job_of w e lines one → Transition job_of w e more other → lines ≡ more
same_lines job_of w one other e lines more s closed (past high p n) (past high_too q o) = p ∙ sym q
same_lines job_of w one other e lines more s closed (past high p n) (taken less q) = absurd (omega arith)
same_lines job_of w one other e lines more s closed (taken less p) (past high q o) = absurd (omega arith)
same_lines job_of w one other e lines more s closed (taken less p) (taken less_too q) =
    does_same w s job_of p.middle q.middle e lines more closed p.does q.does
