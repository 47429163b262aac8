-- What each event leaves of the records of a job that an initiator has.
use Rattle.std.proofs.Common.{◌≡◌, ◌≢◌, ◌==◌, ◌⊎◌, inl, inr, ◌++◌, arith, ℕ, zero, suc, Bool, true, false, cond, List, [], ◌∷◌, Option, Some, None, refl, sym, ap, ◌∙◌, subst}
use Rattle.std.specs.Prelude.{filter, slice_get}
use Rattle.std.specs.List.{list_any}
use Rattle.std.proofs.lemmas.Bool.{both_ways, cases_eq, eq-eqb, eqb-true, ne_eqb, or_from, or_left, or_parts, or_right}
use Rattle.std.proofs.lemmas.List.Elements.{All-contains}
use Rattle.jcl_plan.specs.declared.entry.Entry.{Entry}
use Rattle.jcl_plan.specs.declared.entry.JobLine.{JobLine}
use Rattle.jcl_plan.specs.declared.plan.JobPlan.{JobPlan}
use Rattle.jcl_meaning.specs.States.{Fixed}
use Rattle.cb_meaning.specs.declared.layout.Layout.{Layout}
use Rattle.cb_meaning.specs.Fields.{byte_at, with_part}
use Rattle.cb_meaning.specs.Spelled.{Records}
use Rattle.cb_meaning.specs.Walks.{is_free, owner_of}
use Rattle.world_meaning.specs.declared.event.Event.{Event}
use Rattle.world_meaning.specs.declared.event.Event.TheVariants as event
use Rattle.world_meaning.specs.Admissions.{Answered, MayFail, assured, fixed_at, no_space, refused, risk, risky, too_many}
use Rattle.world_meaning.specs.Cancels.{CancelsJob, RunsNot, admitted as cancels_admitted, no_job, selected as cancels_selected, waiting as cancels_waiting}
use Rattle.world_meaning.specs.Devices.{ended, idle, no_volume, nothing_written, wrote}
use Rattle.world_meaning.specs.Displays.{set}
use Rattle.world_meaning.specs.Holdings.{Holds, blocked, broken, held, read as reads_plan}
use Rattle.world_meaning.specs.Readings.{Denoting, Reads, full, no_number, read, rejected}
use Rattle.world_meaning.specs.Records.{AgreeBut, SameRecords, records_given_back, has_status, open_fields, owned_by}
use Rattle.world_meaning.specs.Selections.{nothing, selected}
use Rattle.world_meaning.specs.Transitions.{Acts, Does, GoesOn, Happens, Transition, acts, past, shown, taken, unknown}
use Rattle.world_meaning.specs.Turns.{acts as does_act, ends, has_cancel, waits}
use Rattle.world_meaning.specs.Worlds.{Admitted, Config, Initiator, IsAt, Named, Running, Selected, Shared, Stage, Wanting, World, counted, with_running}
use Rattle.world_meaning.specs.Zaps.{ZapsRecord, has_initiator, not_owned, runs_job, selected as zaps_selected, zapped}
use Rattle.world_meaning.specs.Records.{IsQueueLayout}
use Rattle.world_laws.specs.RecordsKept.{IsAlone, KeepsRecords}
use Rattle.world_laws.proofs.Beside.{one_there, set_here}
use Rattle.world_laws.proofs.Bytes.{low_byte, opened}
use Rattle.plain.specs.Lists.{numbers_from}

agree_same : (l : Layout) (r : List ℕ) → AgreeBut (open_fields l r) r r
agree_same l r = record { size = refl; bytes = λ k out. refl }

any_behind : {X : Type 0} (p : X → Bool) (xs ys : List X) → list_any p (xs ++ ys) ≡ false → list_any p ys ≡ false
any_behind p [] ys h = h
any_behind p (x ∷ xs) ys h = any_behind p xs ys (or_parts (p x) (list_any p (xs ++ ys)) h).1

any_append : {X : Type 0} (p : X → Bool) (xs ys : List X) → list_any p xs ≡ false → list_any p ys ≡ false → list_any p (xs ++ ys) ≡ false
any_append p [] ys h g = g
any_append p (x ∷ xs) ys h g =
    let both : (p x ≡ false) × (list_any p xs ≡ false) = or_parts (p x) (list_any p xs) h in
    or_from (p x) (list_any p (xs ++ ys)) both.0 (any_append p xs ys both.1 g)

-- another job's records are given back
none_owned : (q : Records) (other job n : ℕ) → other ≢ job → owner_of q n ≡ job → (ms : List ℕ) →
    list_any (λ m. m == n) (filter (λ m. owner_of q m == other) ms) ≡ false
none_owned q other job n apart is [] = refl
none_owned q other job n apart is (m ∷ ms) = by_test (owner_of q m == other) refl (none_owned q other job n apart is ms)
  where
    by_test : (b : Bool) → (owner_of q m == other) ≡ b → list_any (λ m. m == n) (filter (λ m. owner_of q m == other) ms) ≡ false →
        list_any (λ m. m == n) (cond b (m ∷ filter (λ m. owner_of q m == other) ms) (filter (λ m. owner_of q m == other) ms)) ≡ false
    by_test true e rest =
        or_from (m == n) _ (ne_eqb m n (λ same. apart (sym (eqb-true (owner_of q m) other e) ∙ (ap (owner_of q) same ∙ is)))) rest
    by_test false e rest = rest

pub given_keeps : (l : Layout) (q : Records) (other job : ℕ) → other ≢ job → KeepsRecords l job q (records_given_back l q other)
given_keeps l q other job apart n used is =
    (any_append (λ f. f == n) (owned_by l q other) q.free (none_owned q other job n apart is (numbers_from 1 l.most_records)) used, agree_same l (q.at n))

same_keeps : (l : Layout) (job : ℕ) (q new : Records) → new ≡ q → KeepsRecords l job q new
same_keeps l job q new e = subst (KeepsRecords l job q) (sym e) (λ n used is. (used, agree_same l (q.at n)))

-- a job that acts leaves the records, or it is over and gives its own back
abbrev LeavesRecords : Config → Shared → Running → Shared → Option Running → Type 0
LeavesRecords c old r new runs = (new.records ≡ old.records) ⊎ ((runs ≡ None) × (new.records ≡ records_given_back c.layout old.records r.job))

holds_records : (c : Config) (old : Shared) (r : Running) (plan : JobPlan) (lines : List JobLine) (new : Shared) (runs : Option Running) →
    Holds old r plan lines new runs → LeavesRecords c old r new runs
holds_records c old r plan lines new runs (held free t n goes_on) = inl (ap (λ (s : Shared). s.records) n)
holds_records c old r plan lines new runs (blocked by is t n goes_on) = inl (ap (λ (s : Shared). s.records) n)

may_fail_records : (c : Config) (old : Shared) (r : Running) (plan : JobPlan) (fixed : Fixed) (told : JobLine) (lines : List JobLine) (new : Shared)
    (runs : Option Running) → MayFail c old r plan fixed told lines new runs → LeavesRecords c old r new runs
may_fail_records c old r plan fixed told lines new runs (risky b t n goes_on) = inl (ap (λ (s : Shared). s.records) n)
may_fail_records c old r plan fixed told lines new runs (refused free b t n conserved over) = inr (over, ap (λ (s : Shared). s.records) n)

answered_records : (c : Config) (old : Shared) (r : Running) (plan : JobPlan) (fixed : Fixed) (lines : List JobLine) (new : Shared)
    (runs : Option Running) → Answered c old r plan fixed lines new runs → LeavesRecords c old r new runs
answered_records c old r plan fixed lines new runs (assured places kept free safe are_made are others t n conserved goes_on) = inl (ap (λ (s : Shared). s.records) n)
answered_records c old r plan fixed lines new runs (no_space serial there t n goes_on) = inl (ap (λ (s : Shared). s.records) n)
answered_records c old r plan fixed lines new runs (risk fault step dd path meets m) = may_fail_records c old r plan fixed _ lines new runs m
answered_records c old r plan fixed lines new runs (too_many step low high views m) = may_fail_records c old r plan fixed _ lines new runs m

goes_records : (c : Config) (old : Shared) (r : Running) (stage : Stage) (lines : List JobLine) (new : Shared) (runs : Option Running) →
    GoesOn c old r stage lines new runs → LeavesRecords c old r new runs
goes_records c old r (Selected first) lines new runs (broken n free f t is conserved over) = inr (over, ap (λ (s : Shared). s.records) is)
goes_records c old r (Selected first) lines new runs (reads_plan plan rest denoted h) = holds_records c old r plan lines new runs h
goes_records c old r (Wanting plan) lines new runs h = holds_records c old r plan lines new runs h
goes_records c old r (Named plan) lines new runs g = answered_records c old r plan (fixed_at c old r.job plan g.places) lines new runs g.answers
goes_records c old r (Admitted plan a count own) lines new runs (waits x growth primary is must t n goes_on) = inl (ap (λ (s : Shared). s.records) n)
goes_records c old r (Admitted plan a count own) lines new runs (does_act x growth primary free is grants further more t n conserved goes_on) =
    inl (ap (λ (s : Shared). s.records) n)
goes_records c old r (Admitted plan a count own) lines new runs (ends x growth primary free is grants further over t n conserved gone) =
    inr (gone, ap (λ (s : Shared). s.records) n)

module _ (old mid : World) (place job : ℕ) (alone : IsAlone old place job) (y : Initiator) (there : IsAt mid place y) (has : y.running ≢ None) where
  stays : mid.shared.records ≡ old.shared.records → KeepsRecords old.config.layout job old.shared.records mid.shared.records
  stays e = same_keeps old.config.layout job old.shared.records mid.shared.records e

  gives : (other : ℕ) → other ≢ job → mid.shared.records ≡ records_given_back old.config.layout old.shared.records other →
      KeepsRecords old.config.layout job old.shared.records mid.shared.records
  gives other apart e =
      subst (KeepsRecords old.config.layout job old.shared.records) (sym e) (given_keeps old.config.layout old.shared.records other job apart)

  -- an initiator whose job is over had another one
  other_job : (at_place : ℕ) (x : Initiator) (r : Running) → IsAt old at_place x → x.running ≡ Some r →
      mid.initiators ≡ with_running old.initiators at_place x None → r.job ≢ job
  other_job at_place x r at runs i = by_place (cases_eq at_place place)
    where
      by_place : (at_place ≡ place) ⊎ (at_place ≡ place → ⊥) → r.job ≢ job
      by_place (inl same) = absurd (has (sym (ap (λ (z : Initiator). z.running) (one_there mid.initiators at_place place (record x { running = None }) y same
          (ap (λ (xs : List Initiator). slice_get xs at_place) i ∙ set_here old.initiators at_place x (record x { running = None }) at) there))))
      by_place (inr apart) = subst (λ o. RunsNot o job) runs (alone.not_elsewhere at_place x at apart)

  reads_keep : (job_of : Denoting) (deck : List (List ℕ)) (lines : List Entry) → Reads job_of old deck lines mid →
      KeepsRecords old.config.layout job old.shared.records mid.shared.records
  reads_keep job_of deck lines (no_number more t n) = stays (ap (λ (w : World). w.shared.records) n)
  reads_keep job_of deck lines (rejected cause less f t n) = stays (ap (λ (w : World). w.shared.records) n)
  reads_keep job_of deck lines (full plan less f few t n) = stays (ap (λ (w : World). w.shared.records) n)
  reads_keep job_of deck lines (read plan first records less f w t n) =
      subst (KeepsRecords old.config.layout job old.shared.records) (sym (ap (λ (v : World). v.shared.records) n))
      (λ k used is. (any_behind (λ m. m == k) (first ∷ w.behind) records.free (sym (ap (list_any (λ m. m == k)) w.taken) ∙ used), w.others k used))

  acts_keep : (at_place : ℕ) (x : Initiator) (o : Option Running) (lines : List Entry) → IsAt old at_place x → x.running ≡ o → Acts old at_place x o lines mid →
      KeepsRecords old.config.layout job old.shared.records mid.shared.records
  acts_keep at_place x None lines at is (nothing none t n) = stays (ap (λ (w : World). w.shared.records) n)
  acts_keep at_place x None lines at is (selected v s t n) = stays (ap (λ (w : World). w.shared.records) n)
  acts_keep at_place x (Some r) lines at is g = by_records (goes_records old.config old.shared r r.stage g.job_lines g.shared g.runs g.goes)
    where
      by_records : LeavesRecords old.config old.shared r g.shared g.runs → KeepsRecords old.config.layout job old.shared.records mid.shared.records
      by_records (inl e) = stays (ap (λ (w : World). w.shared.records) g.leaves ∙ e)
      by_records (inr (over, e)) =
          gives r.job (other_job at_place x r at is (ap (λ (w : World). w.initiators) g.leaves ∙ ap (with_running old.initiators at_place x) over))
          (ap (λ (w : World). w.shared.records) g.leaves ∙ e)

  cancels_keep : (cancelled : ℕ) (lines : List Entry) → CancelsJob old cancelled lines mid →
      KeepsRecords old.config.layout job old.shared.records mid.shared.records
  cancels_keep cancelled lines (no_job none t n) = stays (ap (λ (w : World). w.shared.records) n)
  cancels_keep cancelled lines (cancels_waiting w free contained is t n conserved) =
      gives cancelled (λ same. All-contains (λ x. x.job ≢ job) old.waiting w alone.not_waiting contained (is ∙ same)) (ap (λ (v : World). v.shared.records) n)
  cancels_keep cancelled lines (cancels_selected at_place x r free at runs is not_yet t n conserved) =
      gives cancelled (λ same. other_job at_place x r at runs (ap (λ (w : World). w.initiators) n) (is ∙ same)) (ap (λ (w : World). w.shared.records) n)
  cancels_keep cancelled lines (cancels_admitted at_place x r at runs is yet t n) =
      stays (ap (λ (w : World). w.shared.records) n ∙ either (has_cancel old.shared.cancels cancelled))
    where
      either : (b : Bool) → (cond b old.shared (record old.shared { cancels = old.shared.cancels ++ cancelled ∷ [] })).records ≡ old.shared.records
      either true = refl
      either false = refl

  -- the job has an initiator, so its records are not with_part
  found : (xs : List Initiator) (k : ℕ) (x : Initiator) → slice_get xs k ≡ Some x → runs_job job x.running ≡ true →
      list_any (λ z. runs_job job z.running) xs ≡ true
  found [] k x e h = absurd cc
  found (z ∷ xs) zero x e h = let is : z ≡ x = cc in or_left _ _ (ap (λ (v : Initiator). runs_job job v.running) is ∙ h)
  found (z ∷ xs) (suc k) x e h = or_right _ _ (found xs k x e h)

  has_one : has_initiator old job ≡ true
  has_one = found old.initiators place alone.it alone.at (ap (runs_job job) alone.runs ∙ eq-eqb alone.running.job job alone.of_job)

  zap_keeps : (n offset : ℕ) (bytes : List ℕ) (lines : List Entry) → ZapsRecord old n offset bytes lines mid →
      KeepsRecords old.config.layout job old.shared.records mid.shared.records
  zap_keeps n offset bytes lines (not_owned fails t is) = stays (ap (λ (w : World). w.shared.records) is)
  zap_keeps n offset bytes lines (zaps_selected may h t is) = stays (ap (λ (w : World). w.shared.records) is)
  zap_keeps n offset bytes lines (zapped may none t is) =
      subst (KeepsRecords old.config.layout job old.shared.records) (sym (ap (λ (w : World). w.shared.records) is))
      (λ k used owner. (
        used,
        subst (AgreeBut (open_fields old.config.layout (old.shared.records.at k)) (old.shared.records.at k))
            (sym (ap (λ b. cond b (with_part (old.shared.records.at n) offset bytes) (old.shared.records.at k))
            (ne_eqb k n (λ same. both_ways (has_initiator old job) (ap (has_initiator old) (sym owner ∙ ap (owner_of old.shared.records) same) ∙ none) has_one))))
            (agree_same old.config.layout (old.shared.records.at k)),
      ))

  does_keep : (job_of : Denoting) (e : Event) (lines : List Entry) → Does job_of old e lines mid →
      KeepsRecords old.config.layout job old.shared.records mid.shared.records
  does_keep job_of (event.Read deck) lines d = reads_keep job_of deck lines d
  does_keep job_of (event.Turn number) lines (unknown none t n) = stays (ap (λ (w : World). w.shared.records) n)
  does_keep job_of (event.Turn number) lines (acts at_place x at is a) = acts_keep at_place x x.running lines at refl a
  does_keep job_of (event.DeviceEnd serial) lines (no_volume none t n) = stays (ap (λ (w : World). w.shared.records) n)
  does_keep job_of (event.DeviceEnd serial) lines (idle contained not_busy t n) = stays (ap (λ (w : World). w.shared.records) n)
  does_keep job_of (event.DeviceEnd serial) lines (ended contained busy t n) = stays (ap (λ (w : World). w.shared.records) n)
  does_keep job_of (event.Write class) lines (nothing_written none t n) = stays (ap (λ (w : World). w.shared.records) n)
  does_keep job_of (event.Write class) lines (wrote other line left took t n) = stays (ap (λ (w : World). w.shared.records) n)
  does_keep job_of (event.Cancel cancelled) lines d = cancels_keep cancelled lines d
  does_keep job_of (event.Zap n offset bytes) lines d = zap_keeps n offset bytes lines d
  does_keep job_of event.Display lines (shown t n) = stays (ap (λ (w : World). w.shared.records) n)
  does_keep job_of (event.Date day) lines (set years of_year is t n) = stays (ap (λ (w : World). w.shared.records) n)

-- and then what is open
reopened_keeps : (l : Layout) (job : ℕ) (old mid new : Records) → IsQueueLayout l → KeepsRecords l job old mid → SameRecords l mid new → KeepsRecords l job old new
reopened_keeps l job old mid new own keeps same n used is =
    let k : (is_free mid n ≡ false) × AgreeBut (open_fields l (old.at n)) (old.at n) (mid.at n) = keeps n used is in
    let a : AgreeBut (open_fields l (mid.at n)) (mid.at n) (new.at n) = same.used n k.0 in
    let kind : byte_at (mid.at n) 0 ≡ byte_at (old.at n) 0 = low_byte l own (has_status (byte_at (old.at n) 0)) (old.at n) (mid.at n) k.1 0 (omega arith) in
    let b : AgreeBut (open_fields l (old.at n)) (mid.at n) (new.at n) = subst (λ z. AgreeBut (opened l (has_status z)) (mid.at n) (new.at n)) kind a in
    (ap (list_any (λ f. f == n)) same.free ∙ k.0, record { size = b.size ∙ k.1.size; bytes = λ i out. b.bytes i out ∙ k.1.bytes i out })

module _ (job_of : Denoting) (old new : World) (e : Event) (lines : List Entry) (place job : ℕ) (y : Initiator) (own : IsQueueLayout old.config.layout)
    (alone : IsAlone old place job) (there : IsAt new place y) (has : y.running ≢ None) where
  happens_keep : new.config ≡ old.config → Happens job_of (counted old) e lines new →
      KeepsRecords old.config.layout job old.shared.records new.shared.records
  happens_keep config h =
      let at_middle : IsAt h.middle place y = sym (ap (λ (w : World). slice_get w.initiators place) h.rest) ∙ there in
      let first : KeepsRecords old.config.layout job old.shared.records h.middle.shared.records =
      does_keep (counted old) h.middle place job (record {
        it = alone.it;
        running = alone.running;
        at = alone.at;
        runs = alone.runs;
        of_job = alone.of_job;
        not_elsewhere = alone.not_elsewhere;
        not_waiting = alone.not_waiting;
      }) y at_middle has job_of e lines h.does in
      let as_old : h.middle.config ≡ old.config = sym (ap (λ (w : World). w.config) h.rest) ∙ config in
      let same : SameRecords old.config.layout h.middle.shared.records h.reopened.records =
      subst (λ (c : Config). SameRecords c.layout h.middle.shared.records h.reopened.records) as_old h.reopened.same in
      subst (KeepsRecords old.config.layout job old.shared.records) (sym (ap (λ (s : Shared). s.records) h.reopened.rest))
      (reopened_keeps old.config.layout job old.shared.records h.middle.shared.records h.reopened.records own first same)

  pub records_keep : new.config ≡ old.config → Transition job_of old e lines new → KeepsRecords old.config.layout job old.shared.records new.shared.records
  records_keep config (past more t n) = same_keeps old.config.layout job old.shared.records new.shared.records (ap (λ (w : World). w.shared.records) n)
  records_keep config (taken less h) = happens_keep config h
