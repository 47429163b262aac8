-- The machine of a configuration is a start, sound and fit.
use Rattle.std.proofs.Common.{◌≡◌, ◌≢◌, ◌≤◌, ℕ, zero, suc, List, [], ◌∷◌, All, map, Some, None, length, slice_get, refl, sym, ap, ◌∙◌, subst, true, arith}
use Rattle.std.specs.Str.{bytes_eq}
use Rattle.std.proofs.lemmas.List.{length-map}
use Rattle.std.proofs.lemmas.List.Elements.{All-nil}
use Rattle.std.specs.List.{Contains}
use Rattle.std.specs.FinMap as finite
use Rattle.cb_chain.specs.Written.{HasDays, HoldsJobs}
use Rattle.cb_meaning.specs.Layouts.{HasOwnFields}
use Rattle.cb_meaning.specs.declared.layout.Layout.{Layout}
use Rattle.cb_queue.specs.RecordQueues as queue
use Rattle.cb_queue.specs.RecordQueues.{IsSoundQueue, RecordQueue}
use Rattle.config_core.specs.Configs.{Configuration, unit_names, unit_volumes}
use Rattle.config_core.specs.Configured.{IsConfigured}
use Rattle.config_core.specs.Starts.{IsTakenApart, StartsWithJobs, idle, start_config, start_shared}
use Rattle.config_core.specs.declared.start.Fixed.{Fixed}
use Rattle.config_core.proofs.Starting.{nothing_on}
use Rattle.enq_core.specs.declared.table.Hold.{Hold}
use Rattle.machine_meaning.specs.declared.config.ConfiguredInitiator.{ConfiguredInitiator}
use Rattle.machine_meaning.specs.declared.config.ConfiguredUnit.{ConfiguredUnit}
use Rattle.machine_meaning.specs.declared.config.TheConstants.{MOST_UNITS}
use Rattle.plain.specs.Lists.{Differ, all_different}
use Rattle.prog_core.specs.declared.units.Operation.{Operation}
use Rattle.case_laws.specs.Cases.{IsSupplied, StartsSupplied}
use Rattle.law_core.specs.Soundness.{IsSound, StartsSound}
use Rattle.shared_core.specs.declared.store.SharedStore.{SharedStore}
use Rattle.enq_core.specs.Holds.{HoldsNone}
use Rattle.place_core.specs.Placings.{serials_of}
use Rattle.shared_core.specs.Shown.{mounted_in, set_on}
use Rattle.shared_core.specs.Tracks.{free_on, kept_shown}
use Rattle.shared_core.proofs.Showing.{nothing_shown}
use Rattle.world_meaning.specs.Starts.{IsStart}
use Rattle.world_meaning.specs.Worlds as world
use Rattle.world_meaning.specs.Worlds.{World}
use Rattle.machine_meaning.specs.declared.machine.TheConstants.{MOST_JOBS}
use Rattle.queue_core.specs.declared.queue.Queued.{Queued}
use Rattle.queued_job.specs.Layouts.{ReadsWhatItHolds}
use Rattle.queued_job.specs.Opening.{CanBegin}
use Rattle.queued_job.specs.Listed.{waiting_in}
use Rattle.queued_job.specs.declared.backlog.Listing.{Listing}
use Rattle.machine_core.specs.Shown.{shown}
use Rattle.machine_core.specs.declared.parts.Parts.{Parts}
use Rattle.init_core.specs.declared.running.Profile.{Profile}
use Rattle.init_core.specs.declared.running.Running.{Running}
use Rattle.sched_core.specs.Fits.{IsFit, IsKept}
use Rattle.sched_core.specs.Machines.{RunsIn, config_in, shown_initiator, world_in}
use Rattle.sched_core.specs.Starting.{IsForMachine, no_lines, start_in, waiting_at_start}
use Rattle.sched_core.specs.declared.start.TheConstants.{FIRST_DAY}
use Rattle.sched_core.specs.declared.state.Initiator.{Initiator}
use Rattle.sched_core.specs.declared.state.State.{State}
use Rattle.sched_core.proofs.Apart.{all_differ}
use Rattle.sched_core.proofs.Opened.{all_listed, jobs_listed, waits}

abbrev pub idle_seat : ConfiguredInitiator → Initiator
idle_seat x = record { number = x.number; classes = x.classes; running = None }

idle_shown : (c : world.Config) (queue : RecordQueue) (xs : List ConfiguredInitiator) → map (shown_initiator c queue) (map idle_seat xs) ≡ map idle xs
idle_shown c queue [] = refl
idle_shown c queue (x ∷ xs) = ap (λ ys. idle x ∷ ys) (idle_shown c queue xs)

nobody_there : (xs : List ConfiguredInitiator) (place : ℕ) (r : Running) → RunsIn (map idle_seat xs) place r → ⊥
nobody_there xs place r h = none xs place h.it h.at (λ e. let no : Some r ≡ None = sym h.running ∙ e in absurd cc)
  where
    none : (ys : List ConfiguredInitiator) (k : ℕ) (it : Initiator) → slice_get (map idle_seat ys) k ≡ Some it → (it.running ≡ None → ⊥) → ⊥
    none [] k it e busy = absurd cc
    none (y ∷ ys) zero it e busy = let same : idle_seat y ≡ it = cc in busy (ap (λ (z : Initiator). z.running) (sym same))
    none (y ∷ ys) (suc k) it e busy = none ys k it e busy

module _ {Q : Type 0} (queue_of : Q → RecordQueue) (store : SharedStore) (q : Q) (fixed : Fixed) (p : Profile) (s : State Q)
    (parts : s.parts ≡ record { store = store; queue = q; names = []; units = []; cancels = []; spool = []; date = FIRST_DAY })
    (seats : s.initiators.items ≡ map idle_seat fixed.initiators) (backlog : s.backlog ≡ map no_lines (map (λ (x : Queued). x.job) (queue_of q).waiting))
    (last : ℕ) (jobs : s.jobs ≡ last) (events : s.events ≡ 0)
    (volumes : p.volumes.now ≡ fixed.serials) (units : p.units.now ≡ unit_volumes fixed.units) (programs : p.programs.now ≡ fixed.programs)
    (whole : IsSoundQueue (queue_of q)) (can : CanBegin (queue_of q) last) (few : last ≤ MOST_JOBS) (for_machine : IsForMachine (queue_of q).layout) where
  abbrev pub l : Layout
  l = (queue_of q).layout

  queue_at : queue_of s.parts.queue ≡ queue_of q
  queue_at = ap (λ (x : Parts Q). queue_of x.queue) parts

  layout_at : (queue_of s.parts.queue).layout ≡ l
  layout_at = ap (λ (x : Parts Q). (queue_of x.queue).layout) parts

  module _ (c : Configuration) (t : IsTakenApart c store fixed) where
    config_at : config_in queue_of p s ≡ record {
      volumes = map (λ m. m.serial) c.volumes;
      units = unit_volumes c.units;
      programs = c.programs;
      layout = l;
      refuses = p.refuses;
      most_views = p.most_views;
      explains = p.explains;
    }
    config_at = λ i. record {
      volumes = (volumes ∙ t.serials) i;
      units = (units ∙ ap unit_volumes t.units) i;
      programs = (programs ∙ t.programs) i;
      layout = layout_at i;
      refuses = p.refuses;
      most_views = p.most_views;
      explains = p.explains;
    }

    no_tracks : IsConfigured c → (serial : List ℕ) → kept_shown store.volumes serial ≡ []
    no_tracks k serial = ap (λ vs. kept_shown vs serial) t.volumes ∙ nothing_shown (mounted_in c.volumes serial) (nothing_on c.volumes k.kept serial)

    shared_at : IsConfigured c → shown queue_of s.parts ≡ start_shared c (queue.shown (queue_of q)) FIRST_DAY
    shared_at k = ap (shown queue_of) parts ∙ (λ i. record {
      store = record { set = λ k serial. set_on (mounted_in (t.volumes i) serial) k; catalog = λ name. finite.get (t.catalog i) name };
      free = λ serial. free_on (t.volumes i) serial;
      kept = λ serial. no_tracks k serial i;
      records = queue.shown (queue_of q);
      holds = [];
      operations = [];
      cancels = [];
      spool = [];
      date = FIRST_DAY;
    })

    seats_at : map (shown_initiator (config_in queue_of p s) (queue_of s.parts.queue)) s.initiators.items ≡ map idle c.initiators
    seats_at =
        ap (map (shown_initiator (config_in queue_of p s) (queue_of s.parts.queue))) seats
        ∙ idle_shown (config_in queue_of p s) (queue_of s.parts.queue) fixed.initiators
        ∙ ap (map idle) t.initiators

    waiting_at : waiting_in (queue_of s.parts.queue).waiting s.backlog ≡ map waiting_at_start (queue_of q).waiting
    waiting_at = (λ i. waiting_in (queue_at i).waiting (backlog i)) ∙ all_listed (queue_of q).waiting

    pub world_at : IsConfigured c → world_in queue_of (config_in queue_of p s) s ≡ start_in c p.refuses p.most_views p.explains (queue_of q) last
    world_at k = λ i. record {
      config = config_at i;
      shared = shared_at k i;
      initiators = seats_at i;
      waiting = waiting_at i;
      jobs = jobs i;
      events = events i;
    }

    module _ (k : IsConfigured c) (law : StartsWithJobs) (sound : StartsSound) (supplied : StartsSupplied) (reads : ReadsWhatItHolds) where
      pub is_start : IsStart (start_in c p.refuses p.most_views p.explains (queue_of q) last)
      is_start =
          law c p.refuses p.most_views p.explains FIRST_DAY l (queue.shown (queue_of q)) (map waiting_at_start (queue_of q).waiting) last k for_machine.link
          (waits (queue_of q) last whole can (start_config c p.refuses p.most_views p.explains l) refl)

      same_serials : serials_of s.parts.store.volumes ≡ p.volumes.now
      same_serials = ap (λ (x : Parts Q). serials_of x.store.volumes) parts ∙ ap serials_of t.volumes ∙ sym t.serials ∙ sym volumes

      few_volumes : length p.volumes.now ≤ 16
      few_volumes =
          let same : length p.volumes.now ≡ length c.volumes = ap length (volumes ∙ t.serials) ∙ length-map c.volumes (λ m. m.serial) in
          omega (arith, same, k.few_volumes)

      pub begins_fit : IsFit queue_of (config_in queue_of p s) s
      begins_fit = record {
        good = record {
          volumes = same_serials;
          layout = refl;
          fields = subst HasOwnFields (sym layout_at) (reads l for_machine.holds);
          operations = subst (λ os. All (λ o. Contains p.volumes.now o.serial) os) (sym (ap (λ (x : Parts Q). x.units) parts))
              (All-nil (λ (o : Operation). Contains p.volumes.now o.serial));
          few = few_volumes;
        };
        holds = subst HoldsJobs (sym layout_at) for_machine.holds;
        days = subst HasDays (sym layout_at) for_machine.days;
        listed = ap (λ (x : RecordQueue). map (λ y. y.job) x.waiting) queue_at
            ∙ sym (ap (map (λ (y : Listing). y.job)) backlog ∙ jobs_listed (queue_of q).waiting);
        ready = λ place r h. absurd (nobody_there fixed.initiators place r (record {
          it = h.it;
          at = ap (λ (xs : List Initiator). slice_get xs place) (sym seats) ∙ h.at;
          running = h.running;
        }));
        unnamed = λ job none. subst (λ hs. HoldsNone hs job) (sym (ap (λ (x : Parts Q). x.names) parts)) (All-nil (λ (h : Hold). h.job ≢ job));
        steps = ap (λ (y : Layout). y.most_steps) layout_at ∙ for_machine.steps;
        few_jobs = omega (arith, jobs, few);
        few_events = omega (arith, events);
      }

      pub begins_kept : IsKept queue_of (config_in queue_of p s) s
      begins_kept = record {
        sound = subst IsSound (sym (world_at k)) (sound (start_in c p.refuses p.most_views p.explains (queue_of q) last) is_start);
        supplied = subst IsSupplied (sym (world_at k)) (supplied (start_in c p.refuses p.most_views p.explains (queue_of q) last) is_start);
        fit = begins_fit;
      }

-- no more lists of volumes than units are configured
pub units_few : (c : Configuration) (store : SharedStore) (fixed : Fixed) → IsConfigured c → IsTakenApart c store fixed →
    (volumes : List (List (List ℕ))) → volumes ≡ unit_volumes fixed.units → length volumes ≤ MOST_UNITS
units_few c store fixed is apart volumes those =
    let listed : length volumes ≡ length fixed.units = ap length those ∙ length-map fixed.units (λ (u : ConfiguredUnit). u.serials) in
    omega (arith, is.few_units, listed, ap length apart.units)

-- no two of the configured volumes have the same serial
pub volumes_apart : (c : Configuration) (store : SharedStore) (fixed : Fixed) → IsConfigured c → IsTakenApart c store fixed →
    (serials : List (List ℕ)) → serials ≡ fixed.serials → all_different bytes_eq serials ≡ true
volumes_apart c store fixed is apart serials those = all_differ serials (subst Differ (sym (those ∙ apart.serials)) is.serials)

-- each unit has its name and its volumes
pub units_counted : (us : List ConfiguredUnit) → length (unit_names us) ≡ length (unit_volumes us)
units_counted us = length-map us (λ (u : ConfiguredUnit). u.name) ∙ sym (length-map us (λ (u : ConfiguredUnit). u.serials))
