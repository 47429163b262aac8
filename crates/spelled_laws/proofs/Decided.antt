-- From one machine two readings of a deck lead to the same lines, and to machines that are the same but for what is open.
use Rattle.std.proofs.Common.{◌≡◌, ℕ, List, sym, ap, ◌∙◌, subst}
use Rattle.jcl_plan.specs.declared.entry.Entry.{Entry}
use Rattle.cb_meaning.specs.Spelled.{Records}
use Rattle.world_meaning.specs.declared.event.Event.TheVariants as event
use Rattle.world_meaning.specs.Readings.{Denoting, Reads, full, no_number, read, rejected}
use Rattle.world_meaning.specs.Records.{SameRecords}
use Rattle.world_meaning.specs.Transitions.{Happens}
use Rattle.world_meaning.specs.Worlds.{World}
use Rattle.open_laws.specs.Open.{SamenessIsKept}
use Rattle.spelled_laws.specs.Once.{ReadsAreDecided}
use Rattle.spelled_laws.proofs.Twice.{IsBeside, in_common}

-- a reading leaves the configuration as it is
config_kept : (job_of : Denoting) (w : World) (deck : List (List ℕ)) (lines : List Entry) (m : World) → Reads job_of w deck lines m → m.config ≡ w.config
config_kept job_of w deck lines m (no_number high told leads) = ap (λ x. x.config) leads
config_kept job_of w deck lines m (rejected cause low is told leads) = ap (λ x. x.config) leads
config_kept job_of w deck lines m (full plan low is few told leads) = ap (λ x. x.config) leads
config_kept job_of w deck lines m (read plan first q low is written told leads) = ap (λ x. x.config) leads

-- what was opened again behind both
module _ (m k one other : World) (leads : one ≡ record m { shared = one.shared }) (leads_too : other ≡ record k { shared = other.shared })
    (q r : Records) (rest : one.shared ≡ record m.shared { records = q }) (rest_too : other.shared ≡ record k.shared { records = r }) (e : IsBeside m k) where
  shared_kept : other.shared ≡ record one.shared { records = other.shared.records }
  shared_kept = λ i. record {
    store = (ap (λ s. s.store) rest_too ∙ (ap (λ x. x.shared.store) e ∙ sym (ap (λ s. s.store) rest))) i;
    free = (ap (λ s. s.free) rest_too ∙ (ap (λ x. x.shared.free) e ∙ sym (ap (λ s. s.free) rest))) i;
    kept = (ap (λ s. s.kept) rest_too ∙ (ap (λ x. x.shared.kept) e ∙ sym (ap (λ s. s.kept) rest))) i;
    records = other.shared.records;
    holds = (ap (λ s. s.holds) rest_too ∙ (ap (λ x. x.shared.holds) e ∙ sym (ap (λ s. s.holds) rest))) i;
    operations = (ap (λ s. s.operations) rest_too ∙ (ap (λ x. x.shared.operations) e ∙ sym (ap (λ s. s.operations) rest))) i;
    cancels = (ap (λ s. s.cancels) rest_too ∙ (ap (λ x. x.shared.cancels) e ∙ sym (ap (λ s. s.cancels) rest))) i;
    spool = (ap (λ s. s.spool) rest_too ∙ (ap (λ x. x.shared.spool) e ∙ sym (ap (λ s. s.spool) rest))) i;
    date = (ap (λ s. s.date) rest_too ∙ (ap (λ x. x.shared.date) e ∙ sym (ap (λ s. s.date) rest))) i;
  }

  beside_kept : other ≡ record one { shared = record one.shared { records = other.shared.records } }
  beside_kept = λ i. record {
    config = (ap (λ x. x.config) leads_too ∙ (ap (λ x. x.config) e ∙ sym (ap (λ x. x.config) leads))) i;
    shared = shared_kept i;
    initiators = (ap (λ x. x.initiators) leads_too ∙ (ap (λ x. x.initiators) e ∙ sym (ap (λ x. x.initiators) leads))) i;
    waiting = (ap (λ x. x.waiting) leads_too ∙ (ap (λ x. x.waiting) e ∙ sym (ap (λ x. x.waiting) leads))) i;
    jobs = (ap (λ x. x.jobs) leads_too ∙ (ap (λ x. x.jobs) e ∙ sym (ap (λ x. x.jobs) leads))) i;
    events = (ap (λ x. x.events) leads_too ∙ (ap (λ x. x.events) e ∙ sym (ap (λ x. x.events) leads))) i;
  }

-- records opened again, in the layout of the machine before
opened_again : (job_of : Denoting) (w one : World) (deck : List (List ℕ)) (lines : List Entry) → (h : Happens job_of w (event.Read deck) lines one) →
    SameRecords w.config.layout h.middle.shared.records one.shared.records
opened_again job_of w one deck lines h =
    subst (λ c. SameRecords c.layout h.middle.shared.records one.shared.records) (config_kept job_of w deck lines h.middle h.does)
    (subst (λ s. SameRecords h.middle.config.layout h.middle.shared.records s) (sym (ap (λ s. s.records) h.reopened.rest)) h.reopened.same)

pub reads_are_decided : SamenessIsKept → ReadsAreDecided
reads_are_decided kept job_of w one other deck lines more own records records_too a b =
    let both = in_common job_of w deck own (kept w.config.layout own) one.shared.records other.shared.records records records_too lines more a.middle b.middle
    a.does b.does (opened_again job_of w one deck lines a) (opened_again job_of w other deck more b) in
    let config : one.config ≡ w.config = ap (λ x. x.config) a.rest ∙ config_kept job_of w deck lines a.middle a.does in
    record {
      lines = both.0;
      same = record {
        records = subst (λ c. SameRecords c.layout one.shared.records other.shared.records) (sym config) both.2;
        rest = beside_kept a.middle b.middle one other a.rest b.rest a.reopened.records b.reopened.records a.reopened.rest b.reopened.rest both.1;
      };
    }
