-- A selected job is one of the world's.
use Rattle.std.proofs.Common.{◌≡◌, ◌≢◌, ◌≤◌, ◌<◌, ℕ, ◌+◌, List, ◌∷◌, ◌++◌, length, get_or, map, take, drop, None, Some, ap, ◌∙◌, sym, subst}
use Rattle.std.specs.Prelude.{All, filter}
use Rattle.std.specs.List.{Contains}
use Rattle.std.proofs.lemmas.List.{drop_more, take-append-drop}
use Rattle.std.proofs.lemmas.List.Elements.{All-same, All-weaker}
use Rattle.queue_core.specs.declared.queue.Queued.{Queued}
use Rattle.queue_core.specs.Queues.{HasNoneOf, IsFirstOf}
use Rattle.queue_core.proofs.Numbered.{all_read, other_than, others_read, read_of}
use Rattle.world_meaning.specs.Selections.{HasNone, IsFirst}
use Rattle.world_meaning.specs.Worlds.{Waiting, without_waiting}
use Rattle.queued_job.specs.Selecting.{AreQueued, IsSelection, SelectsOf, queued_as}

module _ (waiting : List Waiting) (queue : List Queued) (same : AreQueued waiting queue) where
  of_each : (P : Queued → Type 0) → All P queue → All (λ w. P (queued_as w)) waiting
  of_each P h = all_read P queued_as waiting (All-same P (map queued_as waiting) queue same h)

  none_of : (class : ℕ) → HasNoneOf queue class → HasNone waiting class
  none_of class h = of_each (λ x. x.class ≢ class) h

  first_of : (class : ℕ) (q : Queued) → IsFirstOf queue class q → (w : Waiting) × IsFirst waiting class w × (queued_as w ≡ q)
  first_of class q h = (
    found.0,
    record {
      contained = found.1;
      of_class = ap (λ (x : Queued). x.class) found.2 ∙ h.of_class;
      highest = subst (λ p. All (λ x. x.class ≡ class → x.priority ≤ p) waiting) (sym (ap (λ (x : Queued). x.priority) found.2))
          (of_each (λ x. x.class ≡ class → x.priority ≤ q.priority) h.highest);
      earliest = subst (λ (x : Queued). All (λ w. w.class ≡ class → w.priority ≡ x.priority → x.job ≤ w.job) waiting) (sym found.2)
          (of_each (λ x. x.class ≡ class → x.priority ≡ q.priority → q.job ≤ x.job) h.earliest);
    },
    found.2,
  )
    where
      found : (w : Waiting) × Contains waiting w × (queued_as w ≡ q)
      found = read_of queued_as waiting q (subst (λ xs. Contains xs q) (sym same) h.contained)

  pub nobody : (classes : List ℕ) → All (HasNoneOf queue) classes → All (HasNone waiting) classes
  nobody classes h = All-weaker (HasNoneOf queue) (HasNone waiting) none_of classes h

  pub one : (classes : List ℕ) (i class : ℕ) (q : Queued) → i < length classes → class ≡ get_or classes i 0 → All (HasNoneOf queue) (take i classes) → IsFirstOf queue class q →
      IsSelection waiting classes (Some q)
  one classes i class q here is before h =
      let w = first_of class q h in (
        w.0,
        record {
          before = take i classes;
          class = class;
          after = drop (i + 1) classes;
          stands =
              sym (take-append-drop i classes)
              ∙ ap (λ xs. take i classes ++ xs) (drop_more classes i 0 here ∙ ap (λ c. c ∷ drop (i + 1) classes) (sym is));
          none_before = nobody (take i classes) before;
          first = w.1;
        },
        w.2,
      )

pub none_selected : (queue : List Queued) (classes : List ℕ) → All (HasNoneOf queue) classes → SelectsOf queue classes None
none_selected queue classes h = λ waiting same. nobody waiting queue same classes h

pub one_selected : (queue : List Queued) (classes : List ℕ) (i class : ℕ) (q : Queued) → i < length classes → class ≡ get_or classes i 0 → All (HasNoneOf queue) (take i classes) →
    IsFirstOf queue class q → SelectsOf queue classes (Some q)
one_selected queue classes i class q here is before h = λ waiting same. one waiting queue same classes i class q here is before h

pub removed : (waiting : List Waiting) (queue : List Queued) (job : ℕ) → AreQueued waiting queue →
    AreQueued (without_waiting waiting job) (filter (other_than (λ (x : Queued). x.job) job) queue)
removed waiting queue job same =
    sym (others_read (λ (x : Queued). x.job) queued_as job waiting) ∙ ap (filter (other_than (λ (x : Queued). x.job) job)) same

pub found : (waiting : List Waiting) (queue : List Queued) (q : Queued) → AreQueued waiting queue → Contains queue q →
    (w : Waiting) × Contains waiting w × (queued_as w ≡ q)
found waiting queue q same there = read_of queued_as waiting q (subst (λ xs. Contains xs q) (sym same) there)

pub missing : (waiting : List Waiting) (queue : List Queued) (job : ℕ) → AreQueued waiting queue → All (λ x. x.job ≢ job) queue →
    All (λ x. x.job ≢ job) waiting
missing waiting queue job same none = of_each waiting queue same (λ x. x.job ≢ job) none
