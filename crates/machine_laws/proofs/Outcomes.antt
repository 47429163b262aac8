-- What is written of a session stands in front of what is listed of some of its events.
use Rattle.std.proofs.Common.{◌≡◌, inl, inr, ℕ, zero, suc, true, false, List, [], ◌∷◌, ◌++◌, append_assoc, drop, take, take-append-drop, Some, None, refl, sym, ap, subst, ◌∙◌}
use Rattle.std.specs.Prelude.{Result, Ok, Err}
use Rattle.std.proofs.lemmas.List.{append-nil}
use Rattle.std.proofs.lemmas.List.Concat.{flat_map-append}
use Rattle.std.proofs.lemmas.Bool.{or_right}
use Rattle.jcl_plan.specs.declared.entry.Entry.{Entry}
use Rattle.run_options.specs.declared.Options.{Options}
use Rattle.session_input.specs.declared.event.Event.{Event}
use Rattle.session_text.specs.declared.statement.Says.{Says}
use Rattle.session_text.specs.declared.statement.Says.TheVariants.{Config, Events, Refused}
use Rattle.session_text.specs.declared.statement.Statement.{Statement}
use Rattle.cb_meaning.specs.declared.layout.TheConstants.{QUEUE_LAYOUT}
use Rattle.config_core.specs.Configs.{Configuration}
use Rattle.sched_core.specs.Starting.{IsStarted}
use Rattle.sched_core.specs.Systems.{Drives, Machine}
use Rattle.session_core.specs.declared.SessionEnd.{SessionEnd}
use Rattle.session_core.specs.declared.SessionFault.{SessionFault}
use Rattle.session_core.specs.declared.SessionFault.TheVariants.{Memory, Stopped, WriteFailed}
use Rattle.session_core.specs.Listings.{Lists, StopsIn, text_of_all}
use Rattle.session_core.specs.Outcomes.{IsOutcome, WantsMemoryIn}
use Rattle.session_core.specs.Sessions.{configuration_of, configured_by, events_in, events_of, fault_behind, has_begun, has_events, refuses_in, session_behind}
use Rattle.session_core.proofs.Applied.{Drives-append}
use Rattle.session_core.proofs.Standing.{config_of-more, has_begun-more, no_events}
use Rattle.machine_laws.proofs.Chains.{text_goes_on}
use Rattle.machine_laws.proofs.Standing.{configuration_stays, stands_at, unbegun}

-- nothing is written; or it is the front of what is listed of the first of the events that stand
pub data IsListed (o : Options) (stands : List Statement) (written : List ℕ) : Type 0 where
  nothing : written ≡ [] → IsListed o stands written
  some : (events more : List Event) (listing behind : List ℕ) → events_of stands ≡ events ++ more → Lists o stands events listing → listing ≡ written ++ behind →
      IsListed o stands written

-- of no event there is nothing
empty_text : (old new : Machine) (entries : List (List Entry)) → Drives old [] entries new → text_of_all entries ≡ []
empty_text old new [] d = refl
empty_text old new (l ∷ entries) d = absurd d

lists_none : (o : Options) (config : List Statement) (events : List Event) (listing : List ℕ) → events ≡ [] → Lists o config events listing → listing ≡ []
lists_none o config events listing none l =
    l.text ∙ empty_text l.first l.last l.entries (subst (λ (es : List Event). Drives l.first es l.entries l.last) none l.drives)

front_of_nothing : (written behind : List ℕ) → written ++ behind ≡ [] → written ≡ []
front_of_nothing [] behind is = refl
front_of_nothing (c ∷ written) behind is = absurd cc

take_none : (n : ℕ) (events : List Event) → events ≡ [] → take n events ≡ []
take_none zero events is = refl
take_none (suc n) [] is = refl
take_none (suc n) (e ∷ events) is = absurd cc

configures_nothing : (c : Configuration) (says : Says) → has_events says ≡ true → configured_by c says ≡ c
configures_nothing c (Events e times) has = refl
configures_nothing c (Config statement has_end) has = absurd cc
configures_nothing c (Refused f) has = absurd cc

events_configure_nothing : (before : List Statement) (s : Statement) → has_events s.says ≡ true → configuration_of (before ++ s ∷ []) ≡ configuration_of before
events_configure_nothing before s has = config_of-more before s ∙ configures_nothing (configuration_of before) s.says has

-- a listing of what the same configures
pub as_configured : (o : Options) (config other : List Statement) (events : List Event) (listing : List ℕ) → configuration_of other ≡ configuration_of config →
    Lists o config events listing → Lists o other events listing
as_configured o config other events listing same l = record {
  first = l.first;
  last = l.last;
  started = subst (λ (c : Configuration). IsStarted c (refuses_in o) o.views o.explains QUEUE_LAYOUT l.first) (sym same) l.started;
  whole = l.whole;
  entries = l.entries;
  drives = l.drives;
  text = l.text;
}

module _ (o : Options) (statements before after : List Statement) (s : Statement)
    (stands : (session_behind [] statements).stands ≡ before ++ s ∷ after) where
  abbrev all : List Statement
  all = (session_behind [] statements).stands

  -- the events of a statement that has some
  with_events : has_events s.says ≡ true → (done : ℕ) (listing written behind : List ℕ) → Lists o before (events_of before ++ take done (events_in s.says)) listing →
      listing ≡ written ++ behind → IsListed o all written
  with_events has done listing written behind l front =
      some (events_of before ++ take done (events_in s.says)) (drop done (events_in s.says) ++ events_of after) listing behind
      (ap events_of stands ∙ flat_map-append (λ (x : Statement). events_in x.says) before (s ∷ after)
      ∙ ap (λ (es : List Event). events_of before ++ (es ++ events_of after)) (sym (take-append-drop done (events_in s.says)))
      ∙ ap (λ (es : List Event). events_of before ++ es) (append_assoc (take done (events_in s.says)) (drop done (events_in s.says)) (events_of after))
      ∙ sym (append_assoc (events_of before) (take done (events_in s.says)) (drop done (events_in s.says) ++ events_of after)))
      (as_configured o before all (events_of before ++ take done (events_in s.says)) listing configured l) front
    where
      begun : has_begun (before ++ s ∷ []) ≡ true
      begun = has_begun-more before s ∙ or_right (has_begun before) (has_events s.says) has

      assoc : (before ++ s ∷ []) ++ after ≡ before ++ s ∷ after
      assoc = append_assoc before (s ∷ []) after

      configured : configuration_of all ≡ configuration_of before
      configured =
          ap configuration_of stands ∙ ap configuration_of (sym assoc)
          ∙ configuration_stays statements (before ++ s ∷ []) after (stands ∙ sym assoc) begun ∙ events_configure_nothing before s has

  -- a configuration stands before all events
  without_events : has_begun before ≡ false → events_in s.says ≡ [] → (done : ℕ) (listing written behind : List ℕ) →
      Lists o before (events_of before ++ take done (events_in s.says)) listing → listing ≡ written ++ behind → IsListed o all written
  without_events none no_own done listing written behind l front =
      nothing (front_of_nothing written behind (sym front ∙ lists_none o before (events_of before ++ take done (events_in s.says)) listing
      (λ i. no_events before none i ++ take_none done (events_in s.says) no_own i) l))

  pub up_to : (done : ℕ) (listing written behind : List ℕ) → Lists o before (events_of before ++ take done (events_in s.says)) listing →
      listing ≡ written ++ behind → IsListed o all written
  up_to done listing written behind l front = by s.says refl
    where
      by : (says : Says) → s.says ≡ says → IsListed o all written
      by (Events e times) is = with_events (ap has_events is) done listing written behind l front
      by (Config statement has_end) is =
          without_events (unbegun _ has_end (has_begun before) (sym (ap (fault_behind before) is) ∙ stands_at before after s statements stands))
          (ap events_in is) done listing written behind l front
      by (Refused f) is =
          let clash : Some f ≡ None = sym (ap (fault_behind before) is) ∙ stands_at before after s statements stands in absurd cc

module _ (o : Options) (statements : List Statement) where
  abbrev standing : List Statement
  standing = (session_behind [] statements).stands

  pub whole_listed : (written : List ℕ) → Lists o standing (events_of standing) written → IsListed o standing written
  whole_listed written l = some (events_of standing) [] written [] (sym (append-nil (events_of standing))) l (sym (append-nil written))

  stopped_listed : (line : ℕ) (written : List ℕ) → StopsIn o standing line written → IsListed o standing written
  stopped_listed line written s =
      let first = s.lists.lists in
      up_to o statements s.before s.after s.statement s.stands_so s.done (s.earlier ++ s.own) written (drop s.taken s.own)
      (record {
        first = first.first;
        last = s.lists.last;
        started = first.started;
        whole = first.whole;
        entries = first.entries ++ s.lists.entries;
        drives = Drives-append first.first first.last s.lists.last (events_of s.before) (take s.done (events_in s.statement.says)) first.entries s.lists.entries
            first.drives s.lists.drives;
        text = (λ i. first.text i ++ s.lists.text i) ∙ sym (text_goes_on first.entries s.lists.entries);
      })
      (ap (λ (t : List ℕ). s.earlier ++ t) (sym (take-append-drop s.taken s.own)) ∙ sym (append_assoc s.earlier (take s.taken s.own) (drop s.taken s.own))
      ∙ sym (ap (λ (t : List ℕ). t ++ drop s.taken s.own) s.is_written))

  wanting_listed : (written : List ℕ) → WantsMemoryIn o standing written → IsListed o standing written
  wanting_listed written w =
      up_to o statements w.before w.after w.statement w.stands_so w.lists.done written written [] w.lists.lists (sym (append-nil written))

  pub outcome_listed : (result : Result SessionEnd SessionFault) (written : List ℕ) → IsOutcome o (session_behind [] statements) result written →
      IsListed o standing written
  outcome_listed (Ok end) written h = whole_listed written h.1
  outcome_listed (Err (Stopped fault line)) written h = whole_listed written h.1
  outcome_listed (Err (WriteFailed line)) written h = stopped_listed line written h
  outcome_listed (Err Memory) written (inl h) = wanting_listed written h
  outcome_listed (Err Memory) written (inr h) = nothing h
