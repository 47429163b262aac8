-- How far the configuration has come.
use Rattle.std.proofs.Common.{◌≡◌, Bool, false, true, ◌||◌, List, [], ◌∷◌, ◌++◌, Some, None, Err, refl, sym, ap, subst, ◌∙◌}
use Rattle.machine_meaning.specs.declared.config.ConfigFault.{ConfigFault}
use Rattle.session_input.specs.declared.statement.ConfigStatement.{ConfigStatement}
use Rattle.config_core.specs.Configs.{Configuration, config_fault, configured}
use Rattle.sched_core.specs.Systems.{IsWhole, Machine}
use Rattle.session_text.specs.declared.fault.Fault.{Fault}
use Rattle.session_text.specs.declared.fault.Fault.TheVariants.{NoEnd}
use Rattle.session_text.specs.declared.statement.Says.TheVariants.{Config}
use Rattle.session_text.specs.declared.statement.Statement.{Statement}
use Rattle.run_options.specs.declared.Options.{Options}
use Rattle.session_core.specs.declared.SessionEnd.{SessionEnd}
use Rattle.session_core.specs.declared.SessionFault.TheVariants.{Stopped}
use Rattle.session_core.specs.Listings.{Lists}
use Rattle.session_core.specs.Outcomes.{IsOutcome}
use Rattle.session_core.specs.Sessions.{configuration_of, configured_by, events_of, fault_behind, has_begun, has_events, session_behind, told, unless_late}
use Rattle.session_core.proofs.Started.{IsFirst}
use Rattle.session_core.proofs.Standing.{config_of-more, goes_on, has_begun-more, no_events, stops_at}

-- these statements are configuration, and all of them stand
pub record Configured (all before rest : List Statement) (c : Configuration) : Type 0 where
  pub session : session_behind [] all ≡ session_behind before rest
  pub configured : c ≡ configuration_of before
  pub not_begun : has_begun before ≡ false

pub Configured-none : (all : List Statement) (c : Configuration) → c ≡ configuration_of [] → Configured all [] all c
Configured-none all c is = record { session = refl; configured = is; not_begun = refl }

pub Configured-more : (all before rest : List Statement) (s : Statement) (statement : ConfigStatement) (c new : Configuration) → Configured all before (s ∷ rest) c
    → s.says ≡ Config statement true → config_fault c statement ≡ None → new ≡ configured c statement → Configured all (before ++ s ∷ []) rest new
Configured-more all before rest s statement c new p says none is =
    let own : config_fault (configuration_of before) statement ≡ None = ap (λ x. config_fault x statement) (sym p.configured) ∙ none in
    let good : fault_behind before s.says ≡ None
    = ap (fault_behind before) says ∙ ap (λ o. unless_late o true (has_begun before)) own ∙ ap (unless_late None true) p.not_begun in
    record {
      session = p.session ∙ goes_on before rest s good;
      configured = is ∙ ap (λ x. configured x statement) p.configured ∙ sym (ap (configured_by (configuration_of before)) says) ∙ sym (config_of-more before s);
      not_begun = has_begun-more before s ∙ ap (λ b. b || has_events s.says) p.not_begun ∙ ap has_events says;
    }

-- nothing is listed
lists_nothing : (o : Options) (before : List Statement) (first : Machine) → has_begun before ≡ false → IsFirst o (configuration_of before) first
    → IsWhole first → Lists o before (events_of before) []
lists_nothing o before first none started whole = record {
  first = first;
  last = first;
  started = started;
  whole = whole;
  entries = [];
  drives = rw (no_events before none) refl;
  text = refl;
}

pub Configured-stops : (o : Options) (all before rest : List Statement) (s : Statement) (c : Configuration) (f : Fault) → ((first : Machine) × IsFirst o c first × IsWhole first)
    → Configured all before (s ∷ rest) c → fault_behind before s.says ≡ Some f → IsOutcome {T = SessionEnd} o (session_behind [] all) (Err (Stopped f s.line)) []
Configured-stops o all before rest s c f begun p some =
    let is = p.session ∙ stops_at before rest s f some in
    let started = subst (λ x. IsFirst o x begun.0) p.configured begun.1 in
    rw is (refl, lists_nothing o before begun.0 p.not_begun started begun.2)

-- one that is refused, or whose block has no END
pub refused_config : (all before rest : List Statement) (s : Statement) (statement : ConfigStatement) (has_end : Bool) (c : Configuration) (fault : ConfigFault)
    → Configured all before (s ∷ rest) c → s.says ≡ Config statement has_end → config_fault c statement ≡ Some fault → fault_behind before s.says ≡ Some (told fault)
refused_config all before rest s statement has_end c fault p says some =
    ap (fault_behind before) says ∙ ap (λ o. unless_late o has_end (has_begun before)) (ap (λ x. config_fault x statement) (sym p.configured) ∙ some)

pub open_config : (all before rest : List Statement) (s : Statement) (statement : ConfigStatement) (c : Configuration)
    → Configured all before (s ∷ rest) c → s.says ≡ Config statement false → config_fault c statement ≡ None → fault_behind before s.says ≡ Some NoEnd
open_config all before rest s statement c p says none =
    ap (fault_behind before) says ∙ ap (λ o. unless_late o false (has_begun before)) (ap (λ x. config_fault x statement) (sym p.configured) ∙ none)
