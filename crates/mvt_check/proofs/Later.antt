-- The fault of a session behind its first event.
use Rattle.std.proofs.Common.{◌≡◌, ◌⊎◌, inl, inr, ℕ, Bool, true, false, ◌||◌, List, [], ◌∷◌, ◌++◌, drop, take, fold, Option, Some, None, refl, sym, ap, ◌∙◌}
use Rattle.config_core.specs.Configs.{Configuration, config_fault, nothing_configured}
use Rattle.machine_meaning.specs.declared.config.ConfigFault.{ConfigFault}
use Rattle.session_text.specs.declared.fault.Fault.{Fault}
use Rattle.session_text.specs.declared.statement.Says.{Says}
use Rattle.session_text.specs.declared.statement.Says.TheVariants.{Config, Events, Refused}
use Rattle.session_text.specs.declared.statement.Statement.{Statement}
use Rattle.session_core.specs.Configuring.{begins_with_event, late_by, late_in}
use Rattle.session_core.specs.Sessions.{Session, configuration_of, configured_by, fault_behind, has_begun, has_events, session_behind, session_by, unless_late}
use Rattle.session_core.specs.Opening.{IsOpened}
use Rattle.session_core.specs.declared.open.Opened.{Opened}
use Rattle.mvt_check.specs.Checking.{fault_by, fault_of, later_fault, or_later}

begun_more : (before : List Statement) (s : Statement) → has_events s.says ≡ true → has_begun (before ++ s ∷ []) ≡ true
begun_more [] s is = ap (λ b. b || false) is
begun_more (first ∷ before) s is = either (has_events first.says) (begun_more before s is)
  where
    either : (b : Bool) {later : Bool} → later ≡ true → (b || later) ≡ true
    either true is = refl
    either false is = is

configured_more : (c : Configuration) (before : List Statement) (s : Statement) →
    fold (λ c s. configured_by c s.says) c (before ++ s ∷ []) ≡ configured_by (fold (λ c s. configured_by c s.says) c before) s.says
configured_more c [] s = refl
configured_more c (first ∷ before) s = configured_more (configured_by c first.says) before s

-- configuration behind an event has a fault
late_told : (own : Option ConfigFault) (has_end : Bool) → (fault : Fault) × (unless_late own has_end true ≡ Some fault)
late_told (Some own) has_end = (_, refl)
late_told None false = (_, refl)
late_told None true = (_, refl)

stops : (found late : Option Fault) (fault : Fault) (before : List Statement) (s : Statement) (more : Session) (later : Option (Fault × ℕ))
    (says : _) (has_end : Bool) → found ≡ Some fault → late ≡ Some fault →
    (session_by found before s more).fault ≡ or_later (fault_by late s.line (Config says has_end)) later
stops found late fault before s more later says has_end f l =
    ap (λ x. (session_by x before s more).fault) f ∙ sym (ap (λ x. or_later (fault_by x s.line (Config says has_end)) later) l)

step : (before : List Statement) (s : Statement) (rest : List Statement) (c : Configuration) (late : Option Fault) (says : Says) → s.says ≡ says →
    (configuration_of (before ++ s ∷ []) ≡ c → has_begun (before ++ s ∷ []) ≡ true → late ≡ late_in c rest →
    (session_behind (before ++ s ∷ []) rest).fault ≡ later_fault late rest) →
    configuration_of before ≡ c → (has_begun before ≡ true) ⊎ (has_events says ≡ true) → late ≡ late_by c says (late_in c rest) →
    (session_by (fault_behind before says) before s (session_behind (before ++ s ∷ []) rest)).fault ≡ or_later (fault_by late s.line says) (later_fault late rest)
step before s rest c late (Events event times) is next configured begun told =
    next (configured_more nothing_configured before s ∙ ap (configured_by (configuration_of before)) is ∙ configured) (begun_more before s (ap has_events is)) told
step before s rest c late (Refused fault) is next configured begun told = refl
step before s rest c late (Config says has_end) is next configured (inl begun) told =
    let found = late_told (config_fault c says) has_end in
    stops (fault_behind before (Config says has_end)) late found.0 before s (session_behind (before ++ s ∷ []) rest) (later_fault late rest) says has_end
    (ap (λ b. unless_late (config_fault (configuration_of before) says) has_end b) begun
    ∙ ap (λ c. unless_late (config_fault c says) has_end true) configured ∙ found.1)
    (told ∙ found.1)
step before s rest c late (Config says has_end) is next configured (inr begun) told = absurd (cc)

pub fault_behind_start : (before rest : List Statement) (c : Configuration) (late : Option Fault) → configuration_of before ≡ c →
    (has_begun before ≡ true) ⊎ (begins_with_event rest ≡ true) → late ≡ late_in c rest → (session_behind before rest).fault ≡ later_fault late rest
fault_behind_start before [] c late configured begun told = refl
fault_behind_start before (s ∷ rest) c late configured begun told =
    step before s rest c late s.says refl (λ configured' begun' told'. fault_behind_start (before ++ s ∷ []) rest c late configured' (inl begun') told') configured begun told

-- an opened session has the first fault that stands behind its configuration
pub opened_fault : (statements : List Statement) (x : Opened) → IsOpened statements x → {behind : List Statement} → behind ≡ drop x.from statements →
    fault_of statements ≡ later_fault x.late behind
opened_fault statements x opened {behind} is =
    ap (λ (s : Session). s.fault) opened.by.session
    ∙ fault_behind_start (take x.from statements) (drop x.from statements) opened.config x.late (sym opened.by.configured) (inr opened.by.next) opened.late
    ∙ ap (later_fault x.late) (sym is)
