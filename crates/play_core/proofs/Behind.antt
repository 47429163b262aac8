-- A session with events behind its statements.
use Rattle.std.proofs.Common.{◌≡◌, ◌⊎◌, inl, inr, ℕ, ◌+◌, Bool, true, false, ◌&&◌, ◌||◌, List, [], ◌∷◌, ◌++◌, Option, Some, None, is_some, length, refl, sym, ap, ◌∙◌, append_assoc, arith}
use Rattle.std.specs.List.{list_all}
use Rattle.std.proofs.lemmas.Bool.{and_parts}
use Rattle.std.proofs.lemmas.List.{append-nil}
use Rattle.config_core.specs.Configs.{Configuration, config_fault}
use Rattle.machine_meaning.specs.declared.config.ConfigFault.{ConfigFault}
use Rattle.session_text.specs.declared.fault.Fault.{Fault}
use Rattle.session_text.specs.declared.statement.Says.{Says}
use Rattle.session_text.specs.declared.statement.Says.TheVariants.{Config, Events, Refused}
use Rattle.session_text.specs.declared.statement.Statement.{Statement}
use Rattle.session_core.specs.Configuring.{begins_with_event}
use Rattle.session_core.specs.Sessions.{Session, configuration_of, configured_by, fault_behind, has_begun, has_events, session_behind, session_by, unless_late}
use Rattle.session_core.proofs.Standing.{config_of-more, has_begun-more}
use Rattle.play_core.specs.Given.{statement_at, statements_at}
use Rattle.play_core.specs.Playing.{played}
use Rattle.play_core.specs.Searching.{AreEvents}
use Rattle.play_core.specs.declared.given.Given.{Given}

no_fault : (before : List Statement) (says : Says) → has_events says ≡ true → fault_behind before says ≡ None
no_fault before (Events e times) is = refl
no_fault before (Config s has_end) is = absurd cc
no_fault before (Refused f) is = absurd cc

no_config : (c : Configuration) (says : Says) → has_events says ≡ true → configured_by c says ≡ c
no_config c (Events e times) is = refl
no_config c (Config s has_end) is = absurd cc
no_config c (Refused f) is = absurd cc

-- events all stand
pub events_stand : (before rest : List Statement) → AreEvents rest → session_behind before rest ≡ record { stands = before ++ rest; fault = None }
events_stand before [] all = ap (λ xs. record { stands = xs; fault = None }) (sym (append-nil before))
events_stand before (s ∷ rest) all =
    let both = and_parts (has_events s.says) (list_all (λ x. has_events x.says) rest) all in
    ap (λ f. session_by f before s (session_behind (before ++ s ∷ []) rest)) (no_fault before s.says both.0)
    ∙ events_stand (before ++ s ∷ []) rest both.1
    ∙ ap (λ xs. record { stands = xs; fault = None }) (append_assoc before (s ∷ []) rest)

-- and configure nothing
pub events_configure : (before rest : List Statement) → AreEvents rest → configuration_of (before ++ rest) ≡ configuration_of before
events_configure before [] all = ap configuration_of (append-nil before)
events_configure before (s ∷ rest) all =
    let both = and_parts (has_events s.says) (list_all (λ x. has_events x.says) rest) all in
    ap configuration_of (sym (append_assoc before (s ∷ []) rest))
    ∙ events_configure (before ++ s ∷ []) rest both.1
    ∙ config_of-more before s ∙ no_config (configuration_of before) s.says both.0

-- a session with events behind its statements
played_by : (f : Option Fault) (before added : List Statement) (s : Statement) (more more_added : Session) → more_added ≡ played more added →
    session_by f before s more_added ≡ played (session_by f before s more) added
played_by None before added s more more_added is = is
played_by (Some f) before added s more more_added is = refl

pub session_played : (before statements added : List Statement) → AreEvents added → session_behind before (statements ++ added) ≡ played (session_behind before statements) added
session_played before [] added all = events_stand before added all
session_played before (s ∷ statements) added all =
    played_by (fault_behind before s.says) before added s (session_behind (before ++ s ∷ []) statements) (session_behind (before ++ s ∷ []) (statements ++ added))
    (session_played (before ++ s ∷ []) statements added all)

pub given_are_events : (line : ℕ) (given : List Given) → AreEvents (statements_at line given)
given_are_events line [] = refl
given_are_events line (g ∷ given) = given_are_events (line + 1) given

-- one more
pub statements_at-more : (line : ℕ) (given : List Given) (g : Given) → statements_at line (given ++ g ∷ []) ≡ statements_at line given ++ statement_at (line + length given) g ∷ []
statements_at-more line [] g = ap (λ n. statement_at n g ∷ []) (omega arith)
statements_at-more line (x ∷ given) g =
    ap (λ s. statement_at line x ∷ s) (statements_at-more (line + 1) given g ∙ ap (λ n. statements_at (line + 1) given ++ statement_at n g ∷ []) (omega arith))

-- what is no event has a fault, behind an event
late_some : (own : Option ConfigFault) (has_end : Bool) → is_some (unless_late own has_end true) ≡ true
late_some (Some own) has_end = refl
late_some None true = refl
late_some None false = refl

begun_fault : (before : List Statement) (says : Says) → has_begun before ≡ true → has_events says ≡ false → is_some (fault_behind before says) ≡ true
begun_fault before (Events e times) begun none = absurd cc
begun_fault before (Config s has_end) begun none =
    ap (λ b. is_some (unless_late (config_fault (configuration_of before) s) has_end b)) begun ∙ late_some (config_fault (configuration_of before) s) has_end
begun_fault before (Refused f) begun none = refl

stopped_by : (f : Option Fault) (before : List Statement) (s : Statement) (more : Session) → (is_some f ≡ true) ⊎ (is_some more.fault ≡ true) → is_some (session_by f before s more).fault ≡ true
stopped_by None before s more (inl is) = absurd cc
stopped_by None before s more (inr is) = is
stopped_by (Some f) before s more is = refl

or_true : (b : Bool) → (b || true) ≡ true
or_true true = refl
or_true false = refl

stop_step : (before rest : List Statement) (s : Statement) (b : Bool) → has_events s.says ≡ b → has_begun before ≡ true →
    (has_events s.says ≡ true → is_some (session_behind (before ++ s ∷ []) rest).fault ≡ true) → is_some (session_behind before (s ∷ rest)).fault ≡ true
stop_step before rest s false is begun more =
    stopped_by (fault_behind before s.says) before s (session_behind (before ++ s ∷ []) rest) (inl (begun_fault before s.says begun is))
stop_step before rest s true is begun more = stopped_by (fault_behind before s.says) before s (session_behind (before ++ s ∷ []) rest) (inr (more is))

rest_none : (s : Statement) (rest : List Statement) → list_all (λ x. has_events x.says) (s ∷ rest) ≡ false → has_events s.says ≡ true →
    list_all (λ x. has_events x.says) rest ≡ false
rest_none s rest none is = ap (λ b. b && list_all (λ x. has_events x.says) rest) (sym is) ∙ none

begun_more : (before : List Statement) (s : Statement) → has_events s.says ≡ true → has_begun (before ++ s ∷ []) ≡ true
begun_more before s is = has_begun-more before s ∙ ap (λ b. has_begun before || b) is ∙ or_true (has_begun before)

some_stop : (before rest : List Statement) → has_begun before ≡ true → list_all (λ s. has_events s.says) rest ≡ false → is_some (session_behind before rest).fault ≡ true
some_stop before [] begun none = absurd cc
some_stop before (s ∷ rest) begun none =
    stop_step before rest s (has_events s.says) refl begun (λ is. some_stop (before ++ s ∷ []) rest (begun_more before s is) (rest_none s rest none is))

-- so where an event stands first
pub first_stops : (before rest : List Statement) → begins_with_event rest ≡ true → list_all (λ s. has_events s.says) rest ≡ false → is_some (session_behind before rest).fault ≡ true
first_stops before [] first none = absurd cc
first_stops before (s ∷ rest) first none =
    stopped_by (fault_behind before s.says) before s (session_behind (before ++ s ∷ []) rest)
    (inr (some_stop (before ++ s ∷ []) rest (begun_more before s first) (rest_none s rest none first)))
