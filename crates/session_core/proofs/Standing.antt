-- The statements that stand, one after another.
use Rattle.std.proofs.Common.{◌≡◌, ℕ, ◌+◌, ◌<◌, ◌≤◌, Bool, true, false, ◌||◌, List, [], ◌∷◌, ◌++◌, length, take, drop, get_or, Option, Some, None, refl, sym, ap, ◌∙◌, append_assoc, arith, length-drop, get_or-drop}
use Rattle.std.proofs.lemmas.Bool.{or_parts}
use Rattle.std.proofs.lemmas.List.{append-nil, at_drop_more, drop_all, take_more}
use Rattle.std.proofs.lemmas.List.Concat.{flat_map-append}
use Rattle.std.proofs.lemmas.List.Folds.{list_any-append}
use Rattle.std.proofs.lemmas.List.Sums.{fold_push}
use Rattle.config_core.specs.Configs.{nothing_configured}
use Rattle.session_text.specs.declared.fault.Fault.{Fault}
use Rattle.session_text.specs.declared.statement.Says.{Says}
use Rattle.session_text.specs.declared.statement.Says.TheVariants.{Config, Events, Refused}
use Rattle.session_text.specs.declared.statement.Statement.{Statement}
use Rattle.session_core.specs.Sessions.{configuration_of, configured_by, events_in, events_of, fault_behind, has_begun, has_events, session_behind, session_by}

-- what stands begins with what stood already
front_by : (f : Option Fault) (before statements : List Statement) (s : Statement) → (after : List Statement) × ((session_behind (before ++ s ∷ []) statements).stands ≡ (before ++ s ∷ []) ++ after)
    → (after : List Statement) × ((session_by f before s (session_behind (before ++ s ∷ []) statements)).stands ≡ before ++ after)
front_by None before statements s more = (s ∷ more.0, more.1 ∙ append_assoc before (s ∷ []) more.0)
front_by (Some f) before statements s more = ([], sym (append-nil before))

pub front : (before statements : List Statement) → (after : List Statement) × ((session_behind before statements).stands ≡ before ++ after)
front before [] = ([], sym (append-nil before))
front before (s ∷ statements) = front_by (fault_behind before s.says) before statements s (front (before ++ s ∷ []) statements)

-- a statement that nothing refuses
pub goes_on : (before statements : List Statement) (s : Statement) → fault_behind before s.says ≡ None → session_behind before (s ∷ statements) ≡ session_behind (before ++ s ∷ []) statements
goes_on before statements s none = ap (λ f. session_by f before s (session_behind (before ++ s ∷ []) statements)) none

pub stops_at : (before statements : List Statement) (s : Statement) (f : Fault) → fault_behind before s.says ≡ Some f → session_behind before (s ∷ statements) ≡ record { stands = before; fault = Some (f, s.line) }
stops_at before statements s f some = ap (λ o. session_by o before s (session_behind (before ++ s ∷ []) statements)) some

-- one statement more
pub events_of-more : (before : List Statement) (s : Statement) → events_of (before ++ s ∷ []) ≡ events_of before ++ events_in s.says
events_of-more before s = flat_map-append (λ x. events_in x.says) before (s ∷ []) ∙ ap (λ x. events_of before ++ x) (append-nil (events_in s.says))

pub config_of-more : (before : List Statement) (s : Statement) → configuration_of (before ++ s ∷ []) ≡ configured_by (configuration_of before) s.says
config_of-more before s = fold_push (λ c x. configured_by c x.says) nothing_configured before s

or_none : (b : Bool) → (b || false) ≡ b
or_none true = refl
or_none false = refl

pub has_begun-more : (before : List Statement) (s : Statement) → has_begun (before ++ s ∷ []) ≡ (has_begun before || has_events s.says)
has_begun-more before s = list_any-append (λ x. has_events x.says) before (s ∷ []) ∙ ap (λ b. has_begun before || b) (or_none (has_events s.says))

-- no events yet
no_events_in : (says : Says) → has_events says ≡ false → events_in says ≡ []
no_events_in (Events e times) none = absurd cc
no_events_in (Config s has_end) none = refl
no_events_in (Refused f) none = refl

pub no_events : (before : List Statement) → has_begun before ≡ false → events_of before ≡ []
no_events [] none = refl
no_events (s ∷ before) none =
    let both = or_parts (has_events s.says) (has_begun before) none in
    rw (no_events_in s.says both.0) (no_events before both.1)

-- the statement at an index of a list's rest
pub drop_at : (all : List Statement) (index : ℕ) (s : Statement) → index < length all → s ≡ get_or all index s → drop index all ≡ s ∷ drop (index + 1) all
drop_at all index s lt is = at_drop_more (λ xs. xs) all index s lt ∙ ap (λ x. x ∷ drop (index + 1) all) (sym is)

pub take_at : (all : List Statement) (index : ℕ) (s : Statement) → index < length all → s ≡ get_or all index s → take (index + 1) all ≡ take index all ++ s ∷ []
take_at all index s lt is = take_more all index s lt ∙ ap (λ x. take index all ++ x ∷ []) (sym is)

-- the statement at an index of the rest behind a place
pub rest_at : (all rest : List Statement) (from index : ℕ) (s : Statement) → rest ≡ drop from all → index < length rest → s ≡ get_or rest index s →
    (drop (from + index) all ≡ s ∷ drop (from + (index + 1)) all) × (take (from + (index + 1)) all ≡ take (from + index) all ++ s ∷ [])
rest_at all rest from index s is lt item =
    let long : length rest ≡ length (drop from all) = ap length is in
    let within : from + index < length all = omega (arith, length-drop from all) in
    let same : s ≡ get_or all (from + index) s = item ∙ ap (λ xs. get_or xs index s) is ∙ get_or-drop from all index s in
    let next : from + index + 1 ≡ from + (index + 1) = omega arith in
    (rw next at (drop_at all (from + index) s within same), rw next at (take_at all (from + index) s within same))

pub rest_done : (all rest : List Statement) (from index : ℕ) → rest ≡ drop from all → length rest ≤ index → drop (from + index) all ≡ []
rest_done all rest from index is le =
    let long : length rest ≡ length (drop from all) = ap length is in
    drop_all (from + index) all (omega (arith, length-drop from all))
