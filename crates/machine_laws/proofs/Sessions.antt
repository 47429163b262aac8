-- The machine that a session's standing statements configure is printable.
use Rattle.std.proofs.Common.{List, [], ◌∷◌, ◌++◌, fold, Option, Some, None}
use Rattle.std.proofs.lemmas.List.Elements.{All-head, All-nil, All-push, All-tail}
use Rattle.cb_meaning.specs.declared.layout.TheConstants.{QUEUE_LAYOUT}
use Rattle.session_text.specs.declared.fault.Fault.{Fault}
use Rattle.session_text.specs.declared.statement.Says.{Says}
use Rattle.session_text.specs.declared.statement.Says.TheVariants.{Config, Events, Refused}
use Rattle.session_text.specs.declared.statement.Statement.{Statement}
use Rattle.session_text.specs.Statements.{statements_of}
use Rattle.config_core.specs.Configs.{Configuration, nothing_configured}
use Rattle.session_core.specs.Sessions.{Session, configuration_of, configured_by, fault_behind, refuses_in, session_behind, session_by, session_of}
use Rattle.machine_laws.specs.Said.{SessionsStartPrintable}
use Rattle.machine_laws.proofs.Blocks.{IsPrintableSays}
use Rattle.machine_laws.proofs.Configurations.{IsPrintableConfiguration, configured_printable, none_printable}
use Rattle.machine_laws.proofs.Starting.{start_printable}
use Rattle.machine_laws.proofs.Statements.{ArePrintableStatements, IsPrintableStatement, statements_printable}

-- what stands of printable statements
stands_by : (f : Option Fault) (before : List Statement) (s : Statement) (more : Session) → ArePrintableStatements before →
    ArePrintableStatements more.stands → ArePrintableStatements (session_by f before s more).stands
stands_by None before s more h k = k
stands_by (Some f) before s more h k = h

stands_printable : (before statements : List Statement) → ArePrintableStatements before → ArePrintableStatements statements →
    ArePrintableStatements (session_behind before statements).stands
stands_printable before [] h k = h
stands_printable before (s ∷ statements) h k =
    stands_by (fault_behind before s.says) before s (session_behind (before ++ s ∷ []) statements) h
    (stands_printable (before ++ s ∷ []) statements (All-push IsPrintableStatement before s h (All-head IsPrintableStatement s statements k))
    (All-tail IsPrintableStatement s statements k))

-- what they configure, one after another
one_configured : (c : Configuration) (says : Says) → IsPrintableConfiguration c → IsPrintableSays says → IsPrintableConfiguration (configured_by c says)
one_configured c (Config s has_end) h p = configured_printable c s h p
one_configured c (Events e times) h p = h
one_configured c (Refused f) h p = h

all_configured : (c : Configuration) (statements : List Statement) → IsPrintableConfiguration c → ArePrintableStatements statements →
    IsPrintableConfiguration (fold (λ d s. configured_by d s.says) c statements)
all_configured c [] h k = h
all_configured c (s ∷ statements) h k =
    all_configured (configured_by c s.says) statements (one_configured c s.says h (All-head IsPrintableStatement s statements k))
    (All-tail IsPrintableStatement s statements k)

pub sessions_printable : SessionsStartPrintable
sessions_printable o ending text =
    let stands : List Statement = (session_of ending text).stands in
    let printable : ArePrintableStatements stands
    = stands_printable [] (statements_of ending text) (All-nil IsPrintableStatement) (statements_printable ending text) in
    start_printable (configuration_of stands) (refuses_in o) o.views o.explains QUEUE_LAYOUT _
    (all_configured nothing_configured stands none_printable printable)
