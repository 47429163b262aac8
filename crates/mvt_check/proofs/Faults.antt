-- A session that is stopped has a fault.
use Rattle.std.proofs.Common.{ℕ, List, [], sym, ap, inl, subst}
use Rattle.std.specs.Prelude.{IfOk, Result, Ok, Err, is_some}
use Rattle.session_text.specs.declared.statement.Statement.{Statement}
use Rattle.session_core.specs.Outcomes.{IsOutcome}
use Rattle.session_core.specs.Sessions.{session_behind}
use Rattle.run_options.specs.declared.Options.{Options}
use Rattle.session_core.specs.declared.SessionEnd.{SessionEnd}
use Rattle.session_core.specs.declared.SessionFault.{SessionFault}
use Rattle.session_core.specs.declared.SessionFault.TheVariants.{Memory, Stopped, WriteFailed}
use Rattle.mvt_check.specs.Checking.{IsFound, TellsFault, TellsStop}
use Rattle.mvt_check.specs.declared.session.Found.{Found}

module _ (o : Options) (above : ℕ) (statements : List Statement) where
  stop_found : (why : SessionFault) (found : Found) → IsOutcome {T = SessionEnd} o (session_behind [] statements) (Err why) [] →
      TellsStop above why found → IsFound o above statements found
  stop_found (Stopped fault line) found outcome told = inl (record {
    fault = ap is_some outcome.0;
    text = subst (λ f. TellsFault above f found.text.items) (sym outcome.0) told.0;
    refused = told.1;
    calm = told.2;
  })
  stop_found (WriteFailed line) found outcome told = absurd told
  stop_found Memory found outcome told = absurd told

  pub stops_found : {E : Type 0} (why : SessionFault) (r : Result Found E) → IsOutcome {T = SessionEnd} o (session_behind [] statements) (Err why) [] →
      IfOk r (TellsStop above why) → IfOk r (IsFound o above statements)
  stops_found why (Ok found) outcome told = stop_found why found outcome told
  stops_found why (Err error) outcome told = tt
