-- What a session's answer tells of failed calls.
use Rattle.std.proofs.Common.{◌≡◌, ℕ, Bool, true, false, List, Some, None, Result, Ok, Err, refl, sym, ap, ◌∙◌, ⊎_elim}
use Rattle.session_text.specs.declared.fault.Fault.{Fault}
use Rattle.session_text.specs.declared.fault.Fault.TheVariants as fault
use Rattle.session_text.specs.declared.statement.Ending.{Ending}
use Rattle.session_text.specs.declared.statement.Ending.TheVariants.{Whole, TooLong, ReadFailed}
use Rattle.run_options.specs.declared.Options.{Options}
use Rattle.session_core.specs.declared.SessionFault.{SessionFault}
use Rattle.session_core.specs.declared.SessionFault.TheVariants.{Stopped, WriteFailed, Memory}
use Rattle.session_core.specs.Failures.{AreTold}
use Rattle.session_core.specs.Outcomes.{IsOutcome, is_write_fault}
use Rattle.session_core.specs.Sessions.{session_of}
use Rattle.session_core.specs.Streams.{IsRead, SourceState}
use Rattle.session_core.proofs.Cuts.{tells_cut}
use Rattle.session_core.proofs.FaultKinds.{told_free, told_kind}

abbrev is_read_failed : Fault → Bool
is_read_failed fault.UnknownStatement = false
is_read_failed fault.BadValue = false
is_read_failed fault.DefinedTwice = false
is_read_failed fault.NoEnd = false
is_read_failed fault.TooLong = false
is_read_failed fault.ReadFailed = true
is_read_failed fault.WriteFailed = false
is_read_failed fault.LateConfiguration = false

abbrev is_write_failed : Fault → Bool
is_write_failed fault.UnknownStatement = false
is_write_failed fault.BadValue = false
is_write_failed fault.DefinedTwice = false
is_write_failed fault.NoEnd = false
is_write_failed fault.TooLong = false
is_write_failed fault.ReadFailed = false
is_write_failed fault.WriteFailed = true
is_write_failed fault.LateConfiguration = false

-- a text alone tells no fault of the writing
not_written : (ending : Ending) (text : List ℕ) (told : Fault) (line : ℕ) → (session_of ending text).fault ≡ Some (told, line) → told ≡ fault.WriteFailed → ⊥
not_written ending text told line is of =
    let free : told_kind is_write_failed (session_of ending text).fault ≡ false
    = told_free is_write_failed refl refl ending refl refl (λ cut. refl) refl refl text in
    let here : true ≡ false = sym (ap (told_kind is_write_failed) is ∙ ap is_write_failed of) ∙ free in
    cc

-- nor of the reading, where it was not cut
not_read : (ending : Ending) (text : List ℕ) (told : Fault) (line : ℕ) → (ending ≡ ReadFailed → ⊥) → (session_of ending text).fault ≡ Some (told, line)
    → told ≡ fault.ReadFailed → ⊥
not_read ending text told line whole is of =
    let free : told_kind is_read_failed (session_of ending text).fault ≡ false
    = told_free is_read_failed refl refl ending refl refl (λ cut. absurd (whole cut)) refl refl text in
    let here : true ≡ false = sym (ap (told_kind is_read_failed) is ∙ ap is_read_failed of) ∙ free in
    cc

-- a text that was cut tells a fault
cut_has_fault : (text : List ℕ) → (session_of ReadFailed text).fault ≡ None → ⊥
cut_has_fault text none =
    ⊎_elim (λ at. let e = sym at.told ∙ none in cc) (λ stopped. let e = sym stopped.told ∙ none in cc) (tells_cut text).told

module _ (old new : SourceState) (text : List ℕ) where
  whole_unfailed : (ending : Ending) → IsRead old new text ending → (session_of ending text).fault ≡ None → new.failed ≡ false
  whole_unfailed Whole read none = read.3
  whole_unfailed TooLong read none = read.3
  whole_unfailed ReadFailed read none = absurd (cut_has_fault text none)

  read_fault_failed : (ending : Ending) (told : Fault) (line : ℕ) → IsRead old new text ending → (session_of ending text).fault ≡ Some (told, line)
      → told ≡ fault.ReadFailed → new.failed ≡ true
  read_fault_failed Whole told line read is of = absurd (not_read Whole text told line (λ e. cc) is of)
  read_fault_failed TooLong told line read is of = absurd (not_read TooLong text told line (λ e. cc) is of)
  read_fault_failed ReadFailed told line read is of = read.2

  pub told_of : {T : Type 0} (o : Options) (ending : Ending) (written : List ℕ) (result : Result T SessionFault) → IsRead old new text ending
      → IsOutcome o (session_of ending text) result written → AreTold new.failed (is_write_fault result) result
  told_of o ending written (Ok end) read out = (whole_unfailed ending read out.0, refl)
  told_of o ending written (Err (Stopped told line)) read out = (read_fault_failed ending told line read out.0, not_written ending text told line out.0, refl)
  told_of o ending written (Err (WriteFailed line)) read out = refl
  told_of o ending written (Err Memory) read out = refl
