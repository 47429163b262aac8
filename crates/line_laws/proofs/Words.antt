-- The words of the listing are printable.
use Rattle.std.proofs.Common.{List, [], ◌∷◌, Option, Some, None, codes, refl, ℕ}
use Rattle.jcl_plan.specs.declared.outcome.Abend.{Abend}
use Rattle.jcl_plan.specs.declared.outcome.Abend.TheVariants as abend
use Rattle.jcl_plan.specs.declared.outcome.Fate.{Fate}
use Rattle.jcl_plan.specs.declared.outcome.Fate.TheVariants as fate
use Rattle.jcl_plan.specs.declared.outcome.Outcome.{Outcome}
use Rattle.jcl_plan.specs.declared.outcome.Outcome.TheVariants as outcome
use Rattle.jcl_plan.specs.declared.fault.Fault.{Fault}
use Rattle.jcl_plan.specs.declared.fault.Fault.TheVariants.{F1, F2, F3, F4, F5, F6, F7, F8, F9, F10}
use Rattle.jcl_plan.specs.declared.fault.Cause.{Cause}
use Rattle.jcl_plan.specs.declared.fault.Cause.TheVariants.{C, N, P, Q, B, A}
use Rattle.jcl_plan.specs.declared.words.TakeWord.{TakeWord}
use Rattle.jcl_plan.specs.declared.words.TakeWord.TheVariants as take
use Rattle.jcl_plan.specs.declared.words.DispWord.{DispWord}
use Rattle.jcl_plan.specs.declared.words.DispWord.TheVariants as disp
use Rattle.jcl_plan.specs.declared.words.BackWord.{BackWord}
use Rattle.jcl_plan.specs.declared.words.BackWord.TheVariants as back
use Rattle.jcl_plan.specs.RefusalNumbers.{event_number, number_of, queue_number}
use Rattle.jcl_plan.specs.Lines.{grown_text}
use Rattle.jcl_plan.specs.Texts.{abend_text, back_text, cause_text, disp_text, fate_text, fault_text, others_text, outcome_text, path_text, take_text}
use Rattle.line_laws.specs.Printable.{IsPrintableTake}
use Rattle.line_laws.proofs.Bytes.{Printable, join, number, numbered, word}

pub grown_is : (grown : Option ℕ) → Printable (grown_text grown)
grown_is None = word [] refl
grown_is (Some tracks) = join (word (codes " GROWN ") refl) (number tracks)

pub fate_is : (f : Fate) → Printable (fate_text f)
fate_is fate.Run = word (codes "RUN") refl
fate_is fate.Bypassed = word (codes "BYPASSED") refl
fate_is fate.Flushed = word (codes "FLUSHED") refl

pub fault_is : (f : Fault) → Printable (fault_text f)
fault_is F1 = word (codes "F1") refl
fault_is F2 = word (codes "F2") refl
fault_is F3 = word (codes "F3") refl
fault_is F4 = word (codes "F4") refl
fault_is F5 = word (codes "F5") refl
fault_is F6 = word (codes "F6") refl
fault_is F7 = word (codes "F7") refl
fault_is F8 = word (codes "F8") refl
fault_is F9 = word (codes "F9") refl
fault_is F10 = word (codes "F10") refl

pub cause_is : (cause : Cause) → Printable (cause_text cause)
cause_is (C n) = join (word (codes "C") refl) (number n)
cause_is (N n) = join (word (codes "N") refl) (number n)
cause_is (P fault) = join (word (codes "P") refl) (number (number_of fault))
cause_is (Q fault) = join (word (codes "Q") refl) (number (queue_number fault))
cause_is (B n) = join (word (codes "B") refl) (number n)
cause_is (A fault) = join (word (codes "A") refl) (number (event_number fault))

pub abend_is : (a : Abend) → Printable (abend_text a)
abend_is abend.S222 = word (codes "S222") refl
abend_is abend.S806 = word (codes "S806") refl
abend_is abend.SB37 = word (codes "SB37") refl
abend_is abend.SD37 = word (codes "SD37") refl
abend_is abend.SFF0 = word (codes "SFF0") refl
abend_is abend.SFF1 = word (codes "SFF1") refl
abend_is (abend.User code) = join (word (codes "U") refl) (numbered 4 code)

outcome_is : (o : Outcome) → Printable (outcome_text o)
outcome_is (outcome.Code code) = join (word (codes "C") refl) (numbered 4 code)
outcome_is (outcome.Abend a) = abend_is a
outcome_is outcome.Bypassed = word (codes "B") refl
outcome_is outcome.Flushed = word (codes "F") refl

others_are : (os : List Outcome) → Printable (others_text os)
others_are [] = word [] refl
others_are (o ∷ os) = join (join (word (codes ",") refl) (outcome_is o)) (others_are os)

pub path_is : (os : List Outcome) → Printable (path_text os)
path_is [] = word (codes "-") refl
path_is (o ∷ os) = join (outcome_is o) (others_are os)

pub take_is : (w : TakeWord) → IsPrintableTake w → Printable (take_text w)
take_is (take.Made serial) h = join (word (codes "MADE ") refl) (record { so = h })
take_is (take.Found serial) h = join (word (codes "FOUND ") refl) (record { so = h })
take_is (take.Received serial) h = join (word (codes "RECEIVED ") refl) (record { so = h })
take_is (take.Sysout class) h = join (word (codes "SYSOUT ") refl) (record { so = h })
take_is take.Dummy h = word (codes "DUMMY") refl
take_is (take.Cards n) h = join (word (codes "CARDS ") refl) (number n)

pub disp_is : (w : DispWord) → Printable (disp_text w)
disp_is disp.Kept = word (codes "KEPT") refl
disp_is disp.Deleted = word (codes "DELETED") refl
disp_is disp.Passed = word (codes "PASSED") refl
disp_is disp.Cataloged = word (codes "CATALOGED") refl
disp_is disp.Uncataloged = word (codes "UNCATALOGED") refl
disp_is disp.Unexpired = word (codes "UNEXPIRED") refl
disp_is disp.F3 = word (codes "F3") refl
disp_is disp.F4 = word (codes "F4") refl
disp_is disp.F8 = word (codes "F8") refl
disp_is (disp.Spooled n) = join (word (codes "SPOOLED ") refl) (number n)
disp_is disp.Nothing = word (codes "NONE") refl

pub back_is : (w : BackWord) → Printable (back_text w)
back_is back.Deleted = word (codes "DELETED") refl
back_is back.Kept = word (codes "KEPT") refl
