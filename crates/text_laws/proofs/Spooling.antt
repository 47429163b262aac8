-- What the writers get of a job that is over is printable, and what they write.
use Rattle.std.proofs.Common.{◌++◌, ◌∷◌, All, List, [], ℕ, subst}
use Rattle.std.specs.Prelude.{map}
use Rattle.std.proofs.lemmas.List.Elements.{All-append, All-cons, All-head, All-map, All-nil, All-same, All-tail, All-weaker}
use Rattle.jcl_plan.specs.declared.entry.JobLine.{JobLine}
use Rattle.jcl_plan.specs.declared.entry.Written.TheVariants as written
use Rattle.jcl_plan.specs.declared.entry.Written.{Written}
use Rattle.jcl_meaning.specs.declared.state.Output.{Output}
use Rattle.machine_meaning.specs.declared.machine.SpoolSet.{SpoolSet}
use Rattle.machine_meaning.specs.Spools.{Takes, left_of, output_set, sets_of}
use Rattle.line_laws.specs.Printable.{IsPrintable, IsPrintableLine, IsPrintableWritten}
use Rattle.print_laws.specs.Printable.{IsPrintableOutput}
use Rattle.print_laws.specs.Texts.{IsPrintableSpoolSet}
use Rattle.text_laws.proofs.Elements.{of_behind, of_front, of_one}

-- the sets of a job that is over
output_printable : (job : ℕ) (o : Output) → IsPrintableOutput o → IsPrintableSpoolSet (output_set job o)
output_printable job o h = record { class = h.class; lines = All-map IsPrintableWritten written.Record o.records h.records }

pub sets_printable : (job class : ℕ) (listing : List JobLine) (outputs : List Output) → IsPrintable (class ∷ []) → All IsPrintableLine listing →
    All IsPrintableOutput outputs → All IsPrintableSpoolSet (sets_of job class listing outputs)
sets_printable job class listing outputs is all sets =
    All-cons IsPrintableSpoolSet (record { class = class; job = job; lines = map written.Line listing }) (map (output_set job) outputs)
    (record { class = is; lines = All-map IsPrintableWritten written.Line listing all })
    (All-map IsPrintableSpoolSet (output_set job) outputs
    (All-weaker IsPrintableOutput (λ (o : Output). IsPrintableSpoolSet (output_set job o)) (output_printable job) outputs sets))

-- the first line of a class, and the spool without it
rest_printable : (set : SpoolSet) (lines : List Written) → IsPrintable (set.class ∷ []) → All IsPrintableWritten lines →
    All IsPrintableSpoolSet (left_of set lines)
rest_printable set [] is all = All-nil IsPrintableSpoolSet
rest_printable set (l ∷ lines) is all =
    of_one IsPrintableSpoolSet (record { class = set.class; job = set.job; lines = l ∷ lines }) (record { class = is; lines = all })

pub record IsPrintableTaking (class : ℕ) (l : Written) (left : List SpoolSet) : Type 0 where
  pub of_class : IsPrintable (class ∷ [])
  pub its : IsPrintableWritten l
  pub is_left : All IsPrintableSpoolSet left

pub takes_printable : (spool : List SpoolSet) (class job : ℕ) (l : Written) (left : List SpoolSet) → All IsPrintableSpoolSet spool →
    Takes spool class job l left → IsPrintableTaking class l left
takes_printable spool class job l left h t =
    let whole : All IsPrintableSpoolSet (t.before ++ t.set ∷ t.after) = subst (All IsPrintableSpoolSet) t.stands h in
    let from : All IsPrintableSpoolSet (t.set ∷ t.after) = of_behind IsPrintableSpoolSet t.before (t.set ∷ t.after) whole in
    let set : IsPrintableSpoolSet t.set = All-head IsPrintableSpoolSet t.set t.after from in
    let its_lines : All IsPrintableWritten (l ∷ t.lines) = subst (All IsPrintableWritten) t.is_first set.lines in
    record {
      of_class = subst (λ (x : ℕ). IsPrintable (x ∷ [])) t.of_class set.class;
      its = All-head IsPrintableWritten l t.lines its_lines;
      is_left = All-same IsPrintableSpoolSet left (t.before ++ (left_of t.set t.lines ++ t.after)) t.is_left
          (All-append IsPrintableSpoolSet t.before (left_of t.set t.lines ++ t.after) (of_front IsPrintableSpoolSet t.before (t.set ∷ t.after) whole)
          (All-append IsPrintableSpoolSet (left_of t.set t.lines) t.after
          (rest_printable t.set t.lines set.class (All-tail IsPrintableWritten l t.lines its_lines)) (All-tail IsPrintableSpoolSet t.set t.after from)));
    }
