use Rattle.std.proofs.Common.{◌≡◌, ◌||◌, Bool, length, nat_lt, ap, sym, ◌∙◌}
use Rattle.std.specs.List.{flat_map}
use Rattle.jcl_plan.specs.declared.fault.Cause.TheVariants.{P}
use Rattle.jcl_plan.specs.declared.fault.StatementFault.TheVariants.{TooManyPositional}
use Rattle.operand_core.specs.Faults.{earlier, told, when}
use Rattle.operand_core.specs.Operands.{is_crowded, part_faults, parts_of}
use Rattle.operand_core.specs.Reading.{Parts, all_parts, parts_in}
use Rattle.operand_core.proofs.Collected.{crowded_by}
use Rattle.operand_core.proofs.Told.{told_append}
use Rattle.operand_core.proofs.operand.operand_of.Goals as goal

pub returns : goal.returns
returns c =
    let text = c.args.text.now in
    let found = parts_in c.collect.new.found in
    let all : found ≡ all_parts (parts_of text) = c.in_ok-collect.ensures in
    let faults = flat_map part_faults (parts_of text) in
    let crowded : c.is_crowded-many.result ≡ is_crowded c.args.most (parts_of text) =
    c.is_crowded-many.ensures ∙ ap (λ n. nat_lt c.args.most n || found.crowded) (ap length c.as_slice.ensures.value) ∙ crowded_by c.args.most text found all in
    let many : Bool → _ = λ (b : Bool). told (when b (P TooManyPositional)) in
    record {
      positional = ap (λ (s : Parts). s.positional) all;
      keywords = ap (λ (s : Parts). s.keywords) all;
      fault = c.with_many.ensures
          ∙ ap (λ (s : Parts). earlier s.fault (many c.is_crowded-many.result)) all
          ∙ ap (earlier (told faults)) (ap many crowded)
          ∙ sym (told_append faults (when (is_crowded c.args.most (parts_of text)) (P TooManyPositional)));
    }
