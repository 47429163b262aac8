use Rattle.std.proofs.Common.{◌≤◌, [], ◌∷◌, codes, refl, arith}
use Rattle.std.proofs.lemmas.List.Elements.{All-cons, All-nil}
use Rattle.list_values.specs.declared.condition.CodedTest.{CodedTest}
use Rattle.jcl_plan.specs.declared.outcome.TheConstants.{GREATEST_CODE}
use Rattle.jcl_cards.specs.declared.coded.Coded.TheVariants.{NotGiven, Value}
use Rattle.value_core.specs.declared.reference.DdReference.TheVariants.{Dd}
use Rattle.value_core.specs.declared.set.SetName.TheVariants as name
use Rattle.value_core.specs.declared.set.VolumeName.TheVariants as coded_volume
use Rattle.jcl_dds.specs.declared.dd.DdCard.{DdCard}
use Rattle.plan_laws.specs.Examples.{a_step, card}
use Rattle.statement_laws.specs.Ranges.{IsSoundDd}
use Rattle.deck_laws.specs.Sound.{IsSoundStep}
use Rattle.plan_laws.proofs.example.Goals as goal

abbrev second : DdCard
second = card (codes "E") (Value (name.OfDd (Dd (codes "D")))) (Value (coded_volume.OfDd (Dd (codes "D"))))

pub returns : goal.returns
returns c = record {
  job = record {
    name = (refl, tt, omega (arith));
    class = refl;
    priority = omega (arith);
    message_class = refl;
    codes = All-nil (λ (t : CodedTest). t.code ≤ GREATEST_CODE);
  };
  steps = All-cons IsSoundStep a_step [] (record {
    name = (refl, tt, omega (arith));
    procedure_step = tt;
    program = (refl, tt, omega (arith));
    codes = All-nil (λ (t : CodedTest). t.code ≤ GREATEST_CODE);
    begins_named = tt;
    dds = All-cons IsSoundDd (card (codes "D") NotGiven NotGiven) (second ∷ [])
        (record { name = (refl, tt, omega (arith)); word = tt; set_name = tt; volume = tt; space = tt; label = tt; class = tt })
        (All-cons IsSoundDd second []
        (record { name = (refl, tt, omega (arith)); word = tt; set_name = tt; volume = tt; space = tt; label = tt; class = tt }) (All-nil IsSoundDd));
  }) (All-nil IsSoundStep);
  plan = refl;
}
