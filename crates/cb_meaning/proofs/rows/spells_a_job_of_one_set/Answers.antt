use Rattle.std.proofs.Common.{lit≤, refl, [], ◌∷◌}
use Rattle.cb_meaning.proofs.rows.spells_a_job_of_one_set.Goals as goal

pub returns : goal.returns
returns c = record {
  needs = refl;
  spelled = record {
    first = 1;
    behind = 2 ∷ 3 ∷ 4 ∷ [];
    begins = refl;
    once = refl;
    owned = record { from_one = lit≤ tt; within = lit≤ tt; in_use = refl; size = refl; of_kind = refl; of_job = refl };
    head = record { layout = refl; class = refl; priority = refl; message_class = refl; steps = refl; name = refl; count = refl; tests = refl; unused = refl };
    steps = (3 ∷ 4 ∷ [], [], refl, record { from_one = lit≤ tt; within = lit≤ tt; in_use = refl; size = refl; of_kind = refl; of_job = refl }, record { dds = refl; after_abend = refl; count = refl; name = refl; procedure_step = refl; program = refl; tests = refl; unused = refl }, (4 ∷ [], [], refl, record { from_one = lit≤ tt; within = lit≤ tt; in_use = refl; size = refl; of_kind = refl; of_job = refl }, record { kind = refl; status = refl; normal = refl; conditional = refl; name = refl; marks = refl; class = refl; cards = refl; volume = refl; volume_dd = refl; primary = refl; secondary = refl; units = refl; unused = refl }, (refl, record { from_one = lit≤ tt; within = lit≤ tt; in_use = refl; size = refl; of_kind = refl; of_job = refl }, record { kind = refl; relative = refl; name = refl; serial = refl; reference = refl; expiry_kind = refl; expiry_days = refl; unused = refl }), (refl, refl)), (refl, refl));
  };
}
