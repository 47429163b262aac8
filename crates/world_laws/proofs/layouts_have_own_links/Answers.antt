use Rattle.std.proofs.Common.{arith}
use Rattle.world_laws.proofs.layouts_have_own_links.Goals as goal

pub returns-clause-first : goal.returns-clause-first
returns-clause-first c = record {
  link_from = omega arith;
  link_to = omega arith;
  first_step = record { from = omega arith; to = omega arith };
  steps = record { from = omega arith; to = omega arith };
  next_step = record { from = omega arith; to = omega arith };
  first_dd = record { from = omega arith; to = omega arith };
  dds = record { from = omega arith; to = omega arith };
  next_dd = record { from = omega arith; to = omega arith };
  below = record { from = omega arith; to = omega arith };
  cards = record { from = omega arith; to = omega arith };
  expiry_kind = record { from = omega arith; to = omega arith };
  expiry_days = record { from = omega arith; to = omega arith };
  next_cards = record { from = omega arith; to = omega arith };
}

pub returns-clause-second : goal.returns-clause-second
returns-clause-second c = record {
  link_from = omega arith;
  link_to = omega arith;
  first_step = record { from = omega arith; to = omega arith };
  steps = record { from = omega arith; to = omega arith };
  next_step = record { from = omega arith; to = omega arith };
  first_dd = record { from = omega arith; to = omega arith };
  dds = record { from = omega arith; to = omega arith };
  next_dd = record { from = omega arith; to = omega arith };
  below = record { from = omega arith; to = omega arith };
  cards = record { from = omega arith; to = omega arith };
  expiry_kind = record { from = omega arith; to = omega arith };
  expiry_days = record { from = omega arith; to = omega arith };
  next_cards = record { from = omega arith; to = omega arith };
}
