use Rattle.std.proofs.Common.{sym, arith}
use Rattle.jname_core.specs.Grammar.{IsDsNameWithin}
use Rattle.jname_core.proofs.Components.{ds_name_from_none}
use Rattle.jname_core.proofs.ds_name.read_within.Goals as goal

pub of-requires : goal.of-requires
of-requires c =
    let name : IsDsNameWithin c.args.limit c.args.text.now = ds_name_from_none c.args.limit c.args.text.now (sym c.in-None.ensures) in
    record { dotted = record { fits = omega (arith, name.dotted.fits, c.requires); joined = name.dotted.joined }; generation = name.generation }

pub returns-in-None : goal.returns-in-None
returns-in-None c = record { read = (c.of.ensures, ds_name_from_none c.args.limit c.args.text.now (sym c.in-None.ensures)) }
