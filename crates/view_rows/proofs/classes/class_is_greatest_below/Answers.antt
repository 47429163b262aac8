use Rattle.view_rows.proofs.CodeClasses.{class_is_greatest_below}
use Rattle.view_rows.proofs.classes.class_is_greatest_below.Goals as goal

pub returns : goal.returns
returns c = class_is_greatest_below
