use Rattle.std.specs.Option.{option_copied}
use Rattle.list_values.specs.ControlBlocks.{control_blocks}
use Rattle.jcl_cards.specs.Keywords.{coded_text}
use Rattle.jcl_dds.proofs.DdKeywords.{put_ok, put_err}
use Rattle.jcl_dds.proofs.dd_keywords.put_blocks.Goals as goal

pub returns-in-Ok : goal.returns-in-Ok
returns-in-Ok c = put_ok (coded_text control_blocks (option_copied c.args.text)) c.in_ok-coded.ensures c.in-Ok.is

pub returns-in-Err : goal.returns-in-Err
returns-in-Err c = put_err (coded_text control_blocks (option_copied c.args.text)) c.in_ok-coded.ensures c.in-Err.is c.earlier.ensures
