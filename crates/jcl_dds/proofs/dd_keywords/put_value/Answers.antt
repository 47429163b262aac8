use Rattle.std.specs.Option.{option_copied}
use Rattle.jcl_cards.specs.Keywords.{coded_text}
use Rattle.jcl_dds.proofs.DdKeywords.{put_ok, put_err}
use Rattle.jcl_dds.proofs.dd_keywords.put_value.Goals as goal

pub returns-in-Ok : goal.returns-in-Ok
returns-in-Ok g c = put_ok (coded_text g.R.ValueReader.reads (option_copied c.args.text)) c.coded_text.ensures c.in-Ok.is

pub returns-in-Err : goal.returns-in-Err
returns-in-Err g c = put_err (coded_text g.R.ValueReader.reads (option_copied c.args.text)) c.coded_text.ensures c.in-Err.is c.earlier.ensures
