use Rattle.history_texts.proofs.TagLines.{line_told}
use Rattle.history_texts.proofs.written.tags.line_behind.Goals as goal

pub returns : goal.returns
returns c = line_told c.args.text.now c.args.word.now _ c.split_once.result c.in_ok-strip_prefix.ensures c.split_once.ensures
