use Rattle.history_texts.proofs.TagTargets.{reads, tells}
use Rattle.history_texts.proofs.tag.tag_target.Goals as goal

pub returns-clause-told : goal.returns-clause-told
returns-clause-told c =
    tells c.args.kind c.args.content.now _ c.target_id.result c.ok.result c.from_bytes.ensures c.target_id.ensures c.ok.ensures.value

pub returns-clause-read : goal.returns-clause-read
returns-clause-read c =
    reads c.args.kind c.args.content.now c.ok.result (tells c.args.kind c.args.content.now _ c.target_id.result c.ok.result c.from_bytes.ensures c.target_id.ensures c.ok.ensures.value)
