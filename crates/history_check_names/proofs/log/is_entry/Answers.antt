use Rattle.std.proofs.Common.{subst}
use Rattle.history_texts.specs.Formats.{actor_of}
use Rattle.history_check_names.specs.Logs.{TellsIds, parts_of}
use Rattle.history_check_names.proofs.LogTexts.{uncut_tells_none, no_ids_tell_none, long_tells_none, actor_told}
use Rattle.history_check_names.proofs.log.is_entry.Goals as goal

pub returns-in_default : goal.returns-in_default
returns-in_default c = uncut_tells_none c.args.kind c.args.line.now c.in_default.ensures

pub returns-then-not-has_ids : goal.returns-then-not-has_ids
returns-then-not-has_ids c =
    no_ids_tell_none c.args.kind c.args.line.now (parts_of c.in-Some.parts) c.in-Some.ensures (subst (TellsIds c.args.kind (parts_of c.in-Some.parts)) c.if-not-has_ids.true c.has_ids.ensures)

pub returns-then-parts-gt-MAX_TITLE : goal.returns-then-parts-gt-MAX_TITLE
returns-then-parts-gt-MAX_TITLE c = long_tells_none c.args.kind c.args.line.now (parts_of c.in-Some.parts) c.in-Some.ensures c.if-parts-gt-MAX_TITLE.true

pub returns : goal.returns
returns c =
    actor_told c.args.kind c.args.line.now (parts_of c.in-Some.parts) actor_of c.in_ok-parse.field-0 c.is_some.result c.requires c.in-Some.ensures
    (subst (TellsIds c.args.kind (parts_of c.in-Some.parts)) c.if-not-has_ids.false c.has_ids.ensures) c.if-parts-gt-MAX_TITLE.false c.in_ok-parse.ensures c.is_some.ensures
