use Rattle.std.proofs.Common.{◌≡◌, ◌<◌, [], length, rules}
use Rattle.std.proofs.lemmas.List.{nil_from_length}
use Rattle.gix_object_message.proofs.BodyLemmas.{parted_on, parted_last, parted_none}
use Rattle.gix_object_message.proofs.body.last_paragraph.Goals as goal

pub loop-rest-preserved : goal.loop-rest-preserved
loop-rest-preserved c =
    let some : 0 < length c.in-Some.rest.now = search rules in
    parted_on c.args.body.now c.loop-rest.last.now c.in-Some.field-0-0.now c.in-Some.rest.now c.loop-rest.invariant c.in-Some.ensures some

pub returns-then-is_empty : goal.returns-then-is_empty
returns-then-is_empty c =
    let none : c.in-Some.rest.now ≡ [] = nil_from_length c.in-Some.rest.now (search rules) in
    parted_last c.args.body.now c.loop-rest.last.now c.in-Some.field-0-0.now c.in-Some.rest.now c.loop-rest.invariant c.in-Some.ensures none

pub returns-in_default : goal.returns-in_default
returns-in_default c = parted_none c.args.body.now c.loop-rest.last.now c.loop-rest.invariant c.in_default.ensures
