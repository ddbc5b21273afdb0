use Rattle.std.proofs.Common.{◌∷◌, [], get_or}
use Rattle.std.specs.Prelude.{codes}
use Rattle.history_model.specs.Objects.{hex}
use Rattle.history_model.specs.Spelling.{parent_part}
use Rattle.history_queries.proofs.ReplyTexts.{one_more, same_line}
use Rattle.history_queries.proofs.showing.parent_lines.Goals as goal
use Rattle.gix_hash.specs.Id.{id_of}
use Rattle.gix_hash.specs.declared.object_id.ObjectId.TheVariants.{Sha1}

pub loop-parent-preserved : goal.loop-parent-preserved
loop-parent-preserved c =
    let i = c.loop-parent.parent-index in
    let parent = get_or c.args.parents.now i (Sha1 []) in
    let added = same_line (c.as_slice.result.now ∷ c.hex_digits.result.now ∷ []) (codes "parent" ∷ hex (id_of parent) ∷ []) c.loop-parent.text.items c.line.new.text.items c.in_ok-line.ensures (cc) in
    one_more (λ id. parent_part (hex (id_of id))) c.args.parents.now i (Sha1 []) c.args.text.now.items c.loop-parent.text.items c.line.new.text.items c.loop-parent-test.true c.loop-parent.invariant added
