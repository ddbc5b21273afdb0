use Rattle.std.proofs.Common.{◌≡◌, ◌∷◌, ◌++◌, [], map, length, ap, sym, ◌∙◌}
use Rattle.std.specs.Prelude.{codes, decimal}
use Rattle.std.proofs.lemmas.List.{length-map, take_all}
use Rattle.history_model.specs.Objects.{hex}
use Rattle.history_model.specs.Replies.{NameLine}
use Rattle.history_model.specs.Spelling.{Line, part_text, parts_text}
use Rattle.history_files.proofs.Lines.{map_twice}
use Rattle.history_repository.specs.Held.{held_commit, held_id}
use Rattle.history_repository.specs.NamesShown.{shown_name}
use Rattle.history_repository.proofs.NameLines.{shown_part}
use Rattle.history_queries.proofs.ReplyTexts.{one_more, same_line}
use Rattle.history_queries.proofs.listed.names_text.Goals as goal

pub loop-shown-preserved : goal.loop-shown-preserved
loop-shown-preserved c =
    let shown = c.shown-item.result in
    let before = c.loop-shown.text.items in
    let after = c.line-in-loop-shown.new.text.items in
    let added = same_line (c.hex_digits-id.result.now ∷ c.hex_digits-commit.result.now ∷ c.deref.result.now ∷ []) (hex (held_id shown.held) ∷ hex (held_commit shown.held) ∷ shown.name.items ∷ []) before after c.in_ok-line-2.ensures (cc) in
    one_more shown_part c.args.names.now c.loop-shown.shown-index shown c.line.new.text.items before after c.loop-shown-test.true c.loop-shown.invariant
    (added ∙ ap (λ n. before ++ part_text (shown_part n)) c.shown-item.is)

pub returns : goal.returns
returns c =
    let names = c.args.names.now in
    let branch = c.args.branch.now in
    let written : c.format.result.now ≡ decimal (length names) = c.format.ensures.text in
    let count : c.as_bytes.result.now ≡ decimal (length (map shown_name names)) = c.as_bytes.ensures.value ∙ written ∙ ap decimal (sym (length-map names shown_name)) in
    let heading = Line (codes "ok" ∷ codes "names" ∷ decimal (length (map shown_name names)) ∷ branch ∷ []) in
    let told = same_line (c.as_slice.result.now ∷ c.as_slice-2.result.now ∷ c.as_bytes.result.now ∷ branch ∷ []) (codes "ok" ∷ codes "names" ∷ decimal (length (map shown_name names)) ∷ branch ∷ []) c.new-text.result.items c.line.new.text.items c.in_ok-line.ensures (cc) in
    let start : c.line.new.text.items ≡ part_text heading = told ∙ ap (λ t. t ++ part_text heading) c.new-text.ensures.items in
    c.loop-shown.invariant
    ∙ ap (λ ns. c.line.new.text.items ++ parts_text (map shown_part ns)) (take_all c.loop-shown.shown-index names c.loop-shown-test.false)
    ∙ ap (λ t. t ++ parts_text (map shown_part names)) start
    ∙ ap (λ ps. part_text heading ++ parts_text ps) (sym (map_twice (λ (line : NameLine). Line (hex line.id ∷ hex line.commit ∷ line.name ∷ [])) shown_name names))
