use Rattle.std.proofs.Common.{◌≡◌, ◌∷◌, ◌++◌, [], map, length, ap, sym, ◌∙◌}
use Rattle.std.specs.Prelude.{codes, decimal}
use Rattle.std.specs.List.{flat_map}
use Rattle.std.proofs.lemmas.List.{length-map, take_all}
use Rattle.history_model.specs.Replies.{file_parts}
use Rattle.history_model.specs.Spelling.{Line, part_text, parts_text}
use Rattle.history_files.specs.Reading.{line_of}
use Rattle.history_queries.proofs.ReplyTexts.{same_line}
use Rattle.history_queries.proofs.listing.files_text.Goals as goal

pub returns : goal.returns
returns c =
    let files = map line_of c.args.files.now in
    let written : c.format.result.now ≡ decimal (length c.args.files.now) = c.format.ensures.text in
    let count : c.as_bytes.result.now ≡ decimal (length files) = c.as_bytes.ensures.value ∙ written ∙ ap decimal (sym (length-map c.args.files.now line_of)) in
    let heading = same_line (c.as_slice.result.now ∷ c.as_slice-2.result.now ∷ c.as_bytes.result.now ∷ []) (codes "ok" ∷ codes "files" ∷ decimal (length files) ∷ []) c.new-text.result.items c.line.new.text.items c.in_ok-line.ensures (cc) in
    let start : c.line.new.text.items ≡ part_text (Line (codes "ok" ∷ codes "files" ∷ decimal (length files) ∷ [])) =
    heading ∙ ap (λ t. t ++ part_text (Line (codes "ok" ∷ codes "files" ∷ decimal (length files) ∷ []))) c.new-text.ensures.items in
    let all = take_all c.loop-file.file-index c.args.files.now c.loop-file-test.false in
    c.loop-file.invariant ∙ ap (λ fs. c.line.new.text.items ++ parts_text (flat_map file_parts (map line_of fs))) all
    ∙ ap (λ t. t ++ parts_text (flat_map file_parts files)) start
