use Rattle.std.proofs.Common.{◌≡◌, ◌∷◌, ◌++◌, [], map, length, ap, sym, ◌∙◌}
use Rattle.std.specs.Prelude.{codes, decimal}
use Rattle.std.proofs.lemmas.List.{length-map}
use Rattle.history_model.specs.Objects.{hex}
use Rattle.history_model.specs.Replies.{ok, spelled_actor}
use Rattle.history_model.specs.Spelling.{Line, Field, parent_part, actor_parts, part_text, parts_text}
use Rattle.history_texts.specs.Formats.{own_actor}
use Rattle.history_queries.proofs.ReplyTexts.{pieces, same_line}
use Rattle.history_queries.proofs.showing.commit_text.Goals as goal
use Rattle.gix_hash.specs.Id.{id_of}
use Rattle.history_files.proofs.Lines.{map_twice}

pub returns : goal.returns
returns c = λ kind plain.
    let commit = c.args.commit.now in
    let id = id_of c.args.id.now in
    let parents = map id_of commit.parents.items in
    let counted : c.as_bytes.result.now ≡ c.format.result.now = c.as_bytes.ensures.value in
    let written : c.format.result.now ≡ decimal c.len.result = c.format.ensures.text in
    let count : c.as_bytes.result.now ≡ decimal (length parents) = counted ∙ written ∙ ap decimal (c.len.ensures.value ∙ sym (length-map commit.parents.items id_of)) in
    let measured : c.as_bytes-3.result.now ≡ c.format-2.result.now = c.as_bytes-3.ensures.value in
    let written : c.format-2.result.now ≡ decimal (length c.as_bytes-2.result.now) = c.format-2.ensures.text in
    let size : c.as_bytes-3.result.now ≡ decimal (length commit.message) = measured ∙ written ∙ ap (λ text. decimal (length text)) c.as_bytes-2.ensures in
    let heading = same_line (c.as_slice.result.now ∷ c.as_slice-2.result.now ∷ c.as_slice-3.result.now ∷ c.hex_digits.result.now ∷ []) (codes "ok" ∷ codes "show" ∷ codes "commit" ∷ hex id ∷ []) c.new-text.result.items c.line.new.text.items c.in_ok-line.ensures (cc) in
    let tree = same_line (c.as_slice-4.result.now ∷ c.hex_digits-2.result.now ∷ []) (codes "tree" ∷ hex (id_of commit.tree) ∷ []) c.line.new.text.items c.line-2.new.text.items c.in_ok-line-2.ensures (cc) in
    let counts = same_line (c.as_slice-5.result.now ∷ c.as_bytes.result.now ∷ []) (codes "parents" ∷ decimal (length parents) ∷ []) c.line-2.new.text.items c.line-3.new.text.items c.in_ok-line-3.ensures (cc) in
    let message = same_line (c.as_slice-7.result.now ∷ c.as_bytes-3.result.now ∷ []) (codes "message" ∷ decimal (length commit.message) ∷ []) c.actor-2.new.text.items c.line-4.new.text.items c.in_ok-line-4.ensures (cc) in
    let told : c.parent_lines.new.text.items ≡ c.line-3.new.text.items ++ parts_text (map (λ parent. parent_part (hex parent)) parents) =
    c.in_ok-parent_lines.ensures ∙ ap (λ ids. c.line-3.new.text.items ++ parts_text (map (λ id. parent_part (hex (id_of id))) ids)) c.as_slice-6.ensures
    ∙ ap (λ ps. c.line-3.new.text.items ++ parts_text ps) (sym (map_twice (λ parent. parent_part (hex parent)) id_of commit.parents.items)) in
    let bytes : c.field.new.text.items ≡ c.line-4.new.text.items ++ part_text (Field commit.message) =
    c.in_ok-field.ensures ∙ ap (λ message. c.line-4.new.text.items ++ part_text (Field message)) c.as_bytes-4.ensures in
    pieces (ok (codes "show" ∷ codes "commit" ∷ hex id ∷ [])) (Line (codes "tree" ∷ hex (id_of commit.tree) ∷ [])) (Line (codes "parents" ∷ decimal (length parents) ∷ []))
    (Line (codes "message" ∷ decimal (length commit.message) ∷ [])) (Field commit.message)
    (map (λ parent. parent_part (hex parent)) parents) (actor_parts (codes "author") (spelled_actor (own_actor commit.author))) (actor_parts (codes "committer") (spelled_actor (own_actor commit.committer)))
    c.new-text.result.items c.line.new.text.items c.line-2.new.text.items c.line-3.new.text.items c.parent_lines.new.text.items c.actor.new.text.items c.actor-2.new.text.items c.line-4.new.text.items c.field.new.text.items
    c.new-text.ensures.items heading tree counts told (c.in_ok-actor.ensures plain.author) (c.in_ok-actor-2.ensures plain.committer) message bytes
