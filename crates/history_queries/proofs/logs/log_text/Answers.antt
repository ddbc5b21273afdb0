use Rattle.std.proofs.Common.{◌≡◌, ◌∷◌, ◌++◌, [], map, length, get_or, ap, sym, ◌∙◌}
use Rattle.std.specs.Prelude.{codes, decimal}
use Rattle.std.proofs.lemmas.List.{length-map, take_all}
use Rattle.gix_hash.specs.Id.{Id, id_of}
use Rattle.gix_hash.specs.declared.object_id.ObjectId.{ObjectId}
use Rattle.gix_hash.specs.declared.object_id.ObjectId.TheVariants.{Sha1}
use Rattle.history_model.specs.Objects.{hex}
use Rattle.history_model.specs.Spelling.{Line, Part, part_text, parts_text}
use Rattle.history_files.proofs.Lines.{map_twice}
use Rattle.history_queries.proofs.ReplyTexts.{one_more, same_line}
use Rattle.history_queries.proofs.logs.log_text.Goals as goal

pub loop-id-preserved : goal.loop-id-preserved
loop-id-preserved c =
    let ids = c.args.ids.now in
    let i = c.loop-id.id-index in
    let id = get_or ids i (Sha1 []) in
    let added = same_line (c.hex_digits.result.now ∷ []) (hex (id_of id) ∷ []) c.loop-id.text.items c.line-in-loop-id.new.text.items c.in_ok-line-2.ensures (cc) in
    one_more (λ id. Line (hex (id_of id) ∷ [])) ids i (Sha1 []) c.line.new.text.items c.loop-id.text.items c.line-in-loop-id.new.text.items c.loop-id-test.true c.loop-id.invariant added

pub returns : goal.returns
returns c =
    let ids = c.args.ids.now in
    let part_of : ObjectId → Part = λ id. Line (hex (id_of id) ∷ []) in
    let written : c.format.result.now ≡ decimal (length ids) = c.format.ensures.text in
    let count : c.as_bytes.result.now ≡ decimal (length (map id_of ids)) = c.as_bytes.ensures.value ∙ written ∙ ap decimal (sym (length-map ids id_of)) in
    let words = codes "ok" ∷ codes "log" ∷ decimal (length (map id_of ids)) ∷ [] in
    let told = same_line (c.as_slice.result.now ∷ c.as_slice-2.result.now ∷ c.as_bytes.result.now ∷ []) words c.new-text.result.items c.line.new.text.items c.in_ok-line.ensures (cc) in
    let start : c.line.new.text.items ≡ part_text (Line words) = told ∙ ap (λ t. t ++ part_text (Line words)) c.new-text.ensures.items in
    c.loop-id.invariant
    ∙ ap (λ some. c.line.new.text.items ++ parts_text (map part_of some)) (take_all c.loop-id.id-index ids c.loop-id-test.false)
    ∙ ap (λ t. t ++ parts_text (map part_of ids)) start
    ∙ ap (λ parts. part_text (Line words) ++ parts_text parts) (sym (map_twice (λ (id : Id). Line (hex id ∷ [])) id_of ids))
