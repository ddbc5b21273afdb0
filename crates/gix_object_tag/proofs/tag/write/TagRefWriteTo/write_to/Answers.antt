use Rattle.std.proofs.lemmas.Result.{err_from_is_err_and}
use Rattle.gix_object_tag.specs.BodyTest.{is_whole_body}
use Rattle.gix_object_tag.specs.TagText.{head_piece, name_piece, tagger_piece, body_piece, is_bad_tagger}
use Rattle.gix_object_tag.specs.Views.{parts_of, tagger_of}
use Rattle.gix_object_tag.proofs.PieceLemmas.{stops_first, stops_second, stops_third, writes_last}
use Rattle.gix_object_tag.proofs.tag.write.TagRefWriteTo.write_to.Goals as goal

pub returns-in_err-write_head : goal.returns-in_err-write_head
returns-in_err-write_head g c =
    let parts = parts_of c.args.self.now in
    let bad = is_bad_tagger (tagger_of c.args.self.now.tagger) in
    let whole = is_whole_body parts.message parts.signature in
    let p = err_from_is_err_and c.from_residual.result c.from_residual.ensures.1 in
    rw (p.1, p.2) (stops_first _ _ (head_piece parts) (name_piece parts) (tagger_piece parts bad) (body_piece parts whole) c.in_err-write_head.field-0.0 c.in_err-write_head.ensures)

pub returns-in_err-write_name : goal.returns-in_err-write_name
returns-in_err-write_name g c =
    let parts = parts_of c.args.self.now in
    let bad = is_bad_tagger (tagger_of c.args.self.now.tagger) in
    let whole = is_whole_body parts.message parts.signature in
    let p = err_from_is_err_and c.from_residual-in_err-write_name.result c.from_residual-in_err-write_name.ensures.1 in
    rw (p.1, p.2) (stops_second _ _ _ (head_piece parts) (name_piece parts) (tagger_piece parts bad) (body_piece parts whole) tt c.in_err-write_name.field-0.0 c.in_ok-write_head.ensures c.in_err-write_name.ensures)

pub returns-in_err-write_tagger : goal.returns-in_err-write_tagger
returns-in_err-write_tagger g c =
    let parts = parts_of c.args.self.now in
    let bad = is_bad_tagger (tagger_of c.args.self.now.tagger) in
    let whole = is_whole_body parts.message parts.signature in
    let p = err_from_is_err_and c.from_residual-in_err-write_tagger.result c.from_residual-in_err-write_tagger.ensures.1 in
    rw (p.1, p.2) (stops_third _ _ _ _ (head_piece parts) (name_piece parts) (tagger_piece parts bad) (body_piece parts whole) tt tt c.in_err-write_tagger.field-0.0 c.in_ok-write_head.ensures c.in_ok-write_name.ensures c.in_err-write_tagger.ensures)

pub returns : goal.returns
returns g c =
    let parts = parts_of c.args.self.now in
    let bad = is_bad_tagger (tagger_of c.args.self.now.tagger) in
    let whole = is_whole_body parts.message parts.signature in
    writes_last _ _ _ _ _ (head_piece parts) (name_piece parts) (tagger_piece parts bad) (body_piece parts whole) tt tt tt c.write_body.result c.in_ok-write_head.ensures c.in_ok-write_name.ensures c.in_ok-write_tagger.ensures (rw c.is_whole_body-is_whole.ensures at c.write_body.ensures)
