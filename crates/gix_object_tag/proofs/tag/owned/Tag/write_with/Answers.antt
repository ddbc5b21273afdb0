use Rattle.std.proofs.lemmas.Result.{err_from_is_err_and}
use Rattle.bstr.specs.BStr.{bstr_bytes}
use Rattle.gix_object_tag.specs.TagText.{head_piece, name_piece, tagger_piece, body_piece}
use Rattle.gix_object_tag.specs.OwnedText.{own_parts, is_bad_actor}
use Rattle.gix_object_tag.specs.Views.{text_of}
use Rattle.gix_object_tag.proofs.PieceLemmas.{stops_first, stops_second, stops_third, writes_last}
use Rattle.gix_object_tag.proofs.tag.owned.Tag.write_with.Goals as goal

pub returns-in_err-write_own_head : goal.returns-in_err-write_own_head
returns-in_err-write_own_head g c =
    let parts = own_parts (record c.args.self.now { message = bstr_bytes c.args.message; pgp_signature = text_of c.args.signature }) in
    let bad = is_bad_actor c.args.self.now.tagger in
    let p = err_from_is_err_and c.from_residual.result c.from_residual.ensures.1 in
    rw (p.1, p.2) (stops_first _ _ (head_piece parts) (name_piece parts) (tagger_piece parts bad) (body_piece parts c.args.is_whole) c.in_err-write_own_head.field-0.0 c.in_err-write_own_head.ensures)

pub returns-in_err-write_own_name : goal.returns-in_err-write_own_name
returns-in_err-write_own_name g c =
    let parts = own_parts (record c.args.self.now { message = bstr_bytes c.args.message; pgp_signature = text_of c.args.signature }) in
    let bad = is_bad_actor c.args.self.now.tagger in
    let p = err_from_is_err_and c.from_residual-in_err-write_own_name.result c.from_residual-in_err-write_own_name.ensures.1 in
    rw (p.1, p.2) (stops_second _ _ _ (head_piece parts) (name_piece parts) (tagger_piece parts bad) (body_piece parts c.args.is_whole) tt c.in_err-write_own_name.field-0.0 c.in_ok-write_own_head.ensures c.in_err-write_own_name.ensures)

pub returns-in_err-write_own_tagger : goal.returns-in_err-write_own_tagger
returns-in_err-write_own_tagger g c =
    let parts = own_parts (record c.args.self.now { message = bstr_bytes c.args.message; pgp_signature = text_of c.args.signature }) in
    let bad = is_bad_actor c.args.self.now.tagger in
    let p = err_from_is_err_and c.from_residual-in_err-write_own_tagger.result c.from_residual-in_err-write_own_tagger.ensures.1 in
    rw (p.1, p.2) (stops_third _ _ _ _ (head_piece parts) (name_piece parts) (tagger_piece parts bad) (body_piece parts c.args.is_whole) tt tt c.in_err-write_own_tagger.field-0.0 c.in_ok-write_own_head.ensures c.in_ok-write_own_name.ensures c.in_err-write_own_tagger.ensures)

pub returns : goal.returns
returns g c =
    let parts = own_parts (record c.args.self.now { message = bstr_bytes c.args.message; pgp_signature = text_of c.args.signature }) in
    let bad = is_bad_actor c.args.self.now.tagger in
    writes_last _ _ _ _ _ (head_piece parts) (name_piece parts) (tagger_piece parts bad) (body_piece parts c.args.is_whole) tt tt tt c.write_body.result c.in_ok-write_own_head.ensures c.in_ok-write_own_name.ensures c.in_ok-write_own_tagger.ensures c.write_body.ensures
