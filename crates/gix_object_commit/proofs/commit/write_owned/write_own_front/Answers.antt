use Rattle.std.proofs.Common.{◌∷◌, [], ◌++◌, ap, Err}
use Rattle.std.proofs.lemmas.Result.{err_from_is_err_and}
use Rattle.gix_object_commit.specs.OwnedText.{own_parts, own_author_pieces, own_committer_pieces}
use Rattle.gix_object_commit.specs.Writing.{id_pieces, encoding_piece}
use Rattle.gix_object_lines.proofs.Pieces.{pieces_then, pieces_stop}
use Rattle.gix_object_commit.proofs.OwnPieces.{as_piece}
use Rattle.gix_object_commit.proofs.commit.write_owned.write_own_front.Goals as goal

pub returns-in_err-write_own_ids : goal.returns-in_err-write_own_ids
returns-in_err-write_own_ids g c =
    let commit = c.args.commit.now in
    let p = err_from_is_err_and c.from_residual.result c.from_residual.ensures.1 in
    λ headers same. rw (p.1, p.2) (pieces_stop _ _ (id_pieces (own_parts commit)) (own_author_pieces commit ++ (own_committer_pieces commit ++ encoding_piece commit.encoding headers ∷ [])) c.in_err-write_own_ids.field-0.0 c.in_err-write_own_ids.ensures)

pub returns-in_err-write_own_person : goal.returns-in_err-write_own_person
returns-in_err-write_own_person g c =
    let commit = c.args.commit.now in
    let p = err_from_is_err_and c.from_residual-in_err-write_own_person.result c.from_residual-in_err-write_own_person.ensures.1 in
    let fault = c.in_err-write_own_person.field-0.0 in
    λ headers same. rw (p.1, p.2) (
    let d = own_committer_pieces commit ++ encoding_piece commit.encoding headers ∷ [] in
    pieces_then _ _ _ (id_pieces (own_parts commit)) (own_author_pieces commit ++ d) (Err fault) c.in_ok-write_own_ids.ensures
    (pieces_stop _ _ (own_author_pieces commit) d fault c.in_err-write_own_person.ensures)
    )

pub returns-in_err-write_own_person-2 : goal.returns-in_err-write_own_person-2
returns-in_err-write_own_person-2 g c =
    let commit = c.args.commit.now in
    let p = err_from_is_err_and c.from_residual-in_err-write_own_person-2.result c.from_residual-in_err-write_own_person-2.ensures.1 in
    let fault = c.in_err-write_own_person-2.field-0.0 in
    λ headers same. rw (p.1, p.2) (
    let e = encoding_piece commit.encoding headers ∷ [] in
    pieces_then _ _ _ (id_pieces (own_parts commit)) (own_author_pieces commit ++ (own_committer_pieces commit ++ e)) (Err fault) c.in_ok-write_own_ids.ensures
    (pieces_then _ _ _ (own_author_pieces commit) (own_committer_pieces commit ++ e) (Err fault) c.in_ok-write_own_person.ensures
    (pieces_stop _ _ (own_committer_pieces commit) e fault c.in_err-write_own_person-2.ensures))
    )

pub returns : goal.returns
returns g c =
    let commit = c.args.commit.now in
    let r = c.write_encoding_line.result in
    λ headers same.
    (let e = encoding_piece commit.encoding headers ∷ [] in
    let last = as_piece _ _ (encoding_piece _ headers) (encoding_piece commit.encoding headers) r (ap (λ name. encoding_piece name headers) c.bstr_of.ensures) (c.write_encoding_line.ensures headers same) in
    pieces_then _ _ _ (id_pieces (own_parts commit)) (own_author_pieces commit ++ (own_committer_pieces commit ++ e)) r c.in_ok-write_own_ids.ensures
    (pieces_then _ _ _ (own_author_pieces commit) (own_committer_pieces commit ++ e) r c.in_ok-write_own_person.ensures
    (pieces_then _ _ _ (own_committer_pieces commit) e r c.in_ok-write_own_person-2.ensures last)))
