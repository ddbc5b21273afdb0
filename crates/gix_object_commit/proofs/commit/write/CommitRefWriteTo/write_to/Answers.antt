use Rattle.std.proofs.Common.{◌++◌, Err}
use Rattle.std.proofs.lemmas.Result.{err_from_is_err_and}
use Rattle.gix_object_commit.specs.Views.{parts_of}
use Rattle.gix_object_lines.proofs.Pieces.{pieces_then, pieces_stop}
use Rattle.gix_object_commit.specs.Writing.{id_pieces, author_pieces, committer_pieces, encoding_pieces, header_pieces, message_pieces}
use Rattle.gix_object_commit.proofs.Commits.{whole}
use Rattle.gix_object_commit.proofs.commit.write.CommitRefWriteTo.write_to.Goals as goal

pub returns-in_err-write_ids : goal.returns-in_err-write_ids
returns-in_err-write_ids g c =
    let parts = parts_of c.args.self.now in
    let e = header_pieces parts ++ message_pieces parts in
    let b = author_pieces parts ++ (committer_pieces parts ++ (encoding_pieces parts ++ e)) in
    let p = err_from_is_err_and c.from_residual.result c.from_residual.ensures.1 in
    rw (p.1, p.2) (whole (g.W.Write.contents c.args.out.now) (g.W.Write.contents c.write_ids.new.out) parts (Err c.in_err-write_ids.field-0.0) (pieces_stop _ _ (id_pieces parts) b c.in_err-write_ids.field-0.0 c.in_err-write_ids.ensures))

pub returns-in_err-write_person : goal.returns-in_err-write_person
returns-in_err-write_person g c =
    let parts = parts_of c.args.self.now in
    let e = header_pieces parts ++ message_pieces parts in
    let d = encoding_pieces parts ++ e in
    let p = err_from_is_err_and c.from_residual-in_err-write_person.result c.from_residual-in_err-write_person.ensures.1 in
    let fault = c.in_err-write_person.field-0.0 in
    rw (p.1, p.2) (whole (g.W.Write.contents c.args.out.now) (g.W.Write.contents c.write_person.new.out) parts (Err c.in_err-write_person.field-0.0)
    (pieces_then _ _ _ (id_pieces parts) (author_pieces parts ++ (committer_pieces parts ++ d)) (Err fault) c.in_ok-write_ids.ensures
    (pieces_stop _ _ (author_pieces parts) (committer_pieces parts ++ d) fault c.in_err-write_person.ensures)))

pub returns-in_err-write_person-2 : goal.returns-in_err-write_person-2
returns-in_err-write_person-2 g c =
    let parts = parts_of c.args.self.now in
    let e = header_pieces parts ++ message_pieces parts in
    let d = encoding_pieces parts ++ e in
    let p = err_from_is_err_and c.from_residual-in_err-write_person-2.result c.from_residual-in_err-write_person-2.ensures.1 in
    let fault = c.in_err-write_person-2.field-0.0 in
    rw (p.1, p.2) (whole (g.W.Write.contents c.args.out.now) (g.W.Write.contents c.write_person-2.new.out) parts (Err c.in_err-write_person-2.field-0.0)
    (pieces_then _ _ _ (id_pieces parts) (author_pieces parts ++ (committer_pieces parts ++ d)) (Err fault) c.in_ok-write_ids.ensures
    (pieces_then _ _ _ (author_pieces parts) (committer_pieces parts ++ d) (Err fault) c.in_ok-write_person.ensures
    (pieces_stop _ _ (committer_pieces parts) d fault c.in_err-write_person-2.ensures))))

pub returns-in_err-write_encoding : goal.returns-in_err-write_encoding
returns-in_err-write_encoding g c =
    let parts = parts_of c.args.self.now in
    let e = header_pieces parts ++ message_pieces parts in
    let d = encoding_pieces parts ++ e in
    let p = err_from_is_err_and c.from_residual-in_err-write_encoding.result c.from_residual-in_err-write_encoding.ensures.1 in
    let fault = c.in_err-write_encoding.field-0.0 in
    rw (p.1, p.2) (whole (g.W.Write.contents c.args.out.now) (g.W.Write.contents c.write_encoding.new.out) parts (Err c.in_err-write_encoding.field-0.0)
    (pieces_then _ _ _ (id_pieces parts) (author_pieces parts ++ (committer_pieces parts ++ d)) (Err fault) c.in_ok-write_ids.ensures
    (pieces_then _ _ _ (author_pieces parts) (committer_pieces parts ++ d) (Err fault) c.in_ok-write_person.ensures
    (pieces_then _ _ _ (committer_pieces parts) d (Err fault) c.in_ok-write_person-2.ensures
    (pieces_stop _ _ (encoding_pieces parts) e fault c.in_err-write_encoding.ensures)))))

pub returns-in_err-write_headers : goal.returns-in_err-write_headers
returns-in_err-write_headers g c =
    let parts = parts_of c.args.self.now in
    let e = header_pieces parts ++ message_pieces parts in
    let d = encoding_pieces parts ++ e in
    let p = err_from_is_err_and c.from_residual-in_err-write_headers.result c.from_residual-in_err-write_headers.ensures.1 in
    let fault = c.in_err-write_headers.field-0.0 in
    rw (p.1, p.2) (whole (g.W.Write.contents c.args.out.now) (g.W.Write.contents c.write_headers.new.out) parts (Err c.in_err-write_headers.field-0.0)
    (pieces_then _ _ _ (id_pieces parts) (author_pieces parts ++ (committer_pieces parts ++ d)) (Err fault) c.in_ok-write_ids.ensures
    (pieces_then _ _ _ (author_pieces parts) (committer_pieces parts ++ d) (Err fault) c.in_ok-write_person.ensures
    (pieces_then _ _ _ (committer_pieces parts) d (Err fault) c.in_ok-write_person-2.ensures
    (pieces_then _ _ _ (encoding_pieces parts) e (Err fault) c.in_ok-write_encoding.ensures
    (pieces_stop _ _ (header_pieces parts) (message_pieces parts) fault c.in_err-write_headers.ensures))))))

pub returns : goal.returns
returns g c =
    let parts = parts_of c.args.self.now in
    let e = header_pieces parts ++ message_pieces parts in
    let d = encoding_pieces parts ++ e in
    let r = c.write_message.result in
    whole (g.W.Write.contents c.args.out.now) (g.W.Write.contents c.write_message.new.out) parts r
    (pieces_then _ _ _ (id_pieces parts) (author_pieces parts ++ (committer_pieces parts ++ d)) r c.in_ok-write_ids.ensures
    (pieces_then _ _ _ (author_pieces parts) (committer_pieces parts ++ d) r c.in_ok-write_person.ensures
    (pieces_then _ _ _ (committer_pieces parts) d r c.in_ok-write_person-2.ensures
    (pieces_then _ _ _ (encoding_pieces parts) e r c.in_ok-write_encoding.ensures
    (pieces_then _ _ _ (header_pieces parts) (message_pieces parts) r c.in_ok-write_headers.ensures c.write_message.ensures)))))
