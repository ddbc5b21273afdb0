use Rattle.std.proofs.Common.{◌≡◌, ◌∙◌, ap, arith, length}
use Rattle.std.specs.Prelude.{min, unwrap_or}
use Rattle.gix_ref_file.specs.Tree.{bytes_at, bytes_of, node_at}
use Rattle.history_recovery.specs.Clearing.{max_piece}
use Rattle.history_recovery.proofs.FilePieces.{counted, piece_filled}
use Rattle.history_recovery.proofs.pieces.piece_at.Goals as goal

pub returns-clause-bytes : goal.returns-clause-bytes
returns-clause-bytes g c = λ honest.
    let tree = (g.F.Files.history c.args.files.now).tree in
    let path = c.args.path.now in
    let room : length c.deref_mut.result.now ≡ min c.args.most max_piece = omega (arith, c.deref_mut.ensures.len, c.in_ok-piece.ensures.len, c.min-room.ensures) in
    let full : length c.read_at.new.buffer ≡ c.in_ok-piece.piece.len = omega (arith, c.in_ok-read_at.ensures.len, c.deref_mut.ensures.len) in
    piece_filled (bytes_at tree path) c.args.at (min c.args.most max_piece) c.in_ok-piece.piece.len c.unwrap_or-count.result c.deref_mut.result.now c.read_at.new.buffer _ c.truncate.new.self.items c.truncate.ensures.items
    (c.in_ok-read_at.ensures.bytes honest) full
    (c.unwrap_or-count.ensures ∙ ap (λ o. unwrap_or o 0) (c.in_ok-read_at.ensures.count honest) ∙ counted (bytes_of (node_at tree path)) c.args.at (length c.deref_mut.result.now))
    room

pub returns-clause-few : goal.returns-clause-few
returns-clause-few g c = omega (arith, c.truncate.ensures.len, c.in_ok-piece.ensures.len, c.min-room.ensures)
