use Rattle.std.proofs.Common.{[], ◌∷◌, ◌++◌}
use Rattle.std.specs.Hash as fed
use Rattle.bstr.specs.BStr.{bstr_bytes}
use Rattle.gix_hash.specs.Packed.{bytes_from-digits_of}
use Rattle.gix_object_tree.proofs.tree.hash.EntryRefHash.hash.Goals as goal

pub returns : goal.returns
returns g c =
    let write = g.H.Hasher.write in
    let entry = c.args.self.now in
    let mode = fed.u16 entry.mode.value ++ fed.bool entry.mode.padded in
    let name = fed.slice fed.u8 (bstr_bytes entry.filename) in
    let id = entry.oid.bytes.now in
    rw (bytes_from-digits_of id)
    (fed.fed_then write c.args.state.now c.hash-2.new.state c.hash-3.new.state (mode ++ name) (id ∷ [])
    (fed.fed_then write c.args.state.now c.hash.new.state c.hash-2.new.state mode name c.hash.ensures c.hash-2.ensures) c.hash-3.ensures)
