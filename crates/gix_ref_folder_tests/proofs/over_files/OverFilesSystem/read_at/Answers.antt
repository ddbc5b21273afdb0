use Rattle.std.proofs.Common.{◌≡◌, length}
use Rattle.std.specs.Prelude.{option_map, IfOk, OnOk}
use Rattle.gix_ref_file.specs.Tree.{node_at, bytes_of, bytes_at, part, overwritten}
use Rattle.gix_ref_folder_tests.proofs.Reported.{count_told, read_told}
use Rattle.gix_ref_folder_tests.proofs.Spots.{reads}
use Rattle.gix_ref_folder_tests.proofs.over_files.OverFilesSystem.read_at.Goals as goal

pub returns-clause-count : goal.returns-clause-count
returns-clause-count g c =
    reads g.F.Files.is_honest g.F.Files.history c.args.self.now c.args.place.now c.in_ok-part.part c.in_ok-part.path.now c.files.result.now
    (λ tree path. IfOk c.reported.result (λ count. count ≡ option_map (λ bytes. length (part bytes c.args.at (length c.args.buffer.now))) (bytes_of (node_at tree path))))
    c.in_ok-part.ensures.spot c.files.ensures (λ honest. count_told _ _ _ c.reported.ensures (c.read_at.ensures.count honest))

pub returns-clause-bytes : goal.returns-clause-bytes
returns-clause-bytes g c =
    reads g.F.Files.is_honest g.F.Files.history c.args.self.now c.args.place.now c.in_ok-part.part c.in_ok-part.path.now c.files.result.now
    (λ tree path. OnOk c.reported.result (c.read_at.new.buffer ≡ overwritten c.args.buffer.now (part (bytes_at tree path) c.args.at (length c.args.buffer.now))))
    c.in_ok-part.ensures.spot c.files.ensures (λ honest. read_told _ _ _ c.reported.ensures (c.read_at.ensures.bytes honest))
