use Rattle.std.specs.Prelude.{◌≡◌, Some, None}
use Rattle.gix_ref_file.specs.Tree.{node_at, bytes_of}
use Rattle.gix_ref_folder_tests.proofs.Reported.{read_whole, read_none}
use Rattle.gix_ref_folder_tests.proofs.Spots.{reads}
use Rattle.gix_ref_folder_tests.proofs.over_files.OverFilesSystem.read.Goals as goal

pub returns-in-Some-2 : goal.returns-in-Some-2
returns-in-Some-2 g c =
    reads g.F.Files.is_honest g.F.Files.history c.args.self.now c.args.place.now c.in_ok-part.part c.in_ok-part.path.now c.files.result.now
    (λ tree path. Some c.read.new.out.items ≡ bytes_of (node_at tree path)) c.in_ok-part.ensures.spot c.files.ensures
    (λ honest. read_whole _ _ _ _ (rw c.in-Some-2.is at (rw c.in_ok-count.ensures at (c.read.ensures.count honest))) c.new-bytes.ensures.items (rw c.in_ok-count.ensures at (c.read.ensures.bytes honest)))

pub returns-in-None : goal.returns-in-None
returns-in-None g c =
    reads g.F.Files.is_honest g.F.Files.history c.args.self.now c.args.place.now c.in_ok-part.part c.in_ok-part.path.now c.files.result.now
    (λ tree path. None ≡ bytes_of (node_at tree path)) c.in_ok-part.ensures.spot c.files.ensures
    (λ honest. read_none _ (rw c.in-None.is at (rw c.in_ok-count.ensures at (c.read.ensures.count honest))))
