use Rattle.std.proofs.Common.{◌≡◌, ◌&&◌, true, rules}
use Rattle.gix_ref_file.specs.Tree.{is_path, node_at, is_folder}
use Rattle.gix_ref_file.specs.Changes.{is_empty_at}
use Rattle.gix_ref_file.proofs.Rooted.{rooted_made}
use Rattle.gix_ref_file.proofs.Histories.{makes}
use Rattle.gix_ref_file.proofs.Moved.{folder_stands}
use Rattle.gix_ref_file.proofs.memory.MemoryFilesFiles.remove_empty_folder.Goals as goal

pub take-requires : goal.take-requires
take-requires c =
    let is_one : is_path c.args.path.now ≡ true = search rules in
    let folder : is_folder (node_at c.args.self.now.nodes c.args.path.now) ≡ true = search rules in
    folder_stands _ _ is_one folder

pub returns-clause-change : goal.returns-clause-change
returns-clause-change c honest =
    let tree = c.args.self.now.nodes in
    let path = c.args.path.now in
    let is_one : is_path path ≡ true = search rules in
    let folder : is_folder (node_at tree path) ≡ true = search rules in
    let empty : is_empty_at tree path ≡ true = search rules in
    makes _ _ _ _ (λ i. is_one i && folder i && empty i) c.in_ok-take.ensures.ok

pub returns-clause-honest : goal.returns-clause-honest
returns-clause-honest c honest = rooted_made _ _ _ _ (returns-clause-change c honest) honest
