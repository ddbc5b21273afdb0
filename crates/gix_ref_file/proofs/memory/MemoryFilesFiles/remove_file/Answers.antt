use Rattle.std.proofs.Common.{◌≡◌, true, rules}
use Rattle.gix_ref_file.specs.Changes.{is_file_at}
use Rattle.gix_ref_file.proofs.Rooted.{rooted_made}
use Rattle.gix_ref_file.proofs.Histories.{makes}
use Rattle.gix_ref_file.proofs.Moved.{file_stands}
use Rattle.gix_ref_file.proofs.memory.MemoryFilesFiles.remove_file.Goals as goal

pub take-requires : goal.take-requires
take-requires c =
    let may : is_file_at c.args.self.now.nodes c.args.path.now ≡ true = search rules in
    file_stands _ _ may

pub returns-clause-change : goal.returns-clause-change
returns-clause-change c honest =
    let may : is_file_at c.args.self.now.nodes c.args.path.now ≡ true = search rules in
    makes _ _ _ _ may c.in_ok-take.ensures.ok

pub returns-clause-honest : goal.returns-clause-honest
returns-clause-honest c honest = rooted_made _ _ _ _ (returns-clause-change c honest) honest
