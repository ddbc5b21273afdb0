use Rattle.gix_ref_file.specs.Tree.{bytes_at}
use Rattle.gix_ref_lock.proofs.LockLemmas.{back_puts}
use Rattle.gix_ref_lock.proofs.packed.Transaction.commit.Goals as goal

pub returns-clause-moments : goal.returns-clause-moments
returns-clause-moments g c = λ honest.
    let old = g.F.Files.history c.args.files.now in
    let new = g.F.Files.history c.given_back.new.files in
    let lock = c.args.self.lock in
    back_puts lock.place.items lock.path.items (bytes_at old.tree lock.path.items) old new lock.beside (c.given_back.ensures.moments honest)
