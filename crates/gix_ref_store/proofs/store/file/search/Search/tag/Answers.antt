use Rattle.std.proofs.Common.{[]}
use Rattle.std.specs.Prelude.{codes}
use Rattle.std.proofs.lemmas.Result.{err_from_is_err_and}
use Rattle.gix_ref_format.specs.Lookup.{placed, branch_names}
use Rattle.gix_ref_store.specs.Searches.{reads_in}
use Rattle.gix_ref_store.proofs.MetLemmas.{fault_first, on_to_rest}
use Rattle.gix_ref_store.proofs.store.file.search.Search.tag.Goals as goal

pub returns-in_err-found-clause-found : goal.returns-in_err-found-clause-found
returns-in_err-found-clause-found g c = λ honest.
    let p = err_from_is_err_and c.from_residual.result c.from_residual.ensures.1 in
    rw (p.1, p.2)
    (fault_first (reads_in (g.F.Files.history c.args.self.now.store.now.files).tree c.args.self.now) (placed (codes "refs/tags/") c.args.word.now []) (branch_names c.args.word.now) c.in_err-found.field-0.0
    (c.in_err-found.ensures.found honest))

pub returns-in-None-clause-found : goal.returns-in-None-clause-found
returns-in-None-clause-found g c = λ honest.
    on_to_rest (reads_in (g.F.Files.history c.args.self.now.store.now.files).tree c.args.self.now) (placed (codes "refs/tags/") c.args.word.now []) (branch_names c.args.word.now) c.branch-self.result
    (rw c.in-None.is at (c.in_ok-found.ensures.found honest)) (c.branch-self.ensures.found honest)
