use Rattle.std.proofs.Common.{◌∙◌, sym, []}
use Rattle.std.specs.Prelude.{codes}
use Rattle.std.proofs.lemmas.Result.{err_from_is_err_and}
use Rattle.gix_ref_format.specs.Lookup.{placed, tag_names}
use Rattle.gix_ref_store.specs.Searches.{reads_in}
use Rattle.gix_ref_store.proofs.MetLemmas.{fault_first, on_to_rest}
use Rattle.gix_ref_store.proofs.Among.{complete_finds, word_finds, word_fault}
use Rattle.gix_ref_store.proofs.store.file.search.Search.named.Goals as goal

pub returns-then-is_complete-clause-found : goal.returns-then-is_complete-clause-found
returns-then-is_complete-clause-found g c = λ honest.
    complete_finds (reads_in (g.F.Files.history c.args.self.now.store.now.files).tree c.args.self.now) c.args.word.now c.between.result (sym c.is_complete.ensures ∙ c.if-is_complete.true) (c.between.ensures.found honest)

pub returns-in_err-found-clause-found : goal.returns-in_err-found-clause-found
returns-in_err-found-clause-found g c = λ honest.
    let p = err_from_is_err_and c.from_residual.result c.from_residual.ensures.1 in
    rw (p.1, p.2)
    (word_fault (reads_in (g.F.Files.history c.args.self.now.store.now.files).tree c.args.self.now) c.args.word.now c.in_err-found.field-0.0 (sym c.is_complete.ensures ∙ c.if-is_complete.false)
    (fault_first (reads_in (g.F.Files.history c.args.self.now.store.now.files).tree c.args.self.now) (placed (codes "refs/") c.args.word.now []) (tag_names c.args.word.now) c.in_err-found.field-0.0
    (c.in_err-found.ensures.found honest)))

pub returns-in-None-clause-found : goal.returns-in-None-clause-found
returns-in-None-clause-found g c = λ honest.
    word_finds (reads_in (g.F.Files.history c.args.self.now.store.now.files).tree c.args.self.now) c.args.word.now c.tag.result (sym c.is_complete.ensures ∙ c.if-is_complete.false)
    (on_to_rest (reads_in (g.F.Files.history c.args.self.now.store.now.files).tree c.args.self.now) (placed (codes "refs/") c.args.word.now []) (tag_names c.args.word.now) c.tag.result
    (rw c.in-None.is at (c.in_ok-found.ensures.found honest)) (c.tag.ensures.found honest))
