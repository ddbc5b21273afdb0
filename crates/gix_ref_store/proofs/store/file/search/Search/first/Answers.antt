use Rattle.std.proofs.Common.{◌∙◌, sym}
use Rattle.gix_ref_store.specs.Searches.{reads_in}
use Rattle.gix_ref_store.proofs.Among.{complete_first, word_first}
use Rattle.gix_ref_store.proofs.store.file.search.Search.first.Goals as goal

pub returns-then-is_complete-clause-found : goal.returns-then-is_complete-clause-found
returns-then-is_complete-clause-found g c = λ honest.
    complete_first (reads_in (g.F.Files.history c.args.self.now.store.now.files).tree c.args.self.now) c.args.word.now c.between.result (sym c.is_complete.ensures ∙ c.if-is_complete.true) (c.between.ensures.found honest)

pub returns-else-is_complete-clause-found : goal.returns-else-is_complete-clause-found
returns-else-is_complete-clause-found g c = λ honest.
    word_first (reads_in (g.F.Files.history c.args.self.now.store.now.files).tree c.args.self.now) c.args.word.now c.between-else-is_complete.result (sym c.is_complete.ensures ∙ c.if-is_complete.false) (c.between-else-is_complete.ensures.found honest)
