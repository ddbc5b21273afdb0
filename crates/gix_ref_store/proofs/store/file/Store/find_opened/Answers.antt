use Rattle.std.proofs.Common.{[]}
use Rattle.gix_ref_format.specs.Lookup.{lookup_names}
use Rattle.gix_ref_format.specs.PackedKept.{kept}
use Rattle.gix_ref_store.specs.Stores.{base_of}
use Rattle.gix_ref_store.proofs.Among.{finds_opened, kept_reads, none_reads}
use Rattle.gix_ref_store.proofs.store.file.Store.find_opened.Goals as goal

pub returns-in-Ok-Some-clause-found : goal.returns-in-Ok-Some-clause-found
returns-in-Ok-Some-clause-found g c = λ honest.
    let keeps = rw c.in-Ok-Some.field-0-is at (c.in-Ok-Some.ensures.kept honest) in
    finds_opened (base_of c.args.self.now) (g.F.Files.history c.args.self.now.files).tree (kept c.in-Ok-Some.packed) (lookup_names c.args.word.now) c.find_among.result
    (λ n. kept_reads (base_of c.args.self.now) (g.F.Files.history c.args.self.now.files).tree (kept c.in-Ok-Some.packed) n keeps) (c.find_among.ensures.found honest)

pub returns-in-Ok-None-clause-found : goal.returns-in-Ok-None-clause-found
returns-in-Ok-None-clause-found g c = λ honest.
    let keeps = rw c.in-Ok-None.field-0-is at (c.in-Ok-None.ensures.kept honest) in
    finds_opened (base_of c.args.self.now) (g.F.Files.history c.args.self.now.files).tree [] (lookup_names c.args.word.now) c.find_among-in-Ok-None.result
    (λ n. none_reads (base_of c.args.self.now) (g.F.Files.history c.args.self.now.files).tree n keeps) (c.find_among-in-Ok-None.ensures.found honest)
