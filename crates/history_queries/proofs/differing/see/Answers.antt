use Rattle.std.proofs.Common.{ap}
use Rattle.gix_hash.specs.Id.{id_of}
use Rattle.history_repository.proofs.ReadingFaults.{fault_told}
use Rattle.history_queries.proofs.DifferingLemmas.{seen_so, told_root}
use Rattle.history_queries.proofs.differing.see.Goals as goal

pub returns-in_err-told : goal.returns-in_err-told
returns-in_err-told g c = λ r paths s read holds trees.
    fault_told g.F.Files.reading_may_fail _ c.from_residual.result _ c.from_residual.ensures.1 (c.in_err-told.ensures r s read holds)

pub returns-in_err-found : goal.returns-in_err-found
returns-in_err-found g c = λ r paths s read holds trees.
    let told = c.in_ok-told.ensures r s read holds in
    fault_told g.F.Files.reading_may_fail _ c.from_residual-in_err-found.result _ c.from_residual-in_err-found.ensures.1
    (c.in_err-found.ensures r (told.1).commit.files paths s (told_root r c.in_ok-told.told told.1 s.whole.whole.store) trees)

pub returns : goal.returns
returns g c = λ r paths s read holds trees.
    let told = c.in_ok-told.ensures r s read holds in
    let found = c.in_ok-found.ensures r (told.1).commit.files paths s (told_root r c.in_ok-told.told told.1 s.whole.whole.store) trees in
    ((ap id_of told.0, seen_so r c.in_ok-told.told told.1 paths c.in_ok-found.found found.0), found.1)
