use Rattle.std.proofs.Common.{◌≡◌, rules, true, not, ◌&&◌}
use Rattle.std.specs.Prelude.{is_some}
use Rattle.std.proofs.lemmas.Result.{err_from_is_err_and}
use Rattle.gix_ref_format.specs.Lookup.{is_complete, packed_key}
use Rattle.gix_ref_store.specs.Stores.{base_of}
use Rattle.gix_ref_store.proofs.Among.{found_by_first, fault_by_first, none_unpacked, then_opened}
use Rattle.gix_ref_store.proofs.store.file.Store.find_word.Goals as goal

pub returns-in_err-found-clause-found : goal.returns-in_err-found-clause-found
returns-in_err-found-clause-found g c = λ honest.
    let b = base_of c.args.self.now in
    let tree = (g.F.Files.history c.args.self.now.files).tree in
    let p = err_from_is_err_and c.from_residual.result c.from_residual.ensures.1 in
    rw (p.1, p.2)
    (fault_by_first b tree c.args.word.now c.in_err-found.field-0.0 (c.in_err-found.ensures.found honest))

pub returns-in-Some-clause-found : goal.returns-in-Some-clause-found
returns-in-Some-clause-found g c = λ honest.
    let b = base_of c.args.self.now in
    let tree = (g.F.Files.history c.args.self.now.files).tree in
    found_by_first b tree c.args.word.now c.in-Some.found (rw c.in-Some.is at (c.in_ok-found.ensures.found honest))

pub returns-in-None-clause-found : goal.returns-in-None-clause-found
returns-in-None-clause-found g c = λ honest.
    let b = base_of c.args.self.now in
    let tree = (g.F.Files.history c.args.self.now.files).tree in
    let word = c.args.word.now in
    let unpacked : (is_complete word && not (is_some (packed_key word))) ≡ true = search rules in
    none_unpacked b tree word unpacked (rw c.in-None.is at (c.in_ok-found.ensures.found honest))

pub returns-in-None-2-clause-found : goal.returns-in-None-2-clause-found
returns-in-None-2-clause-found g c = λ honest.
    let b = base_of c.args.self.now in
    let tree = (g.F.Files.history c.args.self.now.files).tree in
    then_opened b tree c.args.word.now c.find_opened.result (rw c.in-None-2.is at (c.in_ok-found.ensures.found honest)) (c.find_opened.ensures.found honest)
