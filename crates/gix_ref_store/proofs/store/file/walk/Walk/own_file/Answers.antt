use Rattle.std.proofs.Common.{◌≡◌, ◌∙◌, true, rules}
use Rattle.gix_ref_store.specs.Stores.{base_of}
use Rattle.gix_ref_store.specs.declared.store.file.own.OwnFile.TheVariants.{Holds, Faulty, Missing}
use Rattle.gix_ref_store.proofs.FileLemmas.{read_at, told_of}
use Rattle.gix_ref_store.proofs.store.file.walk.Walk.own_file.Goals as goal

pub returns-in-Ok-Some-clause-told : goal.returns-in-Ok-Some-clause-told
returns-in-Ok-Some-clause-told g c = λ honest.
    let tree = (g.F.Files.history c.args.self.now.store.now.files).tree in
    told_of (base_of c.args.self.now.store.now) tree c.as_bytes-bytes.result.now c.args.name.now (Holds c.in-Ok-Some.target) (c.as_bytes-bytes.ensures ∙ c.as_bstr.ensures.bytes)
    (rw c.in-Ok-Some.field-0-is at (rw c.in-Ok-Some.is at (c.target_in_file.ensures.found honest)))

pub returns-in-Ok-Some-clause-file : goal.returns-in-Ok-Some-clause-file
returns-in-Ok-Some-clause-file g c = λ honest so.
    let tree = (g.F.Files.history c.args.self.now.store.now.files).tree in
    let own : c.in_ok-is_own.field-0 ≡ true = search rules in
    read_at (base_of c.args.self.now.store.now) tree c.as_bytes-bytes.result.now _ (Holds c.in-Ok-Some.target) (c.in_ok-is_own.ensures own)
    (rw c.in-Ok-Some.field-0-is at (rw c.in-Ok-Some.is at (c.target_in_file.ensures.found honest))) so

pub returns-in-Ok-None-clause-told : goal.returns-in-Ok-None-clause-told
returns-in-Ok-None-clause-told g c = λ honest.
    let tree = (g.F.Files.history c.args.self.now.store.now.files).tree in
    told_of (base_of c.args.self.now.store.now) tree c.as_bytes-bytes.result.now c.args.name.now Missing (c.as_bytes-bytes.ensures ∙ c.as_bstr.ensures.bytes)
    (rw c.in-Ok-None.field-0-is at (rw c.in-Ok-None.is at (c.target_in_file.ensures.found honest)))

pub returns-in-Err-ReferenceCreation-clause-told : goal.returns-in-Err-ReferenceCreation-clause-told
returns-in-Err-ReferenceCreation-clause-told g c = λ honest.
    let tree = (g.F.Files.history c.args.self.now.store.now.files).tree in
    told_of (base_of c.args.self.now.store.now) tree c.as_bytes-bytes.result.now c.args.name.now (Faulty c.in-Err-ReferenceCreation.reason) (c.as_bytes-bytes.ensures ∙ c.as_bstr.ensures.bytes)
    (rw c.in-Err-ReferenceCreation.field-0-is at (rw c.in-Err-ReferenceCreation.is at (c.target_in_file.ensures.found honest)))

pub returns-in-Err-ReferenceCreation-clause-file : goal.returns-in-Err-ReferenceCreation-clause-file
returns-in-Err-ReferenceCreation-clause-file g c = λ honest so.
    let tree = (g.F.Files.history c.args.self.now.store.now.files).tree in
    let own : c.in_ok-is_own.field-0 ≡ true = search rules in
    read_at (base_of c.args.self.now.store.now) tree c.as_bytes-bytes.result.now _ (Faulty c.in-Err-ReferenceCreation.reason) (c.in_ok-is_own.ensures own)
    (rw c.in-Err-ReferenceCreation.field-0-is at (rw c.in-Err-ReferenceCreation.is at (c.target_in_file.ensures.found honest))) so
