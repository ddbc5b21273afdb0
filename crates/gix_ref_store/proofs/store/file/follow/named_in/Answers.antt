use Rattle.std.proofs.Common.{[]}
use Rattle.gix_ref_format.specs.PackedKept.{kept}
use Rattle.gix_ref_store.specs.RefStates.{ref_state, state_among}
use Rattle.gix_ref_store.specs.Stores.{base_of}
use Rattle.gix_ref_store.proofs.Among.{kept_reads, none_reads}
use Rattle.gix_ref_store.proofs.FollowLemmas.{opened_told}
use Rattle.gix_ref_store.proofs.store.file.follow.named_in.Goals as goal

pub returns-in-Ok-Some-clause-told : goal.returns-in-Ok-Some-clause-told
returns-in-Ok-Some-clause-told g c = λ honest.
    let b = base_of c.args.store.now in
    let tree = (g.F.Files.history c.args.store.now.files).tree in
    let name = c.args.name.now in
    let keeps = rw c.in-Ok-Some.field-0-is at (c.in-Ok-Some.ensures.kept honest) in
    opened_told b tree name (state_among b tree (kept c.in-Ok-Some.packed) name) (ref_state b tree name) c.named.result (kept_reads b tree (kept c.in-Ok-Some.packed) name keeps) (c.named.ensures.told honest)

pub returns-in-Ok-None-clause-told : goal.returns-in-Ok-None-clause-told
returns-in-Ok-None-clause-told g c = λ honest.
    let b = base_of c.args.store.now in
    let tree = (g.F.Files.history c.args.store.now.files).tree in
    let name = c.args.name.now in
    let keeps = rw c.in-Ok-None.field-0-is at (c.in-Ok-None.ensures.kept honest) in
    opened_told b tree name (state_among b tree [] name) (ref_state b tree name) c.named-in-Ok-None.result (none_reads b tree name keeps) (c.named-in-Ok-None.ensures.told honest)
