use Rattle.std.proofs.Common.{◌∙◌, ap, sym, Some}
use Rattle.std.proofs.lemmas.Option.{same_Some}
use Rattle.gix_hash.specs.Id.{id_of}
use Rattle.history_model.specs.Objects.{StoredCommit, content_of}
use Rattle.history_repository.proofs.HeldLemmas.{peeled_blob, peeled_commit, peeled_tag, peeled_tree}
use Rattle.history_repository.proofs.ReadingFaults.{fault_told}
use Rattle.history_repository.proofs.stored.read_meant.Goals as goal

pub returns-in_err-object : goal.returns-in_err-object
returns-in_err-object g c r value stands at =
    fault_told g.F.Files.reading_may_fail _ c.from_residual.result _ c.from_residual.ensures.1 (c.in_err-object.ensures r value stands at)

pub returns-in-Commit : goal.returns-in-Commit
returns-in-Commit g c r value stands at =
    let is = c.in_ok-object.ensures r value stands at in (
      peeled_commit r (id_of c.args.id) value at (sym is.0 ∙ c.in-Commit.is),
      λ commit there. is.1 ∙ ap (content_of r.kind) (same_Some value (StoredCommit commit) (sym at ∙ there)),
    )

pub returns-in_ok-tagged-in-Tag : goal.returns-in_ok-tagged-in-Tag
returns-in_ok-tagged-in-Tag g c r value stands at =
    let is = c.in_ok-object.ensures r value stands at in
    let tag = peeled_tag r (id_of c.args.id) value at (sym is.0 ∙ c.in-Tag.is) in
    let target = c.in_ok-tagged-in-Tag.ensures r (id_of c.args.id) tag.0 stands (at ∙ ap Some tag.1) (c.deref.ensures.value ∙ is.1 ∙ ap (content_of r.kind) tag.1) in
    (tag.2 ∙ ap Some (sym target), tt)

pub returns-in_err-tagged-in-Tag : goal.returns-in_err-tagged-in-Tag
returns-in_err-tagged-in-Tag g c r value stands at =
    let is = c.in_ok-object.ensures r value stands at in
    let tag = peeled_tag r (id_of c.args.id) value at (sym is.0 ∙ c.in-Tag.is) in
    fault_told g.F.Files.reading_may_fail _ c.from_residual-in_err-tagged-in-Tag.result _ c.from_residual-in_err-tagged-in-Tag.ensures.1
    (c.in_err-tagged-in-Tag.ensures r (id_of c.args.id) tag.0 stands (at ∙ ap Some tag.1) (c.deref.ensures.value ∙ is.1 ∙ ap (content_of r.kind) tag.1))

pub returns-in-Tree : goal.returns-in-Tree
returns-in-Tree g c r value stands at =
    let is = c.in_ok-object.ensures r value stands at in
    peeled_tree r (id_of c.args.id) value at (sym is.0 ∙ c.in-Tree.is)

pub returns-in-Blob : goal.returns-in-Blob
returns-in-Blob g c r value stands at =
    let is = c.in_ok-object.ensures r value stands at in
    peeled_blob r (id_of c.args.id) value at (sym is.0 ∙ c.in-Blob.is)
