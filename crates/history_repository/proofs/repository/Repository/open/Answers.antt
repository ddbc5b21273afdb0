use Rattle.std.proofs.Common.{None, false, refl}
use Rattle.std.proofs.lemmas.Result.{err_from_is_err_and}
use Rattle.history_model.specs.Repository.{fresh}
use Rattle.history_store.proofs.FreshParts.{new_stands_whole}
use Rattle.history_repository.specs.declared.repository.Repository.{Repository}
use Rattle.history_repository.proofs.OpenLemmas.{opened_stands}
use Rattle.history_repository.proofs.repository.Repository.open.Goals as goal

pub returns-clause-stands : goal.returns-clause-stands
returns-clause-stands g c = λ objects names.
    let opened = c.in_ok-objects.field-0 in
    let parts = c.in_ok-objects.ensures.parts in
    let kinds = c.in_ok-objects.ensures.kinds in
    let repository : Repository g.row.F.Denot = record { objects = opened.objects; names = opened.names; branch = opened.branch; rows = None; has_failed = false } in
    let found = c.in_ok-objects.ensures.opens.stands objects names in (
      found.0,
      found.1.stands.stands.of_kind,
      opened_stands g.F.Files.is_honest g.F.Files.history opened c.args.kind c.args.objects c.args.names repository refl refl refl refl parts.0 parts.1 kinds.0 kinds.1 objects names found.0 found.1,
    )

pub returns-clause-same : goal.returns-clause-same
returns-clause-same g c = λ r objects names stands.
    let opened = c.in_ok-objects.field-0 in
    let parts = c.in_ok-objects.ensures.parts in
    let kinds = c.in_ok-objects.ensures.kinds in
    let repository : Repository g.row.F.Denot = record { objects = opened.objects; names = opened.names; branch = opened.branch; rows = None; has_failed = false } in
    opened_stands g.F.Files.is_honest g.F.Files.history opened c.args.kind c.args.objects c.args.names repository refl refl refl refl parts.0 parts.1 kinds.0 kinds.1 objects names r
    (c.in_ok-objects.ensures.opens.same r objects names stands)

pub returns-clause-fresh : goal.returns-clause-fresh
returns-clause-fresh g c = λ objects names new.
    let opened = c.in_ok-objects.field-0 in
    let parts = c.in_ok-objects.ensures.parts in
    let kinds = c.in_ok-objects.ensures.kinds in
    let repository : Repository g.row.F.Denot = record { objects = opened.objects; names = opened.names; branch = opened.branch; rows = None; has_failed = false } in
    opened_stands g.F.Files.is_honest g.F.Files.history opened c.args.kind c.args.objects c.args.names repository refl refl refl refl parts.0 parts.1 kinds.0 kinds.1 objects names (fresh c.args.kind)
    (c.in_ok-objects.ensures.opens.same (fresh c.args.kind) objects names
    (new_stands_whole c.args.kind (g.F.Files.history c.args.objects).tree (g.F.Files.history c.args.names).tree new))

pub returns-clause-refuses : goal.returns-clause-refuses
returns-clause-refuses g c = record { refused = λ objects names. tt; accepted = λ r objects names stands. tt; handed_back = tt }

pub returns-in_err-objects-clause-refuses : goal.returns-in_err-objects-clause-refuses
returns-in_err-objects-clause-refuses g c =
    let p = err_from_is_err_and c.from_residual.result c.from_residual.ensures.1 in
    let refuses = c.in_err-objects.ensures.refuses in
    rw (p.1, p.2) (record { refused = refuses.refused; accepted = refuses.accepted; handed_back = refuses.handed_back })
