use Rattle.std.proofs.Common.{inl, refl, subst, sym}
use Rattle.gix_hash.specs.declared.kind.Kind.{Kind}
use Rattle.history_store.specs.ObjectsFace.{ids_of_objects, kind_of_objects}
use Rattle.history_check_objects.specs.Stored.{facts_in}
use Rattle.history_store.specs.Opened.{IsOpenedWith}
use Rattle.history_repository.specs.Opened.{OpensWhole, RefusesParts, trees_of}
use Rattle.history_repository.proofs.Joined.{fault_of_objects}
use Rattle.history_repository.proofs.folder.open_folder.Goals as goal

pub open_names-requires : goal.open_names-requires
open_names-requires g c =
    let files = c.in-Ok.ensures.files.0 in
    let ids = ids_of_objects c.in-Ok.opened.objects in
    let facts = facts_in c.in-Ok.opened.stored in
    record {
      exist = λ honest. (c.in-Ok.ensures.exist (subst g.F.Files.is_honest files honest)).1;
      whole = λ honest.
          subst (λ own. IsOpenedWith (kind_of_objects c.in-Ok.opened.objects) (g.F.Files.history own).tree ids facts) (sym files)
          (subst (λ (kind : Kind). IsOpenedWith kind (g.F.Files.history c.args.objects).tree ids facts) (sym c.in-Ok.ensures.files.1)
          (c.in-Ok.ensures.whole (subst g.F.Files.is_honest files honest)));
    }

pub returns-in-Ok-clause-opens : goal.returns-in-Ok-clause-opens
returns-in-Ok-clause-opens g c =
    let files = c.in-Ok.ensures.files.0 in
    subst (λ (kind : Kind). OpensWhole g.F.Files kind c.args.objects c.args.names c.open_names.result) c.in-Ok.ensures.files.1
    (subst (λ own. OpensWhole g.F.Files (kind_of_objects c.in-Ok.opened.objects) own c.args.names c.open_names.result) files c.open_names.ensures.opens)

pub returns-in-Ok-clause-refuses : goal.returns-in-Ok-clause-refuses
returns-in-Ok-clause-refuses g c =
    let files = c.in-Ok.ensures.files.0 in
    subst (λ (kind : Kind). RefusesParts g.F.Files kind c.args.objects c.args.names c.open_names.result) c.in-Ok.ensures.files.1
    (subst (λ own. RefusesParts g.F.Files (kind_of_objects c.in-Ok.opened.objects) own c.args.names c.open_names.result) files c.open_names.ensures.refuses)

pub returns-in-Err-clause-opens : goal.returns-in-Err-clause-opens
returns-in-Err-clause-opens g c = record { stands = λ objects names. tt; same = λ r objects names stands. tt }

pub returns-in-Err-clause-refuses : goal.returns-in-Err-clause-refuses
returns-in-Err-clause-refuses g c = record {
  refused = λ objects names. inl (c.in-Err.ensures.flaw objects);
  accepted = λ r objects names stands.
      fault_of_objects c.args.kind (trees_of g.F.Files.history c.args.objects c.args.names) r stands g.F.Files.reading_may_fail c.in-Err.refusal.error (c.in-Err.ensures.flaw objects);
  handed_back = (c.in-Err.ensures.handed_back, refl);
}
