use Rattle.std.proofs.Common.{◌≡◌, ◌∙◌, IsSome, subst, sym}
use Rattle.gix_hash.specs.declared.kind.Kind.{Kind}
use Rattle.history_check_objects.specs.Folders.{HasFolders}
use Rattle.history_check_objects.specs.Stored.{ids_in}
use Rattle.history_store.specs.ObjectsFace.{ids_of_objects}
use Rattle.history_store.specs.Ids.{AreOfKind}
use Rattle.history_store.specs.KnownIds.{AreStanding}
use Rattle.history_store.specs.KnownObjects.{HasKnown, object_at}
use Rattle.history_store.proofs.Opens.{commits_told, kinds_are, objects_stand, opened_with, stand}
use Rattle.history_store.proofs.opening.open_stored.Goals as goal

pub know-requires : goal.know-requires
know-requires g c = λ honest.
    let whole = c.requires.whole (subst g.F.Files.is_honest c.with_folders-objects.ensures.files honest) in
    subst (λ (kind : Kind). AreStanding kind (g.F.Files.history c.with_folders-objects.result.files).tree (ids_in c.args.stored)) (sym c.with_folders-objects.ensures.kind)
    (subst (λ files. AreStanding c.args.kind (g.F.Files.history files).tree (ids_in c.args.stored)) (sym c.with_folders-objects.ensures.files) (stand c.args.kind (g.F.Files.history c.args.files).tree c.args.stored whole))

pub returns-in-Ok-clause-whole : goal.returns-in-Ok-clause-whole
returns-in-Ok-clause-whole g c = λ honest.
    opened_with c.args.kind (g.F.Files.history c.args.files).tree c.args.stored (c.requires.whole honest) _ _ c.with_folders-objects.ensures.ids c.in-Ok.ensures.known

pub returns-in-Ok-clause-holds : goal.returns-in-Ok-clause-holds
returns-in-Ok-clause-holds g c = λ honest.
    let tree = (g.F.Files.history c.args.files).tree in
    let files : c.know.new.self.files ≡ c.args.files = c.in-Ok.ensures.files ∙ c.with_folders-objects.ensures.files in
    let kind : c.know.new.self.kind ≡ c.args.kind = c.in-Ok.ensures.kind ∙ c.with_folders-objects.ensures.kind in
    record {
      honest = subst g.F.Files.is_honest (sym files) honest;
      known = λ id has.
          subst (λ own. IsSome (object_at (g.F.Files.history own).tree id)) (sym files)
          (objects_stand c.args.kind tree c.args.stored (c.requires.whole honest) _ _ c.with_folders-objects.ensures.ids c.in-Ok.ensures.known id has);
      kinds = subst (λ (own : Kind). AreOfKind own (ids_of_objects c.know.new.self)) (sym kind)
          (kinds_are c.args.kind tree c.args.stored (c.requires.whole honest) _ _ c.with_folders-objects.ensures.ids c.in-Ok.ensures.known);
    }

pub returns-in-Ok-clause-exist : goal.returns-in-Ok-clause-exist
returns-in-Ok-clause-exist g c = λ honest.
    let tree = (g.F.Files.history c.args.files).tree in
    let files : c.know.new.self.files ≡ c.args.files = c.in-Ok.ensures.files ∙ c.with_folders-objects.ensures.files in
    let folders : c.know.new.self.folders ≡ c.args.folders = c.in-Ok.ensures.folders ∙ c.with_folders-objects.ensures.folders in (
      subst g.F.Files.is_honest (sym files) honest,
      subst (λ own. HasKnown (g.F.Files.history own).tree c.know.new.self) (sym files) (record {
        folders = subst (HasFolders tree) (sym folders) (c.requires.folders honest);
        stored = objects_stand c.args.kind tree c.args.stored (c.requires.whole honest) _ _ c.with_folders-objects.ensures.ids c.in-Ok.ensures.known;
        commits = commits_told c.args.kind tree c.args.stored (c.requires.whole honest) _ _ c.with_folders-objects.ensures.ids c.in-Ok.ensures.known _ _ c.with_folders-objects.ensures.commits c.in-Ok.ensures.commits;
      }),
    )
