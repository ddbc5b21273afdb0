use Rattle.std.proofs.Common.{refl, ap, sym}
use Rattle.std.specs.Prelude.{◌≡◌, None, OnOk, IfErr, IsSome}
use Rattle.std.specs.IoError.{error_kind}
use Rattle.std.specs.declared.io.ErrorKind.TheVariants.{AlreadyExists}
use Rattle.gix_ref_file.specs.Changes.{to_create}
use Rattle.gix_ref_file.specs.Tree.{node_at}
use Rattle.gix_ref_folder.specs.declared.part.Part.TheVariants.{Objects, Names}
use Rattle.gix_ref_folder_tests.specs.OverFiles.{files_of}
use Rattle.gix_ref_folder_tests.proofs.Reported.{does_new, new_free, new_taken}
use Rattle.gix_ref_folder_tests.proofs.Spots.{nowhere, reads, in_objects, in_names}
use Rattle.gix_ref_folder_tests.proofs.over_files.OverFilesSystem.create_new.Goals as goal

pub returns-in_err-part-clause-change : goal.returns-in_err-part-clause-change
returns-in_err-part-clause-change g c root part path honest there = nowhere _ _ _ _ _ _ _ c.in_err-part.ensures.outside honest there

pub returns-in_err-part-clause-taken : goal.returns-in_err-part-clause-taken
returns-in_err-part-clause-taken g c root part path honest there = nowhere _ _ _ _ _ _ _ c.in_err-part.ensures.outside honest there

pub returns-in-Objects-clause-change : goal.returns-in-Objects-clause-change
returns-in-Objects-clause-change g c =
    in_objects g.F.Files.is_honest g.F.Files.history _ _ c.args.place.now c.in_ok-part.part c.in_ok-part.path.now (λ path. to_create path c.args.bytes.now) _
    c.in_ok-part.ensures.spot c.in-Objects.is (λ path. refl) refl refl c.create_new.ensures.honest
    (λ honest. does_new _ _ _ _ _ _ c.newly.ensures.ok (c.create_new.ensures.change honest))

pub returns-in-Objects-clause-free : goal.returns-in-Objects-clause-free
returns-in-Objects-clause-free g c =
    reads g.F.Files.is_honest g.F.Files.history c.args.self.now c.args.place.now c.in_ok-part.part c.in_ok-part.path.now (files_of c.args.self.now Objects)
    (λ tree path. OnOk c.newly.result (node_at tree path ≡ None)) c.in_ok-part.ensures.spot (ap (files_of c.args.self.now) (sym c.in-Objects.is))
    (λ honest. new_free _ _ _ c.newly.ensures.ok (c.create_new.ensures.is_new honest))

pub returns-in-Objects-clause-taken : goal.returns-in-Objects-clause-taken
returns-in-Objects-clause-taken g c =
    reads g.F.Files.is_honest g.F.Files.history c.args.self.now c.args.place.now c.in_ok-part.part c.in_ok-part.path.now (files_of c.args.self.now Objects)
    (λ tree path. IfErr c.newly.result (λ error. error_kind error ≡ AlreadyExists → IsSome (node_at tree path))) c.in_ok-part.ensures.spot (ap (files_of c.args.self.now) (sym c.in-Objects.is))
    (λ honest. new_taken _ _ _ c.newly.ensures.taken (c.create_new.ensures.is_new honest))

pub returns-in-Names-clause-change : goal.returns-in-Names-clause-change
returns-in-Names-clause-change g c =
    in_names g.F.Files.is_honest g.F.Files.history _ _ c.args.place.now c.in_ok-part.part c.in_ok-part.path.now (λ path. to_create path c.args.bytes.now) _
    c.in_ok-part.ensures.spot c.in-Names.is (λ path. refl) refl refl c.create_new-in-Names.ensures.honest
    (λ honest. does_new _ _ _ _ _ _ c.newly-in-Names.ensures.ok (c.create_new-in-Names.ensures.change honest))

pub returns-in-Names-clause-free : goal.returns-in-Names-clause-free
returns-in-Names-clause-free g c =
    reads g.F.Files.is_honest g.F.Files.history c.args.self.now c.args.place.now c.in_ok-part.part c.in_ok-part.path.now (files_of c.args.self.now Names)
    (λ tree path. OnOk c.newly-in-Names.result (node_at tree path ≡ None)) c.in_ok-part.ensures.spot (ap (files_of c.args.self.now) (sym c.in-Names.is))
    (λ honest. new_free _ _ _ c.newly-in-Names.ensures.ok (c.create_new-in-Names.ensures.is_new honest))

pub returns-in-Names-clause-taken : goal.returns-in-Names-clause-taken
returns-in-Names-clause-taken g c =
    reads g.F.Files.is_honest g.F.Files.history c.args.self.now c.args.place.now c.in_ok-part.part c.in_ok-part.path.now (files_of c.args.self.now Names)
    (λ tree path. IfErr c.newly-in-Names.result (λ error. error_kind error ≡ AlreadyExists → IsSome (node_at tree path))) c.in_ok-part.ensures.spot (ap (files_of c.args.self.now) (sym c.in-Names.is))
    (λ honest. new_taken _ _ _ c.newly-in-Names.ensures.taken (c.create_new-in-Names.ensures.is_new honest))
