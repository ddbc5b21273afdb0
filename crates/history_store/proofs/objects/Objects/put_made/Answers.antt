use Rattle.std.proofs.Common.{◌≡◌, ◌↔◌, IsTrue, ◌∙◌, ◌++◌, inl, inr, refl, sym, subst, ap, length, Bool, true, false, IsErrOf, Result, Ok, Err}
use denote.Enum.Bare.{sameb}
use Rattle.std.proofs.lemmas.Bool.{false_from_ne_true}
use Rattle.std.proofs.lemmas.Result.{err_from_is_err_and}
use Rattle.gix_hash.specs.Id.{id_of}
use Rattle.gix_object_lines.specs.Header.{header_text}
use Rattle.gix_ref_file.specs.Changes.{is_file_at}
use Rattle.gix_ref_file.specs.declared.files.FileError.TheVariants as files
use Rattle.gix_ref_file.specs.Tree.{Tree, bytes_at}
use Rattle.history_model.specs.Bytes.{Bytes}
use Rattle.history_model.specs.Forms.{is_id}
use Rattle.history_model.specs.Objects.{object_text}
use Rattle.history_model.proofs.IdLemmas.{digest_is_id}
use Rattle.history_model.proofs.RecoveredLemmas.{place_differs}
use Rattle.history_store.specs.Calls.{KeepsHonesty, WritesObject}
use Rattle.history_check_objects.specs.Folders.{HasFolders}
use Rattle.history_store.specs.Ids.{IdSet, with_id, with_id_if}
use Rattle.history_store.specs.KeptIds.{kept}
use Rattle.history_store.specs.Stores.{IsObjectPlace, place_of, put_fault, text_of}
use Rattle.history_store.specs.Seen.{seen_at}
use Rattle.history_store.specs.declared.folders.Seen.{Seen}
use Rattle.history_store.specs.declared.folders.Seen.TheVariants.{Nothing, Top, Folder, File}
use Rattle.history_store.specs.contracts.folders.Seen.{the_type}
use Rattle.history_store.specs.declared.objects.PutMadeError.{PutMadeError}
use Rattle.history_store.specs.declared.objects.PutMadeError.TheVariants as errors
use Rattle.history_texts.specs.declared.object.NewObject.{NewObject}
use Rattle.history_store.proofs.Honesty.{more_honesty, same_honesty}
use Rattle.history_store.proofs.KnownCommits.{put_known, same_known, still_known}
use Rattle.history_store.proofs.Stored.{none_other, same_other, taken_by_other, untaken}
use Rattle.history_store.proofs.Unwritten.{also_written, both_written, fault_apart, fault_of_file, found_written, newly_written, none_here, none_written, other_error, taken_error, text_here, untaken_ok}
use Rattle.history_store.proofs.objects.Objects.put_made.Goals as goal
use Rattle.history_store.proofs.objects.Objects.put_made.Goals.{then-eq+in_ok-holds+else-not-branch, else-eq+in_ok-write}

spelled : (object : NewObject) (content header : Bytes) → content ≡ object.content.items → header ≡ header_text object.kind (length content) → header ++ content ≡ text_of object
spelled object content header same is = ap (λ h. h ++ content) is ∙ ap (object_text object.kind) same

-- a file was seen, or none was
found_here : (seen : Seen) (same : Bool) → same ≡ sameb the_type seen File → same ≡ true → (tree : Tree) (place : Bytes) → (seen ≡ File) ↔ IsTrue (is_file_at tree place) → is_file_at tree place ≡ true
found_here File same equal is tree place told = told.0 refl
found_here Nothing same equal is tree place told = let wrong : false ≡ true = sym equal ∙ is in absurd (cc wrong)
found_here Top same equal is tree place told = let wrong : false ≡ true = sym equal ∙ is in absurd (cc wrong)
found_here Folder same equal is tree place told = let wrong : false ≡ true = sym equal ∙ is in absurd (cc wrong)

found_none : (seen : Seen) (same : Bool) → same ≡ sameb the_type seen File → same ≡ false → (tree : Tree) (place : Bytes) → (seen ≡ File) ↔ IsTrue (is_file_at tree place) → is_file_at tree place ≡ false
found_none File same equal other tree place told = let wrong : true ≡ false = sym equal ∙ other in absurd (cc wrong)
found_none Nothing same equal other tree place told = false_from_ne_true (is_file_at tree place) (λ there. let wrong = told.1 there in absurd (cc wrong))
found_none Top same equal other tree place told = false_from_ne_true (is_file_at tree place) (λ there. let wrong = told.1 there in absurd (cc wrong))
found_none Folder same equal other tree place told = false_from_ne_true (is_file_at tree place) (λ there. let wrong = told.1 there in absurd (cc wrong))

abbrev done : Result (Unit {0}) PutMadeError
done = Ok tt

-- ---- the id is reserved

pub returns-then-is_reserved-clause-keeps : goal.returns-then-is_reserved-clause-keeps
returns-then-is_reserved-clause-keeps g c = record { kind = refl; part = same_honesty g.F.Files _ _ _ refl }

pub returns-then-is_reserved-clause-writes : goal.returns-then-is_reserved-clause-writes
returns-then-is_reserved-clause-writes g c = none_written g.F.Files _ _ _ _ _ refl

pub returns-then-is_reserved-clause-refuses : goal.returns-then-is_reserved-clause-refuses
returns-then-is_reserved-clause-refuses g c = taken_error g.F.Files c.args.object.now _ _ refl (λ honest. inl (sym c.is_reserved.ensures ∙ c.if-is_reserved.true))

-- ---- nothing is written yet

pub returns-in_err-make_room-clause-keeps : goal.returns-in_err-make_room-clause-keeps
returns-in_err-make_room-clause-keeps g c = record { kind = refl; part = same_honesty g.F.Files _ _ _ refl }

pub returns-in_err-make_room-clause-writes : goal.returns-in_err-make_room-clause-writes
returns-in_err-make_room-clause-writes g c =
    let p = err_from_is_err_and c.from_residual.result c.from_residual.ensures.1 in
    none_written g.F.Files _ _ _ _ _ p.1

pub returns-in_err-make_room-clause-refuses : goal.returns-in_err-make_room-clause-refuses
returns-in_err-make_room-clause-refuses g c =
    let p = err_from_is_err_and c.from_residual.result c.from_residual.ensures.1 in
    other_error g.F.Files _ _ _ _ _ p.1 (λ id is. absurd (cc (is, p.2))) (λ honest taken. refl)

pub returns-in_err-place-clause-keeps : goal.returns-in_err-place-clause-keeps
returns-in_err-place-clause-keeps g c = record { kind = refl; part = same_honesty g.F.Files _ _ _ refl }

pub returns-in_err-place-clause-writes : goal.returns-in_err-place-clause-writes
returns-in_err-place-clause-writes g c =
    let p = err_from_is_err_and c.from_residual-in_err-place.result c.from_residual-in_err-place.ensures.1 in
    none_written g.F.Files _ _ _ _ _ p.1

pub returns-in_err-place-clause-refuses : goal.returns-in_err-place-clause-refuses
returns-in_err-place-clause-refuses g c =
    let p = err_from_is_err_and c.from_residual-in_err-place.result c.from_residual-in_err-place.ensures.1 in
    other_error g.F.Files _ _ _ _ _ p.1 (λ id is. absurd (cc (is, p.2))) (λ honest taken. refl)

pub returns-in_err-seen-clause-keeps : goal.returns-in_err-seen-clause-keeps
returns-in_err-seen-clause-keeps g c = record { kind = refl; part = same_honesty g.F.Files _ _ _ refl }

pub returns-in_err-seen-clause-writes : goal.returns-in_err-seen-clause-writes
returns-in_err-seen-clause-writes g c =
    let p = err_from_is_err_and c.from_residual-in_err-seen.result c.from_residual-in_err-seen.ensures.1 in
    none_written g.F.Files _ _ _ _ _ p.1

pub returns-in_err-seen-clause-refuses : goal.returns-in_err-seen-clause-refuses
returns-in_err-seen-clause-refuses g c =
    let p = err_from_is_err_and c.from_residual-in_err-seen.result c.from_residual-in_err-seen.ensures.1 in
    other_error g.F.Files _ _ _ _ _ p.1 (λ id is. fault_apart c.in_err-seen.field-0.0 id (sym p.2 ∙ is)) (λ honest taken. refl)

-- ---- a file is at the place

pub returns-in_err-holds-clause-keeps : goal.returns-in_err-holds-clause-keeps
returns-in_err-holds-clause-keeps g c = record { kind = refl; part = same_honesty g.F.Files _ _ _ refl }

pub returns-in_err-holds-clause-writes : goal.returns-in_err-holds-clause-writes
returns-in_err-holds-clause-writes g c =
    let p = err_from_is_err_and c.from_residual-in_err-holds.result c.from_residual-in_err-holds.ensures.1 in
    none_written g.F.Files _ _ _ _ _ p.1

pub returns-in_err-holds-clause-refuses : goal.returns-in_err-holds-clause-refuses
returns-in_err-holds-clause-refuses g c =
    let p = err_from_is_err_and c.from_residual-in_err-holds.result c.from_residual-in_err-holds.ensures.1 in
    other_error g.F.Files _ _ _ _ _ p.1 (λ id is. fault_apart c.in_err-holds.field-0.0 id (sym p.2 ∙ is)) (λ honest taken. refl)

pub returns-then-not-branch-clause-keeps : goal.returns-then-not-branch-clause-keeps
returns-then-not-branch-clause-keeps g c = record { kind = refl; part = same_honesty g.F.Files _ _ _ refl }

pub returns-then-not-branch-clause-writes : goal.returns-then-not-branch-clause-writes
returns-then-not-branch-clause-writes g c = none_written g.F.Files _ _ _ _ _ refl

pub returns-then-not-branch-clause-refuses : goal.returns-then-not-branch-clause-refuses
returns-then-not-branch-clause-refuses g c = taken_error g.F.Files c.args.object.now _ _ refl (λ honest.
    let tree = (g.F.Files.history c.args.self.now.files).tree in
    let header = c.loose_header-header.result.items in
    let content = c.as_slice-content.result.now in
    inr (taken_by_other tree c.deref.result.now _ header content _
    (c.deref.ensures.value ∙ c.in_ok-place.ensures)
    (found_here c.in_ok-seen.seen c.eq.result c.eq.ensures c.if-eq.true tree _ (c.in_ok-seen.ensures.file honest))
    (λ equal.
    let found = (c.in_ok-holds.ensures.same honest).1 (ap (bytes_at tree) (c.deref-then-eq.ensures.value ∙ sym c.deref.ensures.value) ∙ equal ∙ ap (λ h. h ++ content) (sym c.deref-then-eq-2.ensures.0)) in
    let unlike = c.if-not-branch.true in
    cc)
    (sym (spelled c.args.object.now content header c.as_slice-content.ensures.value c.loose_header-header.ensures))))

-- ---- no file is there

pub returns-in_err-write-clause-keeps : goal.returns-in_err-write-clause-keeps
returns-in_err-write-clause-keeps g c =
    let p = err_from_is_err_and c.from_residual-in_err-write.result c.from_residual-in_err-write.ensures.1 in
    record {
      kind = c.write.ensures.keeps.kind;
      part = more_honesty g.F.Files _ _ _ _ c.write.ensures.keeps.part (λ told. let is : c.in_err-write.field-0.0 ≡ files.Failed = cc (told, c.in_err-write.was) in p.1 ∙ ap Err (p.2 ∙ ap put_fault is));
    }

pub returns-in_err-write-clause-writes : goal.returns-in_err-write-clause-writes
returns-in_err-write-clause-writes g c =
    let object = c.args.object.now in
    let content = c.as_slice-content.result.now in
    let p = err_from_is_err_and c.from_residual-in_err-write.result c.from_residual-in_err-write.ensures.1 in
    also_written g.F.Files _ _ _ _ c.write.result _ _ _ c.in_err-write.was p.1
    (newly_written g.F.Files _ (place_of object) _ (text_of object) _ _ c.write.result (c.deref-else-eq.ensures.value ∙ c.in_ok-place.ensures)
    (ap (λ h. h ++ content) c.deref-else-eq-2.ensures.0 ∙ spelled object content _ c.as_slice-content.ensures.value c.loose_header-header.ensures)
    (place_differs (id_of object.id))
    (λ honest here. none_here _ c.deref.result.now _ _ (c.deref.ensures.value ∙ c.in_ok-place.ensures) (found_none c.in_ok-seen.seen c.eq.result c.eq.ensures c.if-eq.false _ _ (c.in_ok-seen.ensures.file honest)) here)
    c.write.ensures.writes)

pub returns-in_err-write-clause-refuses : goal.returns-in_err-write-clause-refuses
returns-in_err-write-clause-refuses g c =
    let object = c.args.object.now in
    let tree = (g.F.Files.history c.args.self.now.files).tree in
    let p = err_from_is_err_and c.from_residual-in_err-write.result c.from_residual-in_err-write.ensures.1 in
    other_error g.F.Files object _ _ _ _ p.1 (λ id is. fault_apart c.in_err-write.field-0.0 id (sym p.2 ∙ is))
    (λ honest taken. absurd (untaken object tree c.is_reserved.result c.is_reserved.ensures c.if-is_reserved.false
    (none_other tree c.deref.result.now _ _ (c.deref.ensures.value ∙ c.in_ok-place.ensures) (found_none c.in_ok-seen.seen c.eq.result c.eq.ensures c.if-eq.false _ _ (c.in_ok-seen.ensures.file honest))) taken))

pub returns-in_err-write-clause-failed : goal.returns-in_err-write-clause-failed
returns-in_err-write-clause-failed g c = λ known part failed.
    let error = err_from_is_err_and c.from_residual-in_err-write.result c.from_residual-in_err-write.ensures.1 in
    let same = c.in_err-write.was ∙ ap Err (fault_of_file c.in_err-write.field-0.0 (cc (error.1, error.2, failed))) in
    let id = id_of c.args.object.now.id in
    let is : IsTrue (is_id id.kind id) = ap (is_id id.kind) c.args.object.now.named ∙ digest_is_id id.kind _ in
    let placed : IsObjectPlace c.deref-else-eq.result.now = (id.kind, id, is, c.deref-else-eq.ensures.value ∙ c.in_ok-place.ensures) in
    let seen_here = c.in_ok-seen.ensures.seen known ∙ ap (seen_at (g.F.Files.history c.args.self.now.files).tree) (c.deref.ensures.value ∙ sym c.deref-else-eq.ensures.value) in
    c.write.ensures.failed known.0 part placed seen_here same

pub returns-in_err-write-clause-exist : goal.returns-in_err-write-clause-exist
returns-in_err-write-clause-exist g c = λ known.
    let writes = returns-in_err-write-clause-writes g c in
    let refuses = returns-in_err-write-clause-refuses g c in
    let folders = c.write.ensures.folders (known.0, known.1.folders) (c.in_ok-seen.ensures.seen (known.0, known.1.folders) ∙ ap (seen_at (g.F.Files.history c.args.self.now.files).tree) (c.deref.ensures.value ∙ sym c.deref-else-eq.ensures.value)) in (
      folders.0,
      still_known c.args.self.now c.write.new.self c.args.object.now c.args.object.now.named (g.F.Files.history c.args.self.now.files) (g.F.Files.history c.write.new.self.files) known.1 (writes.moments known.0)
          (λ at. ap (λ files. (g.F.Files.history files).tree) (writes.once known.0 at)) (λ taken. ap (λ files. (g.F.Files.history files).tree) (refuses.untouched known.0 taken))
          (ap kept c.write.ensures.ids ∙ c.in_ok-make_room.ensures.ids) (ap kept c.write.ensures.commits ∙ c.in_ok-make_room-2.ensures.ids) folders.1,
    )

-- ---- the object is stored

pub returns-clause-keeps : goal.returns-clause-keeps
returns-clause-keeps g c =
    let old = c.args.self.now in
    elim c.if-eq.branch [
      | then-eq+in_ok-holds+else-not-branch w ↦ record {
        kind = subst (λ s. s.kind ≡ old.kind) (sym w.self-is) refl;
        part = subst (λ s. KeepsHonesty g.F.Files (IsErrOf done errors.File) old.files s.files) (sym w.self-is) (same_honesty g.F.Files _ _ _ refl);
      }
      | else-eq+in_ok-write w ↦ record {
        kind = subst (λ s. s.kind ≡ old.kind) (sym w.self-is) w.write.ensures.keeps.kind;
        part = subst (λ s. KeepsHonesty g.F.Files (IsErrOf done errors.File) old.files s.files) (sym w.self-is) (more_honesty g.F.Files _ _ _ _ w.write.ensures.keeps.part (λ told. absurd (cc (told, w.in_ok-write.was))));
      }
    ]

pub returns-clause-writes : goal.returns-clause-writes
returns-clause-writes g c =
    let object = c.args.object.now in
    let content = c.as_slice-content.result.now in
    let old = c.args.self.now in
    let tree = (g.F.Files.history old.files).tree in
    elim c.if-eq.branch [
      | then-eq+in_ok-holds+else-not-branch w ↦
          subst (λ s. WritesObject g.F.Files (place_of object) (text_of object) old.files s.files done) (sym w.self-is)
          (found_written g.F.Files (place_of object) (text_of object) old.files done tt refl (λ honest.
          text_here tree c.deref.result.now (place_of object) c.loose_header-header.result.items content (text_of object) (c.deref.ensures.value ∙ c.in_ok-place.ensures)
          (found_here c.in_ok-seen.seen c.eq.result c.eq.ensures w.if-eq.true tree _ (c.in_ok-seen.ensures.file honest))
          (ap (bytes_at tree) (c.deref.ensures.value ∙ sym w.deref-then-eq.ensures.value) ∙ (w.in_ok-holds.ensures.same honest).0 w.if-not-branch.false ∙ ap (λ h. h ++ content) w.deref-then-eq-2.ensures.0)
          (spelled object content _ c.as_slice-content.ensures.value c.loose_header-header.ensures)))
      | else-eq+in_ok-write w ↦
          subst (λ s. WritesObject g.F.Files (place_of object) (text_of object) old.files s.files done) (sym w.self-is)
          (both_written g.F.Files _ _ _ _ w.write.result _ done tt w.in_ok-write.was refl
          (newly_written g.F.Files _ (place_of object) _ (text_of object) _ _ w.write.result (w.deref-else-eq.ensures.value ∙ c.in_ok-place.ensures)
          (ap (λ h. h ++ content) w.deref-else-eq-2.ensures.0 ∙ spelled object content _ c.as_slice-content.ensures.value c.loose_header-header.ensures)
          (place_differs (id_of object.id))
          (λ honest here. none_here _ c.deref.result.now _ _ (c.deref.ensures.value ∙ c.in_ok-place.ensures) (found_none c.in_ok-seen.seen c.eq.result c.eq.ensures w.if-eq.false _ _ (c.in_ok-seen.ensures.file honest)) here)
          w.write.ensures.writes))
    ]

-- an object is stored if no file is at its place, or its own is
pub returns-clause-refuses : goal.returns-clause-refuses
returns-clause-refuses g c = untaken_ok g.F.Files _ _ _ _ _ refl (λ honest.
    let object = c.args.object.now in
    let content = c.as_slice-content.result.now in
    let tree = (g.F.Files.history c.args.self.now.files).tree in
    let free = untaken object tree c.is_reserved.result c.is_reserved.ensures c.if-is_reserved.false in
    elim c.if-eq.branch [
      | then-eq+in_ok-holds+else-not-branch w ↦
          free (same_other tree c.in_ok-place.place.items _ c.loose_header-header.result.items content _ c.in_ok-place.ensures
          (ap (bytes_at tree) (sym w.deref-then-eq.ensures.value) ∙ (w.in_ok-holds.ensures.same honest).0 w.if-not-branch.false ∙ ap (λ h. h ++ content) w.deref-then-eq-2.ensures.0)
          (sym (spelled object content _ c.as_slice-content.ensures.value c.loose_header-header.ensures)))
      | else-eq+in_ok-write w ↦
          free (none_other tree c.deref.result.now _ _ (c.deref.ensures.value ∙ c.in_ok-place.ensures) (found_none c.in_ok-seen.seen c.eq.result c.eq.ensures w.if-eq.false _ _ (c.in_ok-seen.ensures.file honest)))
    ])

-- ---- what is known is so

pub returns-in_err-make_room-clause-exist : goal.returns-in_err-make_room-clause-exist
returns-in_err-make_room-clause-exist g c = λ known. (known.0, same_known _ _ _ refl c.make_room.ensures.ids refl known.1)

pub returns-in_err-make_room-2-clause-exist : goal.returns-in_err-make_room-2-clause-exist
returns-in_err-make_room-2-clause-exist g c = λ known. (known.0, same_known _ _ _ refl c.in_ok-make_room.ensures.ids c.make_room-2.ensures.ids known.1)

pub returns-in_err-place-clause-exist : goal.returns-in_err-place-clause-exist
returns-in_err-place-clause-exist g c = λ known. (known.0, same_known _ _ _ refl c.in_ok-make_room.ensures.ids c.in_ok-make_room-2.ensures.ids known.1)

pub returns-in_err-seen-clause-exist : goal.returns-in_err-seen-clause-exist
returns-in_err-seen-clause-exist g c = λ known. (known.0, same_known _ _ _ refl c.in_ok-make_room.ensures.ids c.in_ok-make_room-2.ensures.ids known.1)

pub returns-in_err-holds-clause-exist : goal.returns-in_err-holds-clause-exist
returns-in_err-holds-clause-exist g c = λ known. (known.0, same_known _ _ _ refl c.in_ok-make_room.ensures.ids c.in_ok-make_room-2.ensures.ids known.1)

pub returns-then-not-branch-clause-exist : goal.returns-then-not-branch-clause-exist
returns-then-not-branch-clause-exist g c = λ known. (known.0, same_known _ _ _ refl c.in_ok-make_room.ensures.ids c.in_ok-make_room-2.ensures.ids known.1)

pub returns-clause-exist : goal.returns-clause-exist
returns-clause-exist g c = λ known.
    let old = c.args.self.now in
    let honest = (returns-clause-keeps g c).part.honest known.0 in
    let ids : kept c.if-eq.self.ids ≡ kept old.ids = elim c.if-eq.branch [
      | then-eq+in_ok-holds+else-not-branch w ↦ ap (λ s. kept s.ids) w.self-is ∙ c.in_ok-make_room.ensures.ids
      | else-eq+in_ok-write w ↦ ap (λ s. kept s.ids) w.self-is ∙ ap kept w.write.ensures.ids ∙ c.in_ok-make_room.ensures.ids
    ] in
    let commits : kept c.if-eq.self.commits ≡ kept old.commits = elim c.if-eq.branch [
      | then-eq+in_ok-holds+else-not-branch w ↦ ap (λ s. kept s.commits) w.self-is ∙ c.in_ok-make_room-2.ensures.ids
      | else-eq+in_ok-write w ↦ ap (λ s. kept s.commits) w.self-is ∙ ap kept w.write.ensures.commits ∙ c.in_ok-make_room-2.ensures.ids
    ] in
    let folders : HasFolders (g.F.Files.history c.if-eq.self.files).tree c.if-eq.self.folders = elim c.if-eq.branch [
      | then-eq+in_ok-holds+else-not-branch w ↦ subst (λ s. HasFolders (g.F.Files.history s.files).tree s.folders) (sym w.self-is) known.1.folders
      | else-eq+in_ok-write w ↦ subst (λ s. HasFolders (g.F.Files.history s.files).tree s.folders) (sym w.self-is)
          (w.write.ensures.folders (known.0, known.1.folders) (c.in_ok-seen.ensures.seen (known.0, known.1.folders) ∙ ap (seen_at (g.F.Files.history old.files).tree) (c.deref.ensures.value ∙ sym w.deref-else-eq.ensures.value))).1
    ] in (
      honest,
      put_known old _ c.args.object.now c.args.object.now.named (g.F.Files.history old.files).tree (g.F.Files.history c.if-eq.self.files).tree known.1 ((returns-clause-writes g c).stored known.0) ((returns-clause-refuses g c).free known.0)
          (c.insert.ensures ∙ ap (λ (s : IdSet). with_id s (id_of c.args.object.now.id)) ids)
          (c.insert_if.ensures ∙ (λ i. with_id_if (c.is_commit.ensures i) (commits i) (id_of c.args.object.now.id)))
          folders,
    )
