use Rattle.std.proofs.Common.{◌≡◌, ◌∙◌, ap, arith, length, refl, subst, sym, Ok, Err, ◌<◌, ◌^◌, false}
use Rattle.std.proofs.lemmas.Result.{err_from_is_err_and}
use Rattle.gix_hash.specs.Id.{id_of}
use Rattle.gix_hash.specs.declared.kind.Kind.{Kind}
use Rattle.gix_hash.specs.declared.object_id.ObjectId.{ObjectId}
use Rattle.gix_object_lines.specs.declared.kind.Kind.{Kind as ObjectKind}
use Rattle.gix_object_lookup.specs.Table.{Table}
use Rattle.gix_object_write.specs.Keeping.{IsAsBefore, Puts}
use Rattle.gix_ref_file.specs.Tree.{Tree}
use Rattle.history_model.specs.Bytes.{Bytes}
use Rattle.history_model.specs.Objects.{object_text}
use Rattle.history_model.proofs.IdLemmas.{digest_is_id, has_kind}
use Rattle.history_store.specs.Calls.{WritesObject}
use Rattle.history_store.specs.Ids.{AreOfKind, with_id}
use Rattle.history_store.specs.KnownObjects.{table_of}
use Rattle.history_store.specs.ObjectsFace.{files_of_objects, ids_of_objects, kind_of_objects}
use Rattle.history_store.specs.Puts.{Fits, IsRefusal, is_fault, of_made}
use Rattle.history_model.specs.Forms.{max_content}
use Rattle.history_store.specs.Stores.{IsIdTaken, IsTaken}
use Rattle.history_store.specs.declared.objects.PutMadeError.{PutMadeError}
use Rattle.history_store.specs.declared.objects.PutMadeError.TheVariants as made
use Rattle.history_store.specs.declared.put.PutError.TheVariants.{TooLarge}
use Rattle.history_texts.specs.ObjectTexts.{object_id}
use Rattle.history_texts.specs.declared.object.NewObject.{NewObject}
use Rattle.history_store.proofs.Contents.{IsObject, gains, gains_known, keeps, keeps_known, taken_back, taken_told, told}
use Rattle.history_store.proofs.Honesty.{more_honesty, same_honesty}
use Rattle.history_store.proofs.IdSets.{kinds_more}
use Rattle.history_store.proofs.Maps.{Knows, table_in}
use Rattle.history_store.proofs.Unwritten.{also_written, both_written, none_written}
use Rattle.history_store.proofs.objects.Objects.put.Goals as goal

own : (digests asked : Kind) (kind : ObjectKind) (content : Bytes) (object : NewObject) → id_of object.id ≡ object_id asked kind content → asked ≡ digests → object.kind ≡ kind → object.content.items ≡ content → IsObject digests kind content object
own digests asked kind content object id same of_kind bytes = record { id = id ∙ ap (λ k. object_id k kind content) same; of_kind = of_kind; bytes = bytes }

kind_of_text : (digests : Kind) (kind : ObjectKind) (content : Bytes) → (object_id digests kind content).kind ≡ digests
kind_of_text digests kind content = (has_kind digests (object_id digests kind content) (digest_is_id digests (object_text kind content))).of_kind

-- why an object that was made isn't put
made_refused : (digests : Kind) (table : Table) (tree : Tree) (kind : ObjectKind) (content : Bytes) (object : NewObject) (is : IsObject digests kind content object) → Fits digests table kind content → (error : PutMadeError)
    → ((id : ObjectId) → error ≡ made.IdTaken id → (id ≡ object.id) × IsTaken object tree) → IsRefusal digests table tree kind content (of_made error)
made_refused digests table tree kind content object is fits (made.IdTaken id) taken =
    let found = taken id refl in
    let same : id_of id ≡ object_id digests kind content = ap id_of found.0 ∙ is.id in
    (fits, same, subst (λ i. IsIdTaken i kind content tree) (sym same) (taken_told digests kind content object is tree found.1))
made_refused digests table tree kind content object is fits made.File taken = tt
made_refused digests table tree kind content object is fits made.Memory taken = tt

made_within : (error : PutMadeError) → of_made error ≡ TooLarge → ⊥
made_within (made.IdTaken id) is = cc
made_within made.File is = cc
made_within made.Memory is = cc

made_causes : {A : Type 0} (error : PutMadeError) → is_fault (of_made error) ≡ false → ((id : ObjectId) → error ≡ made.IdTaken id → A) → A
made_causes (made.IdTaken id) cause taken = taken id refl
made_causes made.File cause taken = absurd (cc cause)
made_causes made.Memory cause taken = absurd (cc cause)

-- ---- the content may not be put

pub returns-in_err-check-clause-keeps : goal.returns-in_err-check-clause-keeps
returns-in_err-check-clause-keeps g c = record { kind = refl; part = same_honesty g.F.Files _ _ _ refl }

pub returns-in_err-check-clause-puts : goal.returns-in_err-check-clause-puts
returns-in_err-check-clause-puts g c =
    let p = err_from_is_err_and c.from_residual.result c.from_residual.ensures.1 in
    rw p.1 (record { id = tt; holds = λ holds. holds; added = λ holds. tt; kept = λ holds id. refl; fits = λ holds. tt })

pub returns-in_err-check-clause-refuses : goal.returns-in_err-check-clause-refuses
returns-in_err-check-clause-refuses g c =
    let digests = kind_of_objects c.args.self.now in
    let p = err_from_is_err_and c.from_residual.result c.from_residual.ensures.1 in
    let large = c.check.ensures.large in
    record {
      causes = λ holds. rw (p.1, p.2) (subst (λ text. IsRefusal digests (table_of g.F.Files.history c.args.self.now) (g.F.Files.history (files_of_objects c.args.self.now)).tree c.args.kind text c.in_err-check.field-0.0) c.deref.ensures.value
          (c.in_err-check.ensures.refused holds));
      large = (
        λ told. subst (λ text. max_content < length text) c.deref.ensures.value (large.0 (cc (told, c.in_err-check.was, p.1, p.2))),
        λ long. cc (large.1 (subst (λ text. max_content < length text) (sym c.deref.ensures.value) long), c.in_err-check.was, p.1, p.2),
      );
      free = λ honest. rw p.1 tt;
      untouched = rw p.1 (λ cause. refl);
    }

pub returns-in_err-check-clause-writes : goal.returns-in_err-check-clause-writes
returns-in_err-check-clause-writes g c =
    let p = err_from_is_err_and c.from_residual.result c.from_residual.ensures.1 in
    none_written g.F.Files _ _ _ _ _ p.1

-- ---- it isn't put

pub returns-in_err-put_made-clause-keeps : goal.returns-in_err-put_made-clause-keeps
returns-in_err-put_made-clause-keeps g c =
    let p = err_from_is_err_and c.from_residual-in_err-put_made.result c.from_residual-in_err-put_made.ensures.1 in
    record {
      kind = c.put_made.ensures.keeps.kind;
      part = more_honesty g.F.Files _ _ _ _ c.put_made.ensures.keeps.part (λ told. let is : c.in_err-put_made.field-0.0 ≡ made.File = cc (told, c.in_err-put_made.was) in p.1 ∙ ap Err (p.2 ∙ ap of_made is));
    }

pub returns-in_err-put_made-clause-puts : goal.returns-in_err-put_made-clause-puts
returns-in_err-put_made-clause-puts g c =
    let digests = kind_of_objects c.args.self.now in
    let is = own digests c.kind.result c.args.kind c.args.content.items c.new-object.result c.new-object.ensures.id c.kind.ensures c.new-object.ensures.kind (ap (λ v. v.items) c.new-object.ensures.content) in
    let old = g.F.Files.history (files_of_objects c.args.self.now) in
    let new = g.F.Files.history (files_of_objects c.put_made.new.self) in
    let p = err_from_is_err_and c.from_residual-in_err-put_made.result c.from_residual-in_err-put_made.ensures.1 in
    let writes = c.put_made.ensures.writes in
    let refuses = c.put_made.ensures.refuses in
    rw p.1 (record {
      id = tt;
      holds = λ holds. record {
        honest = c.put_made.ensures.keeps.part.honest holds.honest;
        known = subst (λ ids. Knows ids new.tree) (sym c.in_err-put_made.ensures.known)
            (keeps_known digests c.args.kind c.args.content.items c.new-object.result is old new (ids_of_objects c.args.self.now) holds.known (writes.moments holds.honest)
            (λ at. ap (λ files. (g.F.Files.history files).tree) (writes.once holds.honest at)) (λ taken. ap (λ files. (g.F.Files.history files).tree) (refuses.untouched holds.honest taken)));
        kinds = subst (λ kind. AreOfKind kind (ids_of_objects c.put_made.new.self)) (sym c.put_made.ensures.keeps.kind)
            (subst (AreOfKind digests) (sym c.in_err-put_made.ensures.known) holds.kinds);
      };
      added = λ holds. tt;
      kept = λ holds.
          subst (λ ids. IsAsBefore (table_in (ids_of_objects c.args.self.now) old.tree) (table_in ids new.tree)) (sym c.in_err-put_made.ensures.known)
          (keeps digests c.args.kind c.args.content.items c.new-object.result is old new (ids_of_objects c.args.self.now) holds.known (writes.moments holds.honest)
          (λ at. ap (λ files. (g.F.Files.history files).tree) (writes.once holds.honest at)) (λ taken. ap (λ files. (g.F.Files.history files).tree) (refuses.untouched holds.honest taken)));
      fits = λ holds. tt;
    })

pub returns-in_err-put_made-clause-refuses : goal.returns-in_err-put_made-clause-refuses
returns-in_err-put_made-clause-refuses g c =
    let digests = kind_of_objects c.args.self.now in
    let is = own digests c.kind.result c.args.kind c.args.content.items c.new-object.result c.new-object.ensures.id c.kind.ensures c.new-object.ensures.kind (ap (λ v. v.items) c.new-object.ensures.content) in
    let table = table_of g.F.Files.history c.args.self.now in
    let tree = (g.F.Files.history (files_of_objects c.args.self.now)).tree in
    let p = err_from_is_err_and c.from_residual-in_err-put_made.result c.from_residual-in_err-put_made.ensures.1 in
    let error = c.in_err-put_made.field-0.0 in
    let refuses = c.put_made.ensures.refuses in
    record {
      causes = λ holds. rw (p.1, p.2) (made_refused digests table tree c.args.kind c.args.content.items c.new-object.result is
          (subst (λ text. Fits digests table c.args.kind text) c.deref.ensures.value (c.in_ok-check.ensures.fits holds)) error
          (λ id taken. (refuses.own id (c.in_err-put_made.was ∙ ap Err taken), refuses.taken id (c.in_err-put_made.was ∙ ap Err taken) holds.honest)));
      large = (
        λ told. absurd (made_within error (cc (told, p.1, p.2))),
        λ long. absurd (cc (c.check.ensures.large.1 (subst (λ text. max_content < length text) (sym c.deref.ensures.value) long), c.in_ok-check.was)),
      );
      free = λ honest. rw p.1 tt;
      untouched = rw (p.1, p.2) (λ cause. made_causes error cause (λ id taken. refuses.unwritten id (c.in_err-put_made.was ∙ ap Err taken)));
    }

pub returns-in_err-put_made-clause-writes : goal.returns-in_err-put_made-clause-writes
returns-in_err-put_made-clause-writes g c =
    let digests = kind_of_objects c.args.self.now in
    let is = own digests c.kind.result c.args.kind c.args.content.items c.new-object.result c.new-object.ensures.id c.kind.ensures c.new-object.ensures.kind (ap (λ v. v.items) c.new-object.ensures.content) in
    let p = err_from_is_err_and c.from_residual-in_err-put_made.result c.from_residual-in_err-put_made.ensures.1 in
    also_written g.F.Files _ _ _ _ c.put_made.result _ _ _ c.in_err-put_made.was p.1
    (told digests c.args.kind c.args.content.items c.new-object.result is (λ place text. WritesObject g.F.Files place text (files_of_objects c.args.self.now) (files_of_objects c.put_made.new.self) c.put_made.result) c.put_made.ensures.writes)

-- ---- it is put

pub returns-clause-keeps : goal.returns-clause-keeps
returns-clause-keeps g c = record {
  kind = c.put_made.ensures.keeps.kind;
  part = more_honesty g.F.Files _ _ _ _ c.put_made.ensures.keeps.part (λ told. absurd (cc (told, c.in_ok-put_made.was)));
}

pub returns-clause-puts : goal.returns-clause-puts
returns-clause-puts g c =
    let digests = kind_of_objects c.args.self.now in
    let id = object_id digests c.args.kind c.args.content.items in
    let is = own digests c.kind.result c.args.kind c.args.content.items c.new-object.result c.new-object.ensures.id c.kind.ensures c.new-object.ensures.kind (ap (λ v. v.items) c.new-object.ensures.content) in
    let old = g.F.Files.history (files_of_objects c.args.self.now) in
    let new = g.F.Files.history (files_of_objects c.put_made.new.self) in
    let known = c.in_ok-put_made.ensures.known ∙ ap (with_id (ids_of_objects c.args.self.now)) is.id in
    let writes = c.in_ok-put_made.ensures.writes in
    let refuses = c.in_ok-put_made.ensures.refuses in
    record {
      id = is.id;
      holds = λ holds.
          let within = (c.in_ok-check.ensures.fits holds).within in
          let fits : length c.args.content.items < 2 ^ 64 = subst (λ text. length text < 2 ^ 64) c.deref.ensures.value (omega (arith, within)) in
          record {
            honest = c.put_made.ensures.keeps.part.honest holds.honest;
            known = subst (λ ids. Knows ids new.tree) (sym known)
                (gains_known digests c.args.kind c.args.content.items c.new-object.result is old.tree new.tree (ids_of_objects c.args.self.now) holds.known (writes.stored holds.honest) (refuses.free holds.honest) fits);
            kinds = subst (λ kind. AreOfKind kind (ids_of_objects c.put_made.new.self)) (sym c.put_made.ensures.keeps.kind)
                (subst (AreOfKind digests) (sym known) (kinds_more digests (ids_of_objects c.args.self.now) id holds.kinds (kind_of_text digests c.args.kind c.args.content.items)));
          };
      added = λ holds.
          let within = (c.in_ok-check.ensures.fits holds).within in
          let fits : length c.args.content.items < 2 ^ 64 = subst (λ text. length text < 2 ^ 64) c.deref.ensures.value (omega (arith, within)) in
          subst (λ ids. Puts (table_in (ids_of_objects c.args.self.now) old.tree) (table_in ids new.tree) id (record { kind = c.args.kind; content = c.args.content.items })) (sym known)
          (gains digests c.args.kind c.args.content.items c.new-object.result is old.tree new.tree (ids_of_objects c.args.self.now) holds.known (writes.stored holds.honest) (refuses.free holds.honest) fits);
      kept = λ holds. tt;
      fits = λ holds. subst (λ text. Fits digests (table_of g.F.Files.history c.args.self.now) c.args.kind text) c.deref.ensures.value (c.in_ok-check.ensures.fits holds);
    }

pub returns-clause-refuses : goal.returns-clause-refuses
returns-clause-refuses g c =
    let digests = kind_of_objects c.args.self.now in
    let is = own digests c.kind.result c.args.kind c.args.content.items c.new-object.result c.new-object.ensures.id c.kind.ensures c.new-object.ensures.kind (ap (λ v. v.items) c.new-object.ensures.content) in
    record {
      causes = λ holds. tt;
      large = (
        λ told. absurd (cc told),
        λ long. absurd (cc (c.check.ensures.large.1 (subst (λ text. max_content < length text) (sym c.deref.ensures.value) long), c.in_ok-check.was)),
      );
      free = λ honest taken. c.in_ok-put_made.ensures.refuses.free honest (taken_back digests c.args.kind c.args.content.items c.new-object.result is _ taken);
      untouched = tt;
    }

pub returns-clause-writes : goal.returns-clause-writes
returns-clause-writes g c =
    let digests = kind_of_objects c.args.self.now in
    let is = own digests c.kind.result c.args.kind c.args.content.items c.new-object.result c.new-object.ensures.id c.kind.ensures c.new-object.ensures.kind (ap (λ v. v.items) c.new-object.ensures.content) in
    both_written g.F.Files _ _ _ _ c.put_made.result _ _ _ c.in_ok-put_made.was refl
    (told digests c.args.kind c.args.content.items c.new-object.result is (λ place text. WritesObject g.F.Files place text (files_of_objects c.args.self.now) (files_of_objects c.put_made.new.self) c.put_made.result) c.put_made.ensures.writes)
