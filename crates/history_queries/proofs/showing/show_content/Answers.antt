use Rattle.std.proofs.Common.{◌≡◌, sym, ◌∙◌, subst, false, Option, Some, None}
use Rattle.history_model.specs.Bytes.{Bytes}
use Rattle.history_model.specs.Commands.{Show}
use Rattle.history_model.specs.Causes.{is_bad_path}
use Rattle.history_model.specs.Replies.{ShowsContent, reply_text}
use Rattle.history_files.specs.declared.found.Found.{Found}
use Rattle.history_files.specs.declared.found.Found.TheVariants.{File, Folder}
use Rattle.history_queries.proofs.Answered.{IsFound, reading_fault, handed_on, reads_commit, root_at, none_found, folder_found, file_found, bytes_at, bad_path_refused, folder_refused, no_path_refused, content_answered, given}
use Rattle.history_queries.specs.Shown.{shown_content}
use Rattle.history_repository.proofs.FieldLemmas.{whole_path}
use Rattle.history_queries.proofs.showing.show_content.Goals as goal
use Rattle.gix_hash.specs.Id.{id_of}

pub returns-then-is_bad_path : goal.returns-then-is_bad_path
returns-then-is_bad_path g c = λ r word bytes s reads has kept.
    bad_path_refused r s.whole.whole word bytes (id_of c.args.meant.now.id) reads (sym (c.is_bad_path.ensures bytes kept) ∙ c.if-is_bad_path.true)

pub returns-in_err-root : goal.returns-in_err-root
returns-in_err-root g c = λ r word bytes s reads has kept.
    let sent = Show word (Some bytes) in
    let read = reads_commit r s.whole.whole word (id_of c.args.meant.now.id) reads in
    handed_on g.F.Files.reading_may_fail r sent c.from_residual.result _ c.from_residual.ensures.1
    (reading_fault g.F.Files.reading_may_fail r sent _ (c.in_err-root.ensures r read.0 s read.1 has))

pub returns-in_err-found_below : goal.returns-in_err-found_below
returns-in_err-found_below g c = λ r word bytes s reads has kept.
    let sent = Show word (Some bytes) in
    let read = reads_commit r s.whole.whole word (id_of c.args.meant.now.id) reads in
    let folder = root_at r s.whole.whole.store (id_of c.args.meant.now.id) read.0 c.in_ok-root.root read.1 (c.in_ok-root.ensures r read.0 s read.1 has) in
    handed_on g.F.Files.reading_may_fail r sent c.from_residual-in_err-found_below.result _ c.from_residual-in_err-found_below.ensures.1
    (reading_fault g.F.Files.reading_may_fail r sent _ (c.in_err-found_below.ensures r read.0.files s folder))

pub returns-in-None : goal.returns-in-None
returns-in-None g c = λ r word bytes s reads has kept.
    let good : is_bad_path bytes ≡ false = sym (c.is_bad_path.ensures bytes kept) ∙ c.if-is_bad_path.false in
    let read = reads_commit r s.whole.whole word (id_of c.args.meant.now.id) reads in
    let folder = root_at r s.whole.whole.store (id_of c.args.meant.now.id) read.0 c.in_ok-root.root read.1 (c.in_ok-root.ensures r read.0 s read.1 has) in
    let path = c.kept.ensures ∙ whole_path c.args.path.now bytes kept good in
    let told : IsFound r.kind read.0.files bytes None =
    subst (λ (p : Bytes). IsFound r.kind read.0.files p None) path
    (subst (λ (o : Option Found). IsFound r.kind read.0.files c.kept.result.now o) c.in-None.is (c.in_ok-found_below.ensures r read.0.files s folder)) in
    let none = none_found r.kind read.0.files bytes told in
    no_path_refused r s.whole.whole word bytes (id_of c.args.meant.now.id) read.0 reads read.1 good none.0 none.1

pub returns-in-Some-Folder : goal.returns-in-Some-Folder
returns-in-Some-Folder g c = λ r word bytes s reads has kept.
    let good : is_bad_path bytes ≡ false = sym (c.is_bad_path.ensures bytes kept) ∙ c.if-is_bad_path.false in
    let read = reads_commit r s.whole.whole word (id_of c.args.meant.now.id) reads in
    let folder = root_at r s.whole.whole.store (id_of c.args.meant.now.id) read.0 c.in_ok-root.root read.1 (c.in_ok-root.ensures r read.0 s read.1 has) in
    let path = c.kept.ensures ∙ whole_path c.args.path.now bytes kept good in
    let told : IsFound r.kind read.0.files bytes (Some (Folder c.in-Some-Folder.field-0-0)) =
    subst (λ (p : Bytes). IsFound r.kind read.0.files p (Some (Folder c.in-Some-Folder.field-0-0))) path
    (subst (λ (o : Found). IsFound r.kind read.0.files c.kept.result.now (Some o)) c.in-Some-Folder.field-0-is
    (subst (λ (o : Option Found). IsFound r.kind read.0.files c.kept.result.now o) c.in-Some-Folder.is (c.in_ok-found_below.ensures r read.0.files s folder))) in
    folder_refused r s.whole.whole word bytes (id_of c.args.meant.now.id) read.0 reads read.1 good (folder_found r.kind read.0.files bytes c.in-Some-Folder.field-0-0 told)

pub returns-in-Some-File : goal.returns-in-Some-File
returns-in-Some-File g c = λ r word bytes s reads has kept.
    let good : is_bad_path bytes ≡ false = sym (c.is_bad_path.ensures bytes kept) ∙ c.if-is_bad_path.false in
    let read = reads_commit r s.whole.whole word (id_of c.args.meant.now.id) reads in
    let folder = root_at r s.whole.whole.store (id_of c.args.meant.now.id) read.0 c.in_ok-root.root read.1 (c.in_ok-root.ensures r read.0 s read.1 has) in
    let path = c.kept.ensures ∙ whole_path c.args.path.now bytes kept good in
    let told : IsFound r.kind read.0.files bytes (Some (File c.in-Some-File.kind c.in-Some-File.id)) =
    subst (λ (p : Bytes). IsFound r.kind read.0.files p (Some (File c.in-Some-File.kind c.in-Some-File.id))) path
    (subst (λ (o : Found). IsFound r.kind read.0.files c.kept.result.now (Some o)) c.in-Some-File.field-0-is
    (subst (λ (o : Option Found). IsFound r.kind read.0.files c.kept.result.now o) c.in-Some-File.is (c.in_ok-found_below.ensures r read.0.files s folder))) in
    let file = file_found r.kind read.0.files bytes c.in-Some-File.kind c.in-Some-File.id told in
    let stored = bytes_at r s.whole.whole.store (id_of c.in_ok-root.root) read.0.files bytes folder c.in-Some-File.id file.1.0 file.1.1 file.1.3 in
    given g.F.Files.reading_may_fail (λ text. text.items ≡ reply_text (ShowsContent (shown_content c.in-Some-File.kind c.in-Some-File.id (file.1.0).bytes))) r (Show word (Some bytes)) c.show_file.result
    (c.show_file.ensures r (file.1.0).bytes s stored)
    (λ text written. content_answered r s.whole.whole word bytes (id_of c.args.meant.now.id) read.0 reads read.1 good g.F.Files.reading_may_fail c.in-Some-File.kind c.in-Some-File.id file.1.0 text
    file.0 file.1.1 file.1.2 file.1.3 written)
