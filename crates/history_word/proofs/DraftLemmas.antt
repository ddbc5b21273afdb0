-- What a line and the fields after it leave in the draft.
use Rattle.std.proofs.Common.{◌≡◌, ℕ, ◌<◌, true, not, List, [], ◌∷◌, ◌++◌, length, map, Option, Some, None, if◌then◌else◌, ◌⊎◌, inl, inr, refl, sym, ap, subst, ◌∙◌, append_assoc, arith, codes, flat_map}
use Rattle.std.specs.Prelude.{IfSome}
use Rattle.std.specs.List.{join_with_byte}
use Rattle.std.proofs.Common.{Vec, Global}
use Rattle.std.proofs.lemmas.Grind.{flat_map-append}
use Rattle.std.proofs.lemmas.List.{append-nil, length-append, map-append}
use Rattle.std.proofs.lemmas.Option.{same_Some}
use Rattle.history_model.specs.Bytes.{Bytes, line, is_empty}
use Rattle.history_model.specs.CommandParts.{option_expect}
use Rattle.history_model.specs.Commands as model
use Rattle.history_model.specs.Spelling as spelling
use Rattle.history_model.specs.Lines as lines
use Rattle.history_model.specs.LineWords as wording
use Rattle.history_word.specs.LineTable as table
use Rattle.history_word.specs.TableRuns.{at, run_from, next_offered}
use Rattle.history_word.specs.Commands.{IsExpect, IsTo, IsEdit}
use Rattle.history_word.specs.Drafts.{role_of, place_of, target_of, to_of, log_of, IsEditHeading, IsOpening, IsHeading, IsDraft, with_parent, with_to, with_edit, with_actor, with_message, with_paths}
use Rattle.history_word.specs.Come.{to_parents, to_committer, to_tagger, to_targets, to_mover, before_message, to_message, HasEnough, HasCome, edit_sizes, edit_heading, edit_fields, parts_with, TakesLine, TakesEdit, TakesLog, TakesActor, TakesOpening, TakesFields, TakesParts}
use Rattle.history_word.specs.declared.command.Expect.{Expect}
use Rattle.history_word.specs.declared.command.To.{To}
use Rattle.history_word.specs.declared.command.Edit.{Edit}
use Rattle.history_word.specs.declared.command.ActorLine.{ActorLine}
use Rattle.history_word.specs.declared.command.LogCommand.{LogCommand}
use Rattle.history_word.specs.declared.heading.Role.{Role}
use Rattle.history_word.specs.declared.heading.Role.TheVariants.{Author, Committer, Tagger, Mover}
use Rattle.history_word.specs.declared.heading.EditHeading.{EditHeading}
use Rattle.history_word.specs.declared.heading.EditHeading.TheVariants as edit
use Rattle.history_word.specs.declared.heading.ActorHeading.{ActorHeading}
use Rattle.history_word.specs.declared.heading.Opening.{Opening}
use Rattle.history_word.specs.declared.heading.Opening.TheVariants as opening
use Rattle.history_word.specs.declared.heading.Heading.{Heading}
use Rattle.history_word.specs.declared.heading.Heading.TheVariants as heading
use Rattle.history_word.specs.declared.logs.LogLine.{LogLine}
use Rattle.history_word.specs.declared.place.Place.{Place}
use Rattle.history_word.specs.declared.place.Place.TheVariants as place
use Rattle.history_word.specs.declared.draft.Draft.{Draft}
use Rattle.history_word.specs.declared.draft.Draft.TheVariants as draft
use Rattle.history_word.proofs.ProgressLemmas.{leads_line, leads_field}
use Rattle.history_word.proofs.LineEndLemmas.{fields_text, heading_sizes_are, one_text, first_number, second_number}

abbrev Word : Type 0
Word = Option (Vec ℕ Global)

-- ---- a line and the fields after it

leads_fields : (fields : List Bytes) (q : table.Place) → run_from (at (map length fields) q) (map spelling.Field fields) ≡ Some (at [] q)
leads_fields [] q = refl
leads_fields (f ∷ fields) q = leads_field f (map length fields) q (map spelling.Field fields) ∙ leads_fields fields q

line_some : (text : Bytes) → 0 < length (line text)
line_some text = omega (arith, length-append text (10 ∷ []))

pub takes_parts : (p q : Place) (said : Heading) (xs ys : Bytes) (old new : Draft) → TakesLine p said q xs → TakesFields said old new ys → TakesParts p old q new (xs ++ ys)
takes_parts p q said xs ys old new t took =
    let h = t.heading in
    let sizes : wording.sizes h ≡ map length took.fields = heading_sizes_are said h t.is ∙ took.heads in
    record {
      parts = parts_with h took.fields;
      spelled = ap (λ y. xs ++ y) took.spelled ∙ ap (λ x. x ++ flat_map line took.fields) t.spelled ∙ ap (λ t. spelling.part_text (spelling.Line (wording.words_of h)) ++ t) (sym (fields_text took.fields));
      some = omega (arith, length-append xs ys, ap length t.spelled, line_some (join_with_byte 32 (wording.words_of h)));
      leads = leads_line (place_of p) (place_of q) h (map spelling.Field took.fields) t.stands t.known t.sized
          ∙ ap (λ s. run_from (at s (place_of q)) (map spelling.Field took.fields)) sizes ∙ leads_fields took.fields (place_of q);
      come = took.come h t.is p q t.stands;
    }

-- ---- the line that a command begins with

nobody : model.ActorLine
nobody = record { name = []; email = []; seconds = []; offset = [] }

commit_goes : (name : Word) (expect : Option Expect) (new : Draft)
    → ((sent : model.CommitCommand) → IfSome name (λ w. w.items ≡ sent.name) → IfSome expect (λ x. IsExpect x sent.expect) → sent.parents ≡ [] → sent.edits ≡ [] → IsDraft new (model.Commit sent))
    → (h : lines.Heading) → IsOpening (opening.Commit name expect) h → (q : Place) → next_offered table.Start h ≡ Some (place_of q) → HasCome q new (parts_with h [])
commit_goes name expect new f (lines.CommitHeading n x) i place.Parents e =
    let sent : model.CommitCommand = record { name = n; expect = x; parents = []; edits = []; author = nobody; committer = nobody; message = [] } in
    (sent, refl, f sent i.0 i.1 refl refl, refl)
commit_goes name expect new f (lines.CommitHeading n x) i q e = cc
commit_goes name expect new f h i q e = absurd i

pub commit_opens : (name : Word) (expect : Option Expect) (new : Draft)
    → ((sent : model.CommitCommand) → IfSome name (λ w. w.items ≡ sent.name) → IfSome expect (λ x. IsExpect x sent.expect) → sent.parents ≡ [] → sent.edits ≡ [] → IsDraft new (model.Commit sent))
    → TakesOpening (opening.Commit name expect) new []
commit_opens name expect new f = record { fields = []; heads = refl; spelled = refl; begins = commit_goes name expect new f }

tag_goes : (target : Option To) (new : Draft) → ((sent : model.TagCommand) → IfSome target (λ x. IsTo x (target_of sent)) → IsDraft new (model.Tag sent))
    → (h : lines.Heading) → IsOpening (opening.Tag target) h → (q : Place) → next_offered table.Start h ≡ Some (place_of q) → HasCome q new (parts_with h [])
tag_goes target new f (lines.TagHeading n x w) i place.Tagger e =
    let sent : model.TagCommand = record { name = n; expect = x; word = w; tagger = nobody; message = [] } in
    (sent, refl, f sent i)
tag_goes target new f (lines.TagHeading n x w) i q e = cc
tag_goes target new f h i q e = absurd i

pub tag_opens : (target : Option To) (new : Draft) → ((sent : model.TagCommand) → IfSome target (λ x. IsTo x (target_of sent)) → IsDraft new (model.Tag sent)) → TakesOpening (opening.Tag target) new []
tag_opens target new f = record { fields = []; heads = refl; spelled = refl; begins = tag_goes target new f }

move_goes : (new : Draft) → ((sent : model.MoveCommand) → sent.to ≡ [] → IsDraft new (model.Move sent))
    → (h : lines.Heading) → IsOpening opening.Move h → (q : Place) → next_offered table.Start h ≡ Some (place_of q) → HasCome q new (parts_with h [])
move_goes new f lines.MoveHeading i place.ToFirst e = let sent : model.MoveCommand = record { to = []; actor = nobody; message = [] } in (sent, refl, f sent refl)
move_goes new f lines.MoveHeading i q e = cc
move_goes new f h i q e = absurd i

pub move_opens : (new : Draft) → ((sent : model.MoveCommand) → sent.to ≡ [] → IsDraft new (model.Move sent)) → TakesOpening opening.Move new []
move_opens new f = record { fields = []; heads = refl; spelled = refl; begins = move_goes new f }

-- after its line, a command of one line is done
done_come : (d : Draft) (sent : model.Command) (parts : List spelling.Part) (q : Place) → Some table.Done ≡ Some (place_of q) → parts ≡ spelling.parts_of sent → spelling.has_enough sent ≡ true → IsDraft d sent → HasCome q d parts
done_come d sent parts place.Done e spelled enough has = (sent, spelled, record { enough = enough; has = has })
done_come d sent parts q e spelled enough has = cc

rename_goes : (from to : Word) (new : Draft) → ((f t : Bytes) → IfSome from (λ x. x.items ≡ f) → IfSome to (λ x. x.items ≡ t) → IsDraft new (model.Rename f t))
    → (h : lines.Heading) → IsOpening (opening.Rename from to) h → (q : Place) → next_offered table.Start h ≡ Some (place_of q) → HasCome q new (parts_with h [])
rename_goes from to new f (lines.RenameHeading o n) i q e = done_come new (model.Rename o n) _ q e refl refl (f o n i.0 i.1)
rename_goes from to new f h i q e = absurd i

pub rename_opens : (from to : Word) (new : Draft) → ((f t : Bytes) → IfSome from (λ x. x.items ≡ f) → IfSome to (λ x. x.items ≡ t) → IsDraft new (model.Rename f t)) → TakesOpening (opening.Rename from to) new []
rename_opens from to new f = record { fields = []; heads = refl; spelled = refl; begins = rename_goes from to new f }

delete_goes : (name : Word) (expect : Option Expect) (new : Draft) → ((n : Bytes) (at : Option Bytes) → IfSome name (λ x. x.items ≡ n) → IfSome expect (λ x. IsExpect x (option_expect at)) → IsDraft new (model.Delete n at))
    → (h : lines.Heading) → IsOpening (opening.Delete name expect) h → (q : Place) → next_offered table.Start h ≡ Some (place_of q) → HasCome q new (parts_with h [])
delete_goes name expect new f (lines.DeleteHeading n at) i q e = done_come new (model.Delete n at) _ q e refl refl (f n at i.0 i.1)
delete_goes name expect new f h i q e = absurd i

pub delete_opens : (name : Word) (expect : Option Expect) (new : Draft) → ((n : Bytes) (at : Option Bytes) → IfSome name (λ x. x.items ≡ n) → IfSome expect (λ x. IsExpect x (option_expect at)) → IsDraft new (model.Delete n at))
    → TakesOpening (opening.Delete name expect) new []
delete_opens name expect new f = record { fields = []; heads = refl; spelled = refl; begins = delete_goes name expect new f }

files_goes : (word : Word) (h : lines.Heading) → IsOpening (opening.Files word) h → (q : Place) → next_offered table.Start h ≡ Some (place_of q) → HasCome q (draft.Files word) (parts_with h [])
files_goes word (lines.FilesHeading w) i q e = done_come (draft.Files word) (model.Files w) _ q e refl refl i
files_goes word h i q e = absurd i

pub files_opens : (word : Word) → TakesOpening (opening.Files word) (draft.Files word) []
files_opens word = record { fields = []; heads = refl; spelled = refl; begins = files_goes word }

show_goes : (word : Word) (new : Draft) → ((w : Bytes) → IfSome word (λ x. x.items ≡ w) → IsDraft new (model.Show w None))
    → (h : lines.Heading) → IsOpening (opening.Show word) h → (q : Place) → next_offered table.Start h ≡ Some (place_of q) → HasCome q new (parts_with h [])
show_goes word new f (lines.ShowHeading w None) i q e = done_come new (model.Show w None) _ q e refl refl (f w i)
show_goes word new f h i q e = absurd i

pub show_opens : (word : Word) (new : Draft) → ((w : Bytes) → IfSome word (λ x. x.items ≡ w) → IsDraft new (model.Show w None)) → TakesOpening (opening.Show word) new []
show_opens word new f = record { fields = []; heads = refl; spelled = refl; begins = show_goes word new f }

path_goes : (word : Word) (n : ℕ) (a : Bytes) (new : Draft) → length a ≡ n → ((w : Bytes) → IfSome word (λ x. x.items ≡ w) → IsDraft new (model.Show w (Some a)))
    → (h : lines.Heading) → IsOpening (opening.ShowPath word n) h → (q : Place) → next_offered table.Start h ≡ Some (place_of q) → HasCome q new (parts_with h (a ∷ []))
path_goes word n a new l f (lines.ShowHeading w (Some m)) i q e =
    done_come new (model.Show w (Some a)) _ q e (ap (λ k. parts_with (lines.ShowHeading w (Some k)) (a ∷ [])) (sym i.1 ∙ sym l)) refl (f w i.0)
path_goes word n a new l f h i q e = absurd i

pub path_opens : (word : Word) (n : ℕ) (ys : Bytes) (new : Draft) (a : Bytes) → length a ≡ n → ys ≡ line a → ((w : Bytes) → IfSome word (λ x. x.items ≡ w) → IsDraft new (model.Show w (Some a))) → TakesOpening (opening.ShowPath word n) new ys
path_opens word n ys new a l y f = record { fields = a ∷ []; heads = ap (λ k. k ∷ []) (sym l); spelled = one_text ys a y; begins = path_goes word n a new l f }

names_goes : (h : lines.Heading) → IsOpening opening.Names h → (q : Place) → next_offered table.Start h ≡ Some (place_of q) → HasCome q draft.Names (parts_with h [])
names_goes (lines.NamesHeading None) i q e = done_come draft.Names (model.Names None) _ q e refl refl tt
names_goes h i q e = absurd i

pub names_opens : TakesOpening opening.Names draft.Names []
names_opens = record { fields = []; heads = refl; spelled = refl; begins = names_goes }

folder_goes : (folder : Word) (h : lines.Heading) → IsOpening (opening.NamesIn folder) h → (q : Place) → next_offered table.Start h ≡ Some (place_of q) → HasCome q (draft.NamesIn folder) (parts_with h [])
folder_goes folder (lines.NamesHeading (Some f)) i q e = done_come (draft.NamesIn folder) (model.Names (Some f)) _ q e refl refl i
folder_goes folder h i q e = absurd i

pub folder_opens : (folder : Word) → TakesOpening (opening.NamesIn folder) (draft.NamesIn folder) []
folder_opens folder = record { fields = []; heads = refl; spelled = refl; begins = folder_goes folder }

past_goes : (word : Word) (h : lines.Heading) → IsOpening (opening.Past word) h → (q : Place) → next_offered table.Start h ≡ Some (place_of q) → HasCome q (draft.Past word) (parts_with h [])
past_goes word (lines.PastHeading w) i q e = done_come (draft.Past word) (model.Past w) _ q e refl refl i
past_goes word h i q e = absurd i

switch_goes : (name : Word) (h : lines.Heading) → IsOpening (opening.Switch name) h → (q : Place) → next_offered table.Start h ≡ Some (place_of q) → HasCome q (draft.Switch name) (parts_with h [])
switch_goes name (lines.SwitchHeading n) i q e = done_come (draft.Switch name) (model.Switch n) _ q e refl refl i
switch_goes name h i q e = absurd i

pub switch_opens : (name : Word) → TakesOpening (opening.Switch name) (draft.Switch name) []
switch_opens name = record { fields = []; heads = refl; spelled = refl; begins = switch_goes name }

pack_goes : (h : lines.Heading) → IsOpening opening.Pack h → (q : Place) → next_offered table.Start h ≡ Some (place_of q) → HasCome q draft.Pack (parts_with h [])
pack_goes lines.PackHeading i q e = done_come draft.Pack model.Pack _ q e refl refl tt
pack_goes h i q e = absurd i

pub pack_opens : TakesOpening opening.Pack draft.Pack []
pack_opens = record { fields = []; heads = refl; spelled = refl; begins = pack_goes }

index_goes : (h : lines.Heading) → IsOpening opening.Index h → (q : Place) → next_offered table.Start h ≡ Some (place_of q) → HasCome q draft.Index (parts_with h [])
index_goes lines.IndexHeading i q e = done_come draft.Index model.Index _ q e refl refl tt
index_goes h i q e = absurd i

pub index_opens : TakesOpening opening.Index draft.Index []
index_opens = record { fields = []; heads = refl; spelled = refl; begins = index_goes }

pub past_opens : (word : Word) → TakesOpening (opening.Past word) (draft.Past word) []
past_opens word = record { fields = []; heads = refl; spelled = refl; begins = past_goes word }

-- ---- the parts of a log

-- the line of a log with paths of these lengths
abbrev log_heading : model.LogCommand → List ℕ → lines.Heading
log_heading log sizes = lines.LogHeading log.order log.first_parents log.items sizes

paths_words : (paths : List Bytes) → flat_map wording.size_words (map length paths) ≡ flat_map spelling.path_words paths
paths_words [] = refl
paths_words (path ∷ paths) = ap (λ words. spelling.path_words path ++ words) (paths_words paths)

log_spelled : (log : model.LogCommand) (paths : List Bytes) → parts_with (log_heading log (map length paths)) paths ≡ spelling.parts_of (model.Log (with_paths log paths))
log_spelled log paths =
    ap (λ words. spelling.Line (codes "log" ∷ (spelling.order_words log.order ++ (spelling.parents_word log.first_parents ∷ (map spelling.item_word log.items ++ words)))) ∷ map spelling.Field paths) (paths_words paths)

log_goes : (said : LogLine) (log : Option LogCommand) (ys : Bytes) (took : TakesLog said log ys) (h : lines.Heading) → IsOpening (opening.Log said) h → (q : Place) → next_offered table.Start h ≡ Some (place_of q)
    → HasCome q (draft.Log log) (parts_with h took.paths)
log_goes said log ys took (lines.LogHeading sent first_parents items sizes) i q e =
    let line = log_of sent first_parents items in
    done_come (draft.Log log) (model.Log (with_paths line took.paths)) _ q
    (sym (ap (λ b. if b then Some table.Done else None) i.0.begins) ∙ e)
    (ap (λ ns. parts_with (log_heading line ns) took.paths) (sym i.1 ∙ took.heads) ∙ log_spelled line took.paths)
    i.0.begins
    (took.is line i.0)
log_goes said log ys took h i q e = absurd i

pub log_opens : (said : LogLine) (log : Option LogCommand) (ys : Bytes) → TakesLog said log ys → TakesOpening (opening.Log said) (draft.Log log) ys
log_opens said log ys took = record { fields = took.paths; heads = took.heads; spelled = took.spelled; begins = log_goes said log ys took }

-- such a line is only at a command's start

at_start : (said : Opening) (h : lines.Heading) → IsOpening said h → (p q : Place) → next_offered (place_of p) h ≡ Some (place_of q) → p ≡ place.Start
at_start (opening.Commit name expect) (lines.CommitHeading n x) i place.Start q e = refl
at_start (opening.Commit name expect) (lines.CommitHeading n x) i p q e = cc
at_start (opening.Tag target) (lines.TagHeading n x w) i place.Start q e = refl
at_start (opening.Tag target) (lines.TagHeading n x w) i p q e = cc
at_start opening.Move lines.MoveHeading i place.Start q e = refl
at_start opening.Move lines.MoveHeading i p q e = cc
at_start (opening.Rename from to) (lines.RenameHeading o n) i place.Start q e = refl
at_start (opening.Rename from to) (lines.RenameHeading o n) i p q e = cc
at_start (opening.Delete name expect) (lines.DeleteHeading n at) i place.Start q e = refl
at_start (opening.Delete name expect) (lines.DeleteHeading n at) i p q e = cc
at_start (opening.Files word) (lines.FilesHeading w) i place.Start q e = refl
at_start (opening.Files word) (lines.FilesHeading w) i p q e = cc
at_start (opening.Show word) (lines.ShowHeading w None) i place.Start q e = refl
at_start (opening.Show word) (lines.ShowHeading w None) i p q e = cc
at_start (opening.ShowPath word n) (lines.ShowHeading w (Some m)) i place.Start q e = refl
at_start (opening.ShowPath word n) (lines.ShowHeading w (Some m)) i p q e = cc
at_start opening.Names (lines.NamesHeading None) i place.Start q e = refl
at_start opening.Names (lines.NamesHeading None) i p q e = cc
at_start (opening.NamesIn folder) (lines.NamesHeading (Some f)) i place.Start q e = refl
at_start (opening.NamesIn folder) (lines.NamesHeading (Some f)) i p q e = cc
at_start (opening.Past word) (lines.PastHeading w) i place.Start q e = refl
at_start (opening.Past word) (lines.PastHeading w) i p q e = cc
at_start (opening.Switch name) (lines.SwitchHeading n) i place.Start q e = refl
at_start (opening.Switch name) (lines.SwitchHeading n) i p q e = cc
at_start opening.Pack lines.PackHeading i place.Start q e = refl
at_start opening.Pack lines.PackHeading i p q e = cc
at_start opening.Index lines.IndexHeading i place.Start q e = refl
at_start opening.Index lines.IndexHeading i p q e = cc
at_start (opening.Log said) (lines.LogHeading sent first_parents items n) i place.Start q e = refl
at_start (opening.Log said) (lines.LogHeading sent first_parents items n) i p q e = cc
at_start said h i p q e = absurd i

pub opening_fields : (said : Opening) (old new : Draft) (ys : Bytes) → TakesOpening said new ys → TakesFields (heading.Opening said) old new ys
opening_fields said old new ys took = record {
  fields = took.fields;
  heads = took.heads;
  spelled = took.spelled;
  come = λ h i p q e before come.
      let start = at_start said h i p q e in
      let none : before ≡ [] = subst (λ p. HasCome p old before) start come in
      subst (λ b. HasCome q new (b ++ parts_with h took.fields)) (sym none) (took.begins h i q (subst (λ p. next_offered (place_of p) h ≡ Some (place_of q)) start e));
}

-- ---- the lines of a commit

parent_goes : (word : Word) (old new : Draft) → ((sent : model.CommitCommand) (w : Bytes) → IsDraft old (model.Commit sent) → IfSome word (λ x. x.items ≡ w) → IsDraft new (model.Commit (with_parent sent w)))
    → (h : lines.Heading) → IsHeading (heading.Parent word) h → (p q : Place) → next_offered (place_of p) h ≡ Some (place_of q) → (before : List spelling.Part) → HasCome p old before → HasCome q new (before ++ parts_with h [])
parent_goes word old new f (lines.ParentHeading w) i place.Parents place.Parents e before come =
    let head = spelling.Line (codes "commit" ∷ come.0.name ∷ spelling.expect_words come.0.expect) in (
      with_parent come.0 w,
      ap (λ x. x ++ parts_with (lines.ParentHeading w) []) come.1 ∙ ap (λ ps. head ∷ ps) (sym (map-append spelling.parent_part come.0.parents (w ∷ []))),
      f come.0 w come.2 i,
      come.3,
    )
parent_goes word old new f (lines.ParentHeading w) i p q e before come = cc
parent_goes word old new f h i p q e before come = absurd i

pub parent_fields : (word : Word) (old new : Draft) → ((sent : model.CommitCommand) (w : Bytes) → IsDraft old (model.Commit sent) → IfSome word (λ x. x.items ≡ w) → IsDraft new (model.Commit (with_parent sent w))) → TakesFields (heading.Parent word) old new []
parent_fields word old new f = record { fields = []; heads = refl; spelled = refl; come = parent_goes word old new f }

-- a place for an edit or the author
abbrev AtEdits : Place → Type 0
AtEdits p = (p ≡ place.Parents) ⊎ (p ≡ place.Edits)

-- after the parents, before any edit, the list of edits is empty
come_to_edits : (p : Place) (d : Draft) (before : List spelling.Part) → AtEdits p → HasCome p d before → HasCome place.Edits d before
come_to_edits p d before (inl e) come = no_edits (subst (λ q. HasCome q d before) e come)
  where
    no_edits : HasCome place.Parents d before → HasCome place.Edits d before
    no_edits c = (
      c.0,
      c.1 ∙ sym (append-nil (to_parents c.0)) ∙ ap (λ es. to_parents c.0 ++ flat_map spelling.edit_parts es) (sym c.3),
      c.2,
    )
come_to_edits p d before (inr e) come = subst (λ q. HasCome q d before) e come

edit_place : (l : model.EditLine) (p q : Place) → next_offered (place_of p) (edit_heading l) ≡ Some (place_of q) → AtEdits p × (q ≡ place.Edits)
edit_place l place.Parents place.Edits e = (inl refl, refl)
edit_place l place.Edits place.Edits e = (inr refl, refl)
edit_place (model.PutLine kind path content) p q e = cc
edit_place (model.RemoveLine path) p q e = cc
edit_place (model.RemoveFileLine path) p q e = cc
edit_place (model.GraftLine path word source) p q e = cc

edit_spelled : (l : model.EditLine) → parts_with (edit_heading l) (edit_fields l) ≡ spelling.edit_parts l
edit_spelled (model.PutLine kind path content) = refl
edit_spelled (model.RemoveLine path) = refl
edit_spelled (model.RemoveFileLine path) = refl
edit_spelled (model.GraftLine path word source) = refl

-- the line of an edit and the fields after it
record OfEdit (h : lines.Heading) (fields : List Bytes) : Type 0 where
  line_is : model.EditLine
  heads : edit_heading line_is ≡ h
  holds : edit_fields line_is ≡ fields

of_one : (n : ℕ) (make : Bytes → model.EditLine) → ((x : Bytes) → edit_fields (make x) ≡ x ∷ []) → (k : ℕ → lines.Heading) → ((x : Bytes) → edit_heading (make x) ≡ k (length x))
    → (fields : List Bytes) → n ∷ [] ≡ map length fields → OfEdit (k n) fields
of_one n make holds k heads [] s = cc
of_one n make holds k heads (x ∷ []) s = record { line_is = make x; heads = heads x ∙ ap k (sym (first_number s)); holds = holds x }
of_one n make holds k heads (x ∷ y ∷ more) s = cc

of_two : (m n : ℕ) (make : Bytes → Bytes → model.EditLine) → ((x y : Bytes) → edit_fields (make x y) ≡ x ∷ y ∷ []) → (k : ℕ → ℕ → lines.Heading) → ((x y : Bytes) → edit_heading (make x y) ≡ k (length x) (length y))
    → (fields : List Bytes) → m ∷ n ∷ [] ≡ map length fields → OfEdit (k m n) fields
of_two m n make holds k heads [] s = cc
of_two m n make holds k heads (x ∷ []) s = cc
of_two m n make holds k heads (x ∷ y ∷ []) s = record { line_is = make x y; heads = heads x y ∙ (λ i. k (sym (first_number s) i) (sym (second_number s) i)); holds = holds x y }
of_two m n make holds k heads (x ∷ y ∷ z ∷ more) s = cc

of_edit : (said : EditHeading) (h : lines.Heading) (fields : List Bytes) → IsEditHeading said h → edit_sizes said ≡ map length fields → OfEdit h fields
of_edit (edit.Put kind m n) (lines.PutHeading k a b) fields e s =
    of_two a b (λ x y. model.PutLine k x y) (λ x y. refl) (λ m n. lines.PutHeading k m n) (λ x y. refl) fields ((λ i. sym e.1 i ∷ sym e.2 i ∷ []) ∙ s)
of_edit (edit.Remove n) (lines.RemoveHeading a) fields e s = of_one a (λ x. model.RemoveLine x) (λ x. refl) (λ n. lines.RemoveHeading n) (λ x. refl) fields ((λ i. sym e i ∷ []) ∙ s)
of_edit (edit.RemoveFile n) (lines.RemoveFileHeading a) fields e s = of_one a (λ x. model.RemoveFileLine x) (λ x. refl) (λ n. lines.RemoveFileHeading n) (λ x. refl) fields ((λ i. sym e i ∷ []) ∙ s)
of_edit (edit.Graft m word n) (lines.GraftHeading a w b) fields e s =
    of_two a b (λ x y. model.GraftLine x w y) (λ x y. refl) (λ m n. lines.GraftHeading m w n) (λ x y. refl) fields ((λ i. sym e.0 i ∷ sym e.2 i ∷ []) ∙ s)
of_edit said h fields e s = absurd e

edit_at : (l : model.EditLine) (old new : Draft) → ((sent : model.CommitCommand) → IsDraft old (model.Commit sent) → IsDraft new (model.Commit (with_edit sent l)))
    → (p q : Place) → next_offered (place_of p) (edit_heading l) ≡ Some (place_of q) → (before : List spelling.Part) → HasCome p old before → HasCome q new (before ++ parts_with (edit_heading l) (edit_fields l))
edit_at l old new f p q e before here =
    let places = edit_place l p q e in
    let come = come_to_edits p old before places.0 here in
    let c = come.0 in
    subst (λ q. HasCome q new (before ++ parts_with (edit_heading l) (edit_fields l))) (sym places.1) (
      with_edit c l,
      ap (λ x. x ++ parts_with (edit_heading l) (edit_fields l)) come.1
          ∙ append_assoc (to_parents c) (flat_map spelling.edit_parts c.edits) (parts_with (edit_heading l) (edit_fields l))
          ∙ ap (λ ps. to_parents c ++ (flat_map spelling.edit_parts c.edits ++ ps)) (edit_spelled l ∙ sym (append-nil (spelling.edit_parts l)))
          ∙ ap (λ ps. to_parents c ++ ps) (sym (flat_map-append spelling.edit_parts c.edits (l ∷ []))),
      f c come.2,
    )

-- the line and these fields after it lead from one place to the other
abbrev Goes : Draft → Draft → Place → Place → lines.Heading → List Bytes → Type 0
Goes old new p q h fields = next_offered (place_of p) h ≡ Some (place_of q) → (before : List spelling.Part) → HasCome p old before → HasCome q new (before ++ parts_with h fields)

pub edit_takes : (said : EditHeading) (edit : Option Edit) (ys : Bytes) (old new : Draft) → TakesEdit said edit ys
    → ((sent : model.CommitCommand) (l : model.EditLine) → IsDraft old (model.Commit sent) → IfSome edit (λ x. IsEdit x l) → IsDraft new (model.Commit (with_edit sent l)))
    → TakesFields (heading.Edit said) old new ys
edit_takes said edit ys old new t f = record {
  fields = t.fields;
  heads = t.heads;
  spelled = t.spelled;
  come = λ h i p q. goes h i p q (of_edit said h t.fields i t.heads);
}
  where
    goes : (h : lines.Heading) → IsEditHeading said h → (p q : Place) → OfEdit h t.fields → Goes old new p q h t.fields
    goes h i p q of =
        let is = t.is of.line_is (subst (IsEditHeading said) (sym of.heads) i) of.holds in
        subst (λ fs. Goes old new p q h fs) of.holds (subst (λ h. Goes old new p q h (edit_fields of.line_is)) of.heads (edit_at of.line_is old new (λ sent d. f sent of.line_is d is) p q))

-- ---- the lines of a move

some_more : (xs : List model.To) (x : model.To) → not (is_empty (xs ++ x ∷ [])) ≡ true
some_more [] x = refl
some_more (y ∷ xs) x = refl

targets_then : (c : model.MoveCommand) (l : model.To) (before : List spelling.Part) → before ≡ to_targets c → before ++ spelling.to_part l ∷ [] ≡ to_targets (with_to c l)
targets_then c l before e = ap (λ x. x ++ spelling.to_part l ∷ []) e ∙ ap (λ ps. spelling.Line (codes "move" ∷ []) ∷ ps) (sym (map-append spelling.to_part c.to (l ∷ [])))

to_goes : (to : Option To) (old new : Draft) → ((sent : model.MoveCommand) (l : model.To) → IsDraft old (model.Move sent) → IfSome to (λ x. IsTo x l) → IsDraft new (model.Move (with_to sent l)))
    → (h : lines.Heading) → IsHeading (heading.To to) h → (p q : Place) → next_offered (place_of p) h ≡ Some (place_of q) → (before : List spelling.Part) → HasCome p old before → HasCome q new (before ++ parts_with h [])
to_goes to old new f (lines.ToHeading n x w) i place.ToFirst place.ToMore e before come =
    let l = to_of n x w in
    (with_to come.0 l, targets_then come.0 l before come.1, record { enough = some_more come.0.to l; has = f come.0 l come.2 i })
to_goes to old new f (lines.ToHeading n x w) i place.ToMore place.ToMore e before come =
    let l = to_of n x w in
    (with_to come.0 l, targets_then come.0 l before come.1, record { enough = some_more come.0.to l; has = f come.0 l come.2.has i })
to_goes to old new f (lines.ToHeading n x w) i p q e before come = cc
to_goes to old new f h i p q e before come = absurd i

pub to_fields : (to : Option To) (old new : Draft) → ((sent : model.MoveCommand) (l : model.To) → IsDraft old (model.Move sent) → IfSome to (λ x. IsTo x l) → IsDraft new (model.Move (with_to sent l))) → TakesFields (heading.To to) old new []
to_fields to old new f = record { fields = []; heads = refl; spelled = refl; come = to_goes to old new f }

-- ---- an actor

author_place : (m n : ℕ) (s o : Bytes) (p q : Place) → next_offered (place_of p) (lines.ActorHeading lines.Author m n s o) ≡ Some (place_of q) → AtEdits p × (q ≡ place.Committer)
author_place m n s o place.Parents place.Committer e = (inl refl, refl)
author_place m n s o place.Edits place.Committer e = (inr refl, refl)
author_place m n s o p q e = cc

actor_at : (role : Role) (l : model.ActorLine) (old new : Draft)
    → ((sent : model.CommitCommand) → IsDraft old (model.Commit sent) → IsDraft new (with_actor role (model.Commit sent) l))
    → ((sent : model.TagCommand) → IsDraft old (model.Tag sent) → IsDraft new (with_actor role (model.Tag sent) l))
    → ((sent : model.MoveCommand) → IsDraft old (model.Move sent) → IsDraft new (with_actor role (model.Move sent) l))
    → (p q : Place) → next_offered (place_of p) (lines.ActorHeading (role_of role) (length l.name) (length l.email) l.seconds l.offset) ≡ Some (place_of q) → (before : List spelling.Part) → HasCome p old before
    → HasCome q new (before ++ parts_with (lines.ActorHeading (role_of role) (length l.name) (length l.email) l.seconds l.offset) (l.name ∷ l.email ∷ []))
actor_at Author l old new commits tags moves p q e before here =
    let places = author_place (length l.name) (length l.email) l.seconds l.offset p q e in
    let come = come_to_edits p old before places.0 here in
    let c = come.0 in
    subst (λ q. HasCome q new (before ++ spelling.actor_parts (codes "author") l)) (sym places.1)
    ((record c { author = l }, ap (λ x. x ++ spelling.actor_parts (codes "author") l) come.1, commits c come.2))
actor_at Committer l old new commits tags moves place.Committer place.Message e before come =
    let c = come.0 in
    (model.Commit (record c { committer = l }), ap (λ x. Some (x ++ spelling.actor_parts (codes "committer") l)) (sym come.1), record { enough = refl; has = commits c come.2 })
actor_at Committer l old new commits tags moves p q e before come = cc
actor_at Tagger l old new commits tags moves place.Tagger place.Message e before come =
    let c = come.0 in
    (model.Tag (record c { tagger = l }), ap (λ x. Some (x ++ spelling.actor_parts (codes "tagger") l)) (sym come.1), record { enough = refl; has = tags c come.2 })
actor_at Tagger l old new commits tags moves p q e before come = cc
actor_at Mover l old new commits tags moves place.ToMore place.Message e before come =
    let c = come.0 in
    (model.Move (record c { actor = l }), ap (λ x. Some (x ++ spelling.actor_parts (codes "actor") l)) (sym come.1), record { enough = come.2.enough; has = moves c come.2.has })
actor_at Mover l old new commits tags moves p q e before come = cc

pub actor_takes : (said : ActorHeading) (actor : Option ActorLine) (ys : Bytes) (old new : Draft) (t : TakesActor said actor ys) → (A : model.ActorLine → Type 0)
    → ((sent : model.CommitCommand) (l : model.ActorLine) → IsDraft old (model.Commit sent) → A l → IsDraft new (with_actor said.role (model.Commit sent) l))
    → ((sent : model.TagCommand) (l : model.ActorLine) → IsDraft old (model.Tag sent) → A l → IsDraft new (with_actor said.role (model.Tag sent) l))
    → ((sent : model.MoveCommand) (l : model.ActorLine) → IsDraft old (model.Move sent) → A l → IsDraft new (with_actor said.role (model.Move sent) l))
    → ((s o : Bytes) → IfSome said.seconds (λ w. w.items ≡ s) → IfSome said.offset (λ w. w.items ≡ o) → A (record { name = t.name; email = t.email; seconds = s; offset = o }))
    → TakesFields (heading.Actor said) old new ys
actor_takes said actor ys old new t A commits tags moves is = record {
  fields = t.name ∷ t.email ∷ [];
  heads = λ i. t.sized.0 i ∷ t.sized.1 i ∷ [];
  spelled = t.spelled;
  come = goes;
}
  where
    goes : (h : lines.Heading) → IsHeading (heading.Actor said) h → (p q : Place) → next_offered (place_of p) h ≡ Some (place_of q) → (before : List spelling.Part) → HasCome p old before
        → HasCome q new (before ++ parts_with h (t.name ∷ t.email ∷ []))
    goes (lines.ActorHeading r m n s o) e p q =
        let l : model.ActorLine = record { name = t.name; email = t.email; seconds = s; offset = o } in
        let a = is s o e.3 e.4 in
        let same : lines.ActorHeading (role_of said.role) (length t.name) (length t.email) s o ≡ lines.ActorHeading r m n s o = λ i. lines.ActorHeading (e.0 i) ((sym t.sized.0 ∙ e.1) i) ((sym t.sized.1 ∙ e.2) i) s o in
        subst (λ h. next_offered (place_of p) h ≡ Some (place_of q) → (before : List spelling.Part) → HasCome p old before → HasCome q new (before ++ parts_with h (t.name ∷ t.email ∷ []))) same
        (actor_at said.role l old new (λ sent d. commits sent l d a) (λ sent d. tags sent l d a) (λ sent d. moves sent l d a) p q)
    goes h e p q = absurd e

-- ---- the message, and the end

message_then : (a : Bytes) (old new : Draft)
    → ((sent : model.CommitCommand) → IsDraft old (model.Commit sent) → IsDraft new (with_message (model.Commit sent) a))
    → ((sent : model.TagCommand) → IsDraft old (model.Tag sent) → IsDraft new (with_message (model.Tag sent) a))
    → ((sent : model.MoveCommand) → IsDraft old (model.Move sent) → IsDraft new (with_message (model.Move sent) a))
    → (sent : model.Command) (before : List spelling.Part) → before_message sent ≡ Some before → HasEnough old sent → (to_message (with_message sent a) ≡ Some (before ++ spelling.message_parts a)) × HasEnough new (with_message sent a)
message_then a old new commits tags moves (model.Commit c) before e h = (ap (λ x. Some (x ++ spelling.message_parts a)) (same_Some (to_committer c) before e), record { enough = refl; has = commits c h.has })
message_then a old new commits tags moves (model.Tag c) before e h = (ap (λ x. Some (x ++ spelling.message_parts a)) (same_Some (to_tagger c) before e), record { enough = refl; has = tags c h.has })
message_then a old new commits tags moves (model.Move c) before e h = (ap (λ x. Some (x ++ spelling.message_parts a)) (same_Some (to_mover c) before e), record { enough = h.enough; has = moves c h.has })
message_then a old new commits tags moves sent before e h = cc

message_goes : (n : ℕ) (a : Bytes) (old new : Draft) → length a ≡ n
    → ((sent : model.CommitCommand) → IsDraft old (model.Commit sent) → IsDraft new (with_message (model.Commit sent) a))
    → ((sent : model.TagCommand) → IsDraft old (model.Tag sent) → IsDraft new (with_message (model.Tag sent) a))
    → ((sent : model.MoveCommand) → IsDraft old (model.Move sent) → IsDraft new (with_message (model.Move sent) a))
    → (h : lines.Heading) → IsHeading (heading.Message n) h → (p q : Place) → next_offered (place_of p) h ≡ Some (place_of q) → (before : List spelling.Part) → HasCome p old before → HasCome q new (before ++ parts_with h (a ∷ []))
message_goes n a old new l commits tags moves (lines.MessageHeading m) i place.Message place.End e before come =
    let told = message_then a old new commits tags moves come.0 before come.1 come.2 in
    let size : length a ≡ m = l ∙ i in
    (with_message come.0 a, told.0 ∙ ap (λ k. Some (before ++ parts_with (lines.MessageHeading k) (a ∷ []))) size, told.1)
message_goes n a old new l commits tags moves (lines.MessageHeading m) i p q e before come = cc
message_goes n a old new l commits tags moves h i p q e before come = absurd i

pub message_fields : (n : ℕ) (ys : Bytes) (old new : Draft) (a : Bytes) → length a ≡ n → ys ≡ line a
    → ((sent : model.CommitCommand) → IsDraft old (model.Commit sent) → IsDraft new (with_message (model.Commit sent) a))
    → ((sent : model.TagCommand) → IsDraft old (model.Tag sent) → IsDraft new (with_message (model.Tag sent) a))
    → ((sent : model.MoveCommand) → IsDraft old (model.Move sent) → IsDraft new (with_message (model.Move sent) a)) → TakesFields (heading.Message n) old new ys
message_fields n ys old new a l y commits tags moves = record { fields = a ∷ []; heads = ap (λ k. k ∷ []) (sym l); spelled = one_text ys a y; come = message_goes n a old new l commits tags moves }

whole : (head : spelling.Part) (ps e a c m z : List spelling.Part) → (((((head ∷ ps) ++ e) ++ a) ++ c) ++ m) ++ z ≡ head ∷ (ps ++ (e ++ (a ++ (c ++ (m ++ z)))))
whole head ps e a c m z =
    ap (λ t. head ∷ t) (append_assoc (((ps ++ e) ++ a) ++ c) m z ∙ append_assoc ((ps ++ e) ++ a) c (m ++ z) ∙ append_assoc (ps ++ e) a (c ++ (m ++ z)) ∙ append_assoc ps e (a ++ (c ++ (m ++ z))))

whole_move : (head : spelling.Part) (ps a m z : List spelling.Part) → (((head ∷ ps) ++ a) ++ m) ++ z ≡ head ∷ (ps ++ (a ++ (m ++ z)))
whole_move head ps a m z = ap (λ t. head ∷ t) (append_assoc (ps ++ a) m z ∙ append_assoc ps a (m ++ z))

ended : (sent : model.Command) (before : List spelling.Part) → to_message sent ≡ Some before → before ++ spelling.end_part ≡ spelling.parts_of sent
ended (model.Commit c) before e =
    ap (λ x. x ++ spelling.end_part) (sym (same_Some (to_committer c ++ spelling.message_parts c.message) before e))
    ∙ whole (spelling.Line (codes "commit" ∷ c.name ∷ spelling.expect_words c.expect)) (map spelling.parent_part c.parents) (flat_map spelling.edit_parts c.edits) (spelling.actor_parts (codes "author") c.author)
    (spelling.actor_parts (codes "committer") c.committer) (spelling.message_parts c.message) spelling.end_part
ended (model.Tag c) before e =
    ap (λ x. x ++ spelling.end_part) (sym (same_Some (to_tagger c ++ spelling.message_parts c.message) before e))
    ∙ whole_move (spelling.Line (codes "tag" ∷ c.name ∷ (spelling.expect_words c.expect ++ c.word ∷ []))) [] (spelling.actor_parts (codes "tagger") c.tagger) (spelling.message_parts c.message) spelling.end_part
ended (model.Move c) before e =
    ap (λ x. x ++ spelling.end_part) (sym (same_Some (to_mover c ++ spelling.message_parts c.message) before e))
    ∙ whole_move (spelling.Line (codes "move" ∷ [])) (map spelling.to_part c.to) (spelling.actor_parts (codes "actor") c.actor) (spelling.message_parts c.message) spelling.end_part
ended sent before e = cc

end_goes : (d : Draft) (h : lines.Heading) → IsHeading heading.End h → (p q : Place) → next_offered (place_of p) h ≡ Some (place_of q) → (before : List spelling.Part) → HasCome p d before → HasCome q d (before ++ parts_with h [])
end_goes d lines.EndHeading i place.End place.Done e before come = (come.0, ended come.0 before come.1, come.2)
end_goes d lines.EndHeading i p q e before come = cc
end_goes d h i p q e before come = absurd i

pub end_fields : (d : Draft) → TakesFields heading.End d d []
end_fields d = record { fields = []; heads = refl; spelled = refl; come = end_goes d }
