use Rattle.std.proofs.Common.{◌≡◌, ℕ, ◌++◌, [], ◌∷◌, Option, Some, None, sym, subst, Vec, Global}
use Rattle.std.specs.Prelude.{IfSome, MatchOption, IsSomeAnd}
use Rattle.std.proofs.lemmas.Result.{err_from_is_err_and}
use Rattle.history_model.specs.Commands as model
use Rattle.history_word.specs.LineTable as table
use Rattle.history_model.specs.Bytes.{Bytes}
use Rattle.history_word.specs.Fields.{Keeps}
use Rattle.history_word.specs.Commands.{IsEdit}
use Rattle.history_model.specs.Forms.{max_path}
use Rattle.history_word.specs.declared.command.Field.{Field}
use Rattle.history_word.specs.declared.command.Edit.{Edit}
use Rattle.history_word.specs.declared.command.Edit.TheVariants.{Remove, RemoveFile}
use Rattle.history_word.specs.Drafts.{IsEditHeading}
use Rattle.history_word.specs.Come.{edit_heading, edit_fields}
use Rattle.history_word.specs.declared.heading.EditHeading.TheVariants as said
use Rattle.history_model.specs.declared.FileKind.{FileKind}
use Rattle.history_word.specs.Progress.{IsNoField, StopsFrom}
use Rattle.history_word.proofs.TakingLemmas.{asks_then, took_then, took_none}
use Rattle.history_word.proofs.StopLemmas.{stops_then}
use Rattle.history_word.proofs.LineEndLemmas.{field_first_stops, field_second_stops, first_text, second_text, one_text, two_texts}
use Rattle.history_word.proofs.reader.read_edit.Goals as goal

-- a path that found memory is made an edit
edit_of : (make : Field → Edit) (path : Option Field) (result : Option Edit) (bytes : Bytes) (line : model.EditLine) → MatchOption path (result ≡ None) (λ x. IsSomeAnd result (λ e. e ≡ make x))
    → IfSome path (λ x. Keeps max_path x bytes) → ((x : Field) → Keeps max_path x bytes → IsEdit (make x) line) → IfSome result (λ x. IsEdit x line)
edit_of make path None bytes line made keeps f = tt
edit_of make None (Some e) bytes line made keeps f = cc
edit_of make (Some x) (Some e) bytes line made keeps f = subst (λ e. IsEdit e line) (sym made) (f x keeps)

-- each line of that heading with these fields is the one that was sent
put_is : (kind : FileKind) (m n : ℕ) (edit : Option Edit) (a b : Bytes) → IfSome edit (λ x. IsEdit x (model.PutLine kind a b)) → (l : model.EditLine) → IsEditHeading (said.Put kind m n) (edit_heading l) → edit_fields l ≡ a ∷ b ∷ []
    → IfSome edit (λ x. IsEdit x l)
put_is kind m n edit a b is (model.PutLine k p c) h f = subst (λ l. IfSome edit (λ x. IsEdit x l)) (λ i. model.PutLine (h.0 i) (sym (first_text f) i) (sym (second_text f) i)) is
put_is kind m n edit a b is l h f = absurd h

remove_is : (n : ℕ) (edit : Option Edit) (a : Bytes) → IfSome edit (λ x. IsEdit x (model.RemoveLine a)) → (l : model.EditLine) → IsEditHeading (said.Remove n) (edit_heading l) → edit_fields l ≡ a ∷ [] → IfSome edit (λ x. IsEdit x l)
remove_is n edit a is (model.RemoveLine p) h f = subst (λ l. IfSome edit (λ x. IsEdit x l)) (λ i. model.RemoveLine (sym (first_text f) i)) is
remove_is n edit a is l h f = absurd h

remove_file_is : (n : ℕ) (edit : Option Edit) (a : Bytes) → IfSome edit (λ x. IsEdit x (model.RemoveFileLine a)) → (l : model.EditLine) → IsEditHeading (said.RemoveFile n) (edit_heading l) → edit_fields l ≡ a ∷ [] → IfSome edit (λ x. IsEdit x l)
remove_file_is n edit a is (model.RemoveFileLine p) h f = subst (λ l. IfSome edit (λ x. IsEdit x l)) (λ i. model.RemoveFileLine (sym (first_text f) i)) is
remove_file_is n edit a is l h f = absurd h

graft_is : (m n : ℕ) (word : Option (Vec ℕ Global)) (edit : Option Edit) (a b : Bytes) → ((w : Bytes) → IfSome word (λ x. x.items ≡ w) → IfSome edit (λ x. IsEdit x (model.GraftLine a w b)))
    → (l : model.EditLine) → IsEditHeading (said.Graft m word n) (edit_heading l) → edit_fields l ≡ a ∷ b ∷ [] → IfSome edit (λ x. IsEdit x l)
graft_is m n word edit a b is (model.GraftLine p w s) h f = subst (λ l. IfSome edit (λ x. IsEdit x l)) (λ i. model.GraftLine (sym (first_text f) i) w (sym (second_text f) i)) (is w h.1)
graft_is m n word edit a b is l h f = absurd h

pub returns-in_err-path-in-Put : goal.returns-in_err-path-in-Put
returns-in_err-path-in-Put g c =
    let p = err_from_is_err_and c.from_residual.result c.from_residual.ensures.1 in
    rw (p.1, p.2, c.in-Put.is) (stops_then g.R.Source.left g.R.Source.has_failed g.R.Source.readings _ _ _ _ _ _ [] (IsNoField c.in-Put.path)
    (λ bytes cause. (place : table.Place) → StopsFrom (c.in-Put.path ∷ c.in-Put.content ∷ []) place bytes cause)
    (λ ys m bad place. field_first_stops c.in-Put.path (c.in-Put.content ∷ []) place ys m bad)
    c.in_err-path-in-Put.field-0.0 (took_none g.R.Source.left g.R.Source.readings c.args.source.now c.args.buffer.now) c.in_err-path-in-Put.ensures)

pub returns-in_err-content-in-Put : goal.returns-in_err-content-in-Put
returns-in_err-content-in-Put g c =
    let p = err_from_is_err_and c.from_residual-in_err-content-in-Put.result c.from_residual-in_err-content-in-Put.ensures.1 in
    let a = c.in_ok-path-in-Put.ensures in
    rw (p.1, p.2, c.in-Put.is) (stops_then g.R.Source.left g.R.Source.has_failed g.R.Source.readings _ _ _ _ _ _ a.0 (IsNoField c.in-Put.content)
    (λ bytes cause. (place : table.Place) → StopsFrom (c.in-Put.path ∷ c.in-Put.content ∷ []) place bytes cause)
    (λ ys m bad place. field_second_stops a.2.0 a.0 c.in-Put.path c.in-Put.content [] place a.2.1 a.2.2 ys m bad)
    c.in_err-content-in-Put.field-0.0 a.1 c.in_err-content-in-Put.ensures)

pub returns-in_err-path-in-Remove : goal.returns-in_err-path-in-Remove
returns-in_err-path-in-Remove g c =
    let p = err_from_is_err_and c.from_residual-in_err-path-in-Remove.result c.from_residual-in_err-path-in-Remove.ensures.1 in
    rw (p.1, p.2, c.in-Remove.is) (stops_then g.R.Source.left g.R.Source.has_failed g.R.Source.readings _ _ _ _ _ _ [] (IsNoField c.in-Remove.path)
    (λ bytes cause. (place : table.Place) → StopsFrom (c.in-Remove.path ∷ []) place bytes cause)
    (λ ys m bad place. field_first_stops c.in-Remove.path [] place ys m bad)
    c.in_err-path-in-Remove.field-0.0 (took_none g.R.Source.left g.R.Source.readings c.args.source.now c.args.buffer.now) c.in_err-path-in-Remove.ensures)

pub returns-in_err-path-in-RemoveFile : goal.returns-in_err-path-in-RemoveFile
returns-in_err-path-in-RemoveFile g c =
    let p = err_from_is_err_and c.from_residual-in_err-path-in-RemoveFile.result c.from_residual-in_err-path-in-RemoveFile.ensures.1 in
    rw (p.1, p.2, c.in-RemoveFile.is) (stops_then g.R.Source.left g.R.Source.has_failed g.R.Source.readings _ _ _ _ _ _ [] (IsNoField c.in-RemoveFile.path)
    (λ bytes cause. (place : table.Place) → StopsFrom (c.in-RemoveFile.path ∷ []) place bytes cause)
    (λ ys m bad place. field_first_stops c.in-RemoveFile.path [] place ys m bad)
    c.in_err-path-in-RemoveFile.field-0.0 (took_none g.R.Source.left g.R.Source.readings c.args.source.now c.args.buffer.now) c.in_err-path-in-RemoveFile.ensures)

pub returns-in_err-path-in-Graft : goal.returns-in_err-path-in-Graft
returns-in_err-path-in-Graft g c =
    let p = err_from_is_err_and c.from_residual-in_err-path-in-Graft.result c.from_residual-in_err-path-in-Graft.ensures.1 in
    rw (p.1, p.2, c.in-Graft.is) (stops_then g.R.Source.left g.R.Source.has_failed g.R.Source.readings _ _ _ _ _ _ [] (IsNoField c.in-Graft.path)
    (λ bytes cause. (place : table.Place) → StopsFrom (c.in-Graft.path ∷ c.in-Graft.from ∷ []) place bytes cause)
    (λ ys m bad place. field_first_stops c.in-Graft.path (c.in-Graft.from ∷ []) place ys m bad)
    c.in_err-path-in-Graft.field-0.0 (took_none g.R.Source.left g.R.Source.readings c.args.source.now c.args.buffer.now) c.in_err-path-in-Graft.ensures)

pub returns-in_err-from-in-Graft : goal.returns-in_err-from-in-Graft
returns-in_err-from-in-Graft g c =
    let p = err_from_is_err_and c.from_residual-in_err-from-in-Graft.result c.from_residual-in_err-from-in-Graft.ensures.1 in
    let a = c.in_ok-path-in-Graft.ensures in
    rw (p.1, p.2, c.in-Graft.is) (stops_then g.R.Source.left g.R.Source.has_failed g.R.Source.readings _ _ _ _ _ _ a.0 (IsNoField c.in-Graft.from)
    (λ bytes cause. (place : table.Place) → StopsFrom (c.in-Graft.path ∷ c.in-Graft.from ∷ []) place bytes cause)
    (λ ys m bad place. field_second_stops a.2.0 a.0 c.in-Graft.path c.in-Graft.from [] place a.2.1 a.2.2 ys m bad)
    c.in_err-from-in-Graft.field-0.0 a.1 c.in_err-from-in-Graft.ensures)

pub returns-in_ok-content-in-Put : goal.returns-in_ok-content-in-Put
returns-in_ok-content-in-Put g c =
    let a = c.in_ok-path-in-Put.ensures in
    let b = c.in_ok-content-in-Put.ensures in
    rw (c.in-Put.is) (
      a.0 ++ b.0,
      took_then g.R.Source.left g.R.Source.readings _ _ _ _ _ _ a.0 b.0 a.1 b.1,
      (
        record {
          fields = a.2.0 ∷ b.2.0 ∷ [];
          heads = λ i. sym a.2.1 i ∷ sym b.2.1 i ∷ [];
          spelled = two_texts a.0 b.0 a.2.0 b.2.0 a.2.2 b.2.2;
          is = put_is c.in-Put.kind c.in-Put.path c.in-Put.content c.put.result a.2.0 b.2.0 (c.put.ensures a.2.0 b.2.0 a.2.3 b.2.3);
        },
        asks_then g.R.Source.left g.R.Source.readings _ _ _ _ _ a.0 b.0 a.1 a.2.4 b.2.4,
      ),
    )

pub returns-in_ok-path-in-Remove : goal.returns-in_ok-path-in-Remove
returns-in_ok-path-in-Remove g c =
    let a = c.in_ok-path-in-Remove.ensures in
    rw (c.in-Remove.is) (
      a.0,
      a.1,
      (
        record {
          fields = a.2.0 ∷ [];
          heads = λ i. sym a.2.1 i ∷ [];
          spelled = one_text a.0 a.2.0 a.2.2;
          is = remove_is c.in-Remove.path c.map.result a.2.0 (edit_of Remove c.in_ok-path-in-Remove.path c.map.result a.2.0 (model.RemoveLine a.2.0) c.map.ensures.cases a.2.3 (λ x k. k));
        },
        a.2.4,
      ),
    )

pub returns-in_ok-path-in-RemoveFile : goal.returns-in_ok-path-in-RemoveFile
returns-in_ok-path-in-RemoveFile g c =
    let a = c.in_ok-path-in-RemoveFile.ensures in
    rw (c.in-RemoveFile.is) (
      a.0,
      a.1,
      (
        record {
          fields = a.2.0 ∷ [];
          heads = λ i. sym a.2.1 i ∷ [];
          spelled = one_text a.0 a.2.0 a.2.2;
          is = remove_file_is c.in-RemoveFile.path c.map-in-RemoveFile.result a.2.0 (edit_of RemoveFile c.in_ok-path-in-RemoveFile.path c.map-in-RemoveFile.result a.2.0 (model.RemoveFileLine a.2.0) c.map-in-RemoveFile.ensures.cases a.2.3 (λ x k. k));
        },
        a.2.4,
      ),
    )

pub returns-in_ok-from-in-Graft : goal.returns-in_ok-from-in-Graft
returns-in_ok-from-in-Graft g c =
    let a = c.in_ok-path-in-Graft.ensures in
    let b = c.in_ok-from-in-Graft.ensures in
    rw (c.in-Graft.is) (
      a.0 ++ b.0,
      took_then g.R.Source.left g.R.Source.readings _ _ _ _ _ _ a.0 b.0 a.1 b.1,
      (
        record {
          fields = a.2.0 ∷ b.2.0 ∷ [];
          heads = λ i. sym a.2.1 i ∷ sym b.2.1 i ∷ [];
          spelled = two_texts a.0 b.0 a.2.0 b.2.0 a.2.2 b.2.2;
          is = graft_is c.in-Graft.path c.in-Graft.from c.in-Graft.word c.graft.result a.2.0 b.2.0 (λ w k. c.graft.ensures a.2.0 w b.2.0 a.2.3 k b.2.3);
        },
        asks_then g.R.Source.left g.R.Source.readings _ _ _ _ _ a.0 b.0 a.1 a.2.4 b.2.4,
      ),
    )
