-- The tree that the first line of a commit's content names.
use Rattle.std.proofs.Common.{◌≡◌, ◌∙◌, ap, refl, sym, subst, [], Option, None, Some, Result, Ok, Err, inl, inr}
use Rattle.std.specs.Prelude.{IsTrue, MatchOption, codes}
use Rattle.std.specs.Result.{result_ok}
use Rattle.gix_hash.specs.Id.{Id, id_of}
use Rattle.gix_hash.specs.Kind.{hex_len}
use Rattle.gix_hash.specs.declared.kind.Kind.{Kind}
use Rattle.gix_hash.specs.declared.object_id.ObjectId.{ObjectId}
use Rattle.gix_hash.proofs.LawLemmas.{hex_text-IsHexOf}
use Rattle.gix_object_lines.specs.declared.decode.Error.{Error}
use Rattle.gix_object_commit.specs.ReadingOn.{TakesTree, tree_given}
use Rattle.gix_object_commit.specs.Tokens.{GivesToken, IsIdLine, Place, Tree, id_told, start}
use Rattle.gix_object_commit.specs.declared.ref_iter.Stage.TheVariants as at
use Rattle.gix_object_commit.specs.declared.ref_iter.Token.{Token}
use Rattle.gix_object_commit.specs.declared.ref_iter.Token.TheVariants as token
use Rattle.gix_object_commit.proofs.OnePart.{one_part}
use Rattle.history_model.specs.Bytes.{Bytes}
use Rattle.history_model.specs.Forms.{is_commit_form}
use Rattle.history_model.specs.Objects.{CommitValue, hex, commit_content, folder_id}
use Rattle.history_model.proofs.IdLemmas.{has_kind, length-hex}
use Rattle.history_texts.proofs.CommitTexts.{id_formed, value_forms, content_of_parts}

abbrev pub Tells : Kind → Bytes → Option ObjectId → Type 0
Tells kind content found =
    MatchOption found ((id : Id) (rest : Bytes) → ¬ IsIdLine kind (codes "tree") content id rest)
    (λ tree. (rest : Bytes) × IsIdLine kind (codes "tree") content (id_of tree) rest)

-- a line isn't nothing
some_line : (kind : Kind) (content : Bytes) → content ≡ [] → (id : Id) (rest : Bytes) → ¬ IsIdLine kind (codes "tree") content id rest
some_line kind content none id rest is = cc (none, is.spelled)

only_trees : (kind : Kind) (content : Bytes) (token : Token) (after : Place) → GivesToken (start kind content) (Some (Ok token)) after → Tells kind content (result_ok (tree_given (Some (Ok token))))
only_trees kind content (token.Tree id) after gives = (after.input, gives.0.1)
only_trees kind content (token.Parent id) after gives = absurd (let e : at.Tree ≡ at.Parents = gives.0.0 in cc)
only_trees kind content (token.Author person) after gives = absurd (let e : at.Tree ≡ at.Parents = gives.0.0 in cc)
only_trees kind content (token.Committer person) after gives = absurd (let e : at.Tree ≡ at.Committer = gives.0.0 in cc)
only_trees kind content (token.Encoding name) after gives = absurd (let e : at.Tree ≡ at.Encoding = gives.0.0 in cc)
only_trees kind content (token.ExtraHeader header) after gives =
    absurd (elim gives.0.0 [ inl e ↦ (let f : at.Tree ≡ at.Headers = e in cc) | inr e ↦ (let f : at.Tree ≡ at.Encoding = e.0 in cc) ])
only_trees kind content (token.Message message) after gives =
    absurd (elim gives.0.0 [ inl e ↦ (let f : at.Tree ≡ at.Encoding = e in cc) | inr e ↦ (let f : at.Tree ≡ at.Headers = e in cc) ])

told_by : (kind : Kind) (content : Bytes) (given : Option (Result Token Error)) (after : Place) → GivesToken (start kind content) given after → Tells kind content (result_ok (tree_given given))
told_by kind content None after gives = some_line kind content gives.0
told_by kind content (Some (Ok token)) after gives = only_trees kind content token after gives
told_by kind content (Some (Err error)) after gives = λ id rest is. gives.0.1 (Tree id) rest (refl, is)

pub tells : (kind : Kind) (content : Bytes) (before after : Place) (result : Result ObjectId Error) (found : Option ObjectId) → before ≡ start kind content → TakesTree before result after → found ≡ result_ok result → Tells kind content found
tells kind content before after result found begins (given, gives, is) found_is =
    subst (Tells kind content) (sym (found_is ∙ ap result_ok is))
    (told_by kind content given after (subst (λ place. GivesToken place given after) begins gives))

-- one line names one tree
one_tree : (kind : Kind) (content : Bytes) (a b : Id) (rest other : Bytes) → IsIdLine kind (codes "tree") content a rest → IsIdLine kind (codes "tree") content b other → a ≡ b
one_tree kind content a b rest other x y =
    let same = one_part kind content at.Tree (Tree a) (Tree b) rest other (refl, x) (refl, y) in
    let told : Some a ≡ Some b = ap id_told same.0 in
    cc

-- the first line of a value's content names its tree
value_names : (kind : Kind) (value : CommitValue) → IsTrue (is_commit_form kind value) → (rest : Bytes) × IsIdLine kind (codes "tree") (commit_content kind value) (folder_id kind value.files) rest
value_names kind value formed =
    let forms = value_forms kind value formed in
    let id = folder_id kind value.files in
    let has = has_kind kind id forms.tree in (
      _,
      record {
        digits = hex id;
        hex = id_formed kind id forms.tree;
        id_spelled = record { whole = length-hex id ∙ has.whole ∙ ap hex_len (sym has.of_kind); spelled = hex_text-IsHexOf id.digits has.digits };
        spelled = content_of_parts kind value;
      },
    )

pub reads : (kind : Kind) (content : Bytes) (found : Option ObjectId) → Tells kind content found → (value : CommitValue) → IsTrue (is_commit_form kind value) → content ≡ commit_content kind value
    → MatchOption found ⊥ (λ tree. id_of tree ≡ folder_id kind value.files)
reads kind content None tells value formed is =
    let named = value_names kind value formed in
    tells (folder_id kind value.files) named.0 (subst (λ text. IsIdLine kind (codes "tree") text (folder_id kind value.files) named.0) (sym is) named.1)
reads kind content (Some tree) tells value formed is =
    let named = value_names kind value formed in
    one_tree kind content (id_of tree) (folder_id kind value.files) tells.0 named.0 tells.1
    (subst (λ text. IsIdLine kind (codes "tree") text (folder_id kind value.files) named.0) (sym is) named.1)
