-- The object that the first line of a tag's content names.
use Rattle.std.proofs.Common.{◌≡◌, ◌∙◌, ap, refl, sym, subst, [], ◌++◌, Option, None, Some, Result, Ok, Err}
use Rattle.std.specs.Prelude.{IsTrue, MatchOption, codes}
use Rattle.std.specs.Result.{result_ok}
use Rattle.gix_hash.specs.Id.{Id, id_of}
use Rattle.gix_hash.specs.Kind.{hex_len}
use Rattle.gix_hash.specs.declared.kind.Kind.{Kind}
use Rattle.gix_hash.specs.declared.object_id.ObjectId.{ObjectId}
use Rattle.gix_hash.proofs.LawLemmas.{hex_text-IsHexOf}
use Rattle.gix_object_lines.specs.declared.decode.Error.{Error}
use Rattle.gix_object_commit.proofs.Once.{hex_once}
use Rattle.gix_object_tag.specs.ReadingOn.{TakesTarget, target_given}
use Rattle.gix_object_tag.specs.Tokens.{GivesToken, IsIdLine, Place, Target, start}
use Rattle.gix_object_tag.specs.declared.tag.ref_iter.Stage.TheVariants as at
use Rattle.gix_object_tag.specs.declared.tag.ref_iter.Token.{Token}
use Rattle.gix_object_tag.specs.declared.tag.ref_iter.Token.TheVariants as token
use Rattle.gix_object_tag.proofs.OnePart.{one_id}
use Rattle.history_model.specs.Bytes.{Bytes, line}
use Rattle.history_model.specs.Forms.{is_tag_form}
use Rattle.history_model.specs.Objects.{TagValue, hex, actor_text, tag_content}
use Rattle.history_model.proofs.IdLemmas.{has_kind, length-hex}
use Rattle.history_model.proofs.OnePairLines.{six_parts}
use Rattle.history_texts.proofs.CommitTexts.{id_formed}
use Rattle.history_texts.proofs.TagLines.{tag_form}

abbrev pub Tells : Kind → Bytes → Option ObjectId → Type 0
Tells kind content found =
    MatchOption found ((id : Id) (rest : Bytes) → ¬ IsIdLine kind content id rest)
    (λ target. (rest : Bytes) × IsIdLine kind content (id_of target) rest)

-- a line isn't nothing
some_line : (kind : Kind) (content : Bytes) → content ≡ [] → (id : Id) (rest : Bytes) → ¬ IsIdLine kind content id rest
some_line kind content none id rest is = cc (none, is.spelled.spelled)

only_targets : (kind : Kind) (content : Bytes) (token : Token) (after : Place) → GivesToken (start kind content) (Some (Ok token)) after → Tells kind content (result_ok (target_given (Some (Ok token))))
only_targets kind content (token.Target id) after gives = (after.input, gives.1.1)
only_targets kind content (token.TargetKind target) after gives = absurd (let e : at.Target ≡ at.TargetKind = gives.1.0 in cc)
only_targets kind content (token.Name name) after gives = absurd (let e : at.Target ≡ at.Name = gives.1.0 in cc)
only_targets kind content (token.Tagger tagger) after gives = absurd (let e : at.Target ≡ at.Tagger = gives.1.0 in cc)
only_targets kind content (token.Body message signature) after gives = absurd (let e : at.Target ≡ at.Body = gives.1.0 in cc)

told_by : (kind : Kind) (content : Bytes) (given : Option (Result Token Error)) (after : Place) → GivesToken (start kind content) given after → Tells kind content (result_ok (target_given given))
told_by kind content None after gives = some_line kind content gives.0
told_by kind content (Some (Ok token)) after gives = only_targets kind content token after gives
told_by kind content (Some (Err error)) after gives = λ id rest is. gives.0.1 (Target id) rest (refl, is)

pub tells : (kind : Kind) (content : Bytes) (before : Place) (result : Result ObjectId Error) (found : Option ObjectId) → before ≡ start kind content → TakesTarget before result → found ≡ result_ok result → Tells kind content found
tells kind content before result found begins (given, after, gives, is) found_is =
    subst (Tells kind content) (sym (found_is ∙ ap result_ok is))
    (told_by kind content given after (subst (λ place. GivesToken place given after) begins gives))

-- one line names one object
one_target : (kind : Kind) (content : Bytes) (a b : Id) (rest other : Bytes) → IsIdLine kind content a rest → IsIdLine kind content b other → a ≡ b
one_target kind content a b rest other x y =
    let same = hex_once (codes "object") x.digits y.digits rest other (x.spelled.hex.0 ∙ sym y.spelled.hex.0) (sym x.spelled.spelled ∙ y.spelled.spelled) in
    one_id x.digits a b x.id_spelled (subst (λ digits. Rattle.gix_hash.specs.Views.IsHexOfId digits b) (sym same.0) y.id_spelled)

-- the first line of a value's content names what the tag is of
value_names : (kind : Kind) (value : TagValue) → IsTrue (is_tag_form kind value) → (rest : Bytes) × IsIdLine kind (tag_content value) value.target rest
value_names kind value formed =
    let form = tag_form kind value formed in
    let id = value.target in
    let has = has_kind kind id form.target in (
      _,
      record {
        digits = hex id;
        spelled = record {
          spelled = six_parts (line (codes "object " ++ hex id)) (line (codes "type commit")) (line (codes "tag " ++ value.name)) (line (codes "tagger " ++ actor_text value.tagger)) (line []) value.message;
          hex = id_formed kind id form.target;
        };
        id_spelled = record { whole = length-hex id ∙ has.whole ∙ ap hex_len (sym has.of_kind); spelled = hex_text-IsHexOf id.digits has.digits };
      },
    )

pub reads : (kind : Kind) (content : Bytes) (found : Option ObjectId) → Tells kind content found → (value : TagValue) → IsTrue (is_tag_form kind value) → content ≡ tag_content value
    → MatchOption found ⊥ (λ target. id_of target ≡ value.target)
reads kind content None tells value formed is =
    let named = value_names kind value formed in
    tells value.target named.0 (subst (λ text. IsIdLine kind text value.target named.0) (sym is) named.1)
reads kind content (Some target) tells value formed is =
    let named = value_names kind value formed in
    one_target kind content (id_of target) value.target tells.0 named.0 tells.1
    (subst (λ text. IsIdLine kind text value.target named.0) (sym is) named.1)
