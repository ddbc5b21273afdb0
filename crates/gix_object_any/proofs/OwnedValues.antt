-- An object that owns the parts of a value has that value, where its texts are those that are
-- written.
use Rattle.std.proofs.Common.{◌≡◌, ◌∙◌, ap, refl, sym, ℕ, List, [], ◌∷◌, map, Option, Some, None}
use Rattle.std.specs.Prelude.{All, IfSome}
use Rattle.std.specs.List.{AllZip}
use Rattle.std.proofs.lemmas.List.Elements.{All-head, All-tail}
use Rattle.gix_hash.specs.Id.{id_of}
use Rattle.gix_hash.specs.Kind.{hex_len}
use Rattle.gix_hash.specs.LetterCase.{IsLowerCase}
use Rattle.gix_hash.specs.Spelling.{hex_text, IsHexOf}
use Rattle.gix_hash.specs.declared.kind.Kind as hash
use Rattle.gix_hash.specs.declared.object_id.ObjectId.{ObjectId}
use Rattle.gix_object_lines.specs.Time.{SpellsTime, time_text}
use Rattle.gix_object_lines.specs.declared.lines.actor.Actor.{Actor}
use Rattle.gix_object_lines.specs.declared.lines.time.Time.{Time}
use Rattle.gix_object_lines.proofs.TimeLemmas.{time_once}
use Rattle.gix_object_lines.specs.Person.{Person, IsActorOf, own_person}
use Rattle.gix_object_commit.specs.Commit as commit
use Rattle.gix_object_commit.specs.Commit.{Field, IsField, SpellsCommit, folded}
use Rattle.gix_object_commit.specs.Owned.{IsOwnId, IsHeaderOf, IsCommitOf}
use Rattle.gix_object_commit.specs.OwnedText.{own_digits, own_field, own_parts}
use Rattle.gix_object_commit.specs.declared.commit.owned.Commit as owned_commit
use Rattle.gix_object_commit.specs.declared.header.ExtraHeader.{ExtraHeader}
use Rattle.gix_object_tag.specs.Owned.{IsOwnTagger, IsTagOf}
use Rattle.gix_object_tag.specs.OwnedText.{own_tagger, own_parts as own_tag_parts}
use Rattle.gix_object_tag.specs.Tag as tag
use Rattle.gix_object_tag.specs.declared.tag.owned.Tag as owned_tag
use Rattle.gix_object_any.specs.Format.{IsTimeText, HasOwnTexts, HasOwnTagTexts, IsKeptWhole}
use Rattle.gix_object_any.specs.Object.{Value, Blob, Tree, Commit, Tag, SpellsValue}
use Rattle.gix_object_any.specs.Owned.{own_value, IsOwned}
use Rattle.gix_object_any.specs.declared.owned.Object.{Object}
use Rattle.gix_object_any.specs.declared.owned.Object.TheVariants as object

-- a text without a capital letter is the text of the digits that it spells
abbrev IsWrittenSo : Type 0
IsWrittenSo = (text digits : List ℕ) → IsHexOf text digits → IsLowerCase text → hex_text digits ≡ text

-- ---- ids

same_ids : IsWrittenSo → (texts : List (List ℕ)) (ids : List ObjectId) → AllZip IsOwnId texts ids → All IsLowerCase texts → map own_digits ids ≡ texts
same_ids same_digits [] [] are low = refl
same_ids same_digits [] (id ∷ ids) are low = absurd are
same_ids same_digits (text ∷ texts) [] are low = absurd are
same_ids same_digits (text ∷ texts) (id ∷ ids) are low =
    let first = same_digits text (id_of id).digits are.0.spelled (All-head IsLowerCase text texts low) in
    let rest = same_ids same_digits texts ids are.1 (All-tail IsLowerCase text texts low) in
    λ i. first i ∷ rest i

-- ---- actors

same_time : (text : List ℕ) (time : Time) → SpellsTime text time → IsTimeText text → time_text time ≡ text
same_time text time is (other, spells, same) = ap time_text (time_once text time other is spells) ∙ sym same

same_person : (person : Person) (actor : Actor) → IsActorOf person actor → IsTimeText person.time → own_person actor ≡ person
same_person person actor is kept =
    let time = same_time person.time actor.time is.time kept in
    λ i. record { name = is.name i; email = is.email i; time = time i }

same_tagger : (tagger : Option Person) (actor : Option Actor) → IsOwnTagger tagger actor → IfSome tagger (λ tagger. IsTimeText tagger.time) → own_tagger actor ≡ tagger
same_tagger None None is kept = refl
same_tagger None (Some actor) is kept = absurd is
same_tagger (Some tagger) None is kept = absurd is
same_tagger (Some tagger) (Some actor) is kept =
    let time = same_time tagger.time actor.time is.time kept in
    λ i. Some (record { name = is.name i; email = is.email i; time = time i })

-- ---- headers

same_field : (field : Field) (header : ExtraHeader) → IsHeaderOf field header → IsField field → own_field header ≡ field
same_field field header is fits =
    let value = ap folded (is.value fits.value_folded.0 fits.value_folded.1) ∙ sym fits.value_folded.1 in
    λ i. record { name = is.name i; value = value i }

same_fields : (fields : List Field) (headers : List ExtraHeader) → AllZip IsHeaderOf fields headers → All IsField fields → map own_field headers ≡ fields
same_fields [] [] are fit = refl
same_fields [] (header ∷ headers) are fit = absurd are
same_fields (field ∷ fields) [] are fit = absurd are
same_fields (field ∷ fields) (header ∷ headers) are fit =
    let first = same_field field header are.0 (All-head IsField field fields fit) in
    let rest = same_fields fields headers are.1 (All-tail IsField field fields fit) in
    λ i. first i ∷ rest i

-- ---- the whole

same_commit : IsWrittenSo → (hex_len : ℕ) (content : List ℕ) (parts : commit.Parts) (own : owned_commit.Commit) → SpellsCommit hex_len content parts → IsCommitOf parts own → HasOwnTexts parts → own_parts own ≡ parts
same_commit same_digits hex_len content parts own spells is kept =
    let tree = same_digits parts.tree (id_of own.tree).digits is.tree.spelled kept.tree in
    let parents = same_ids same_digits parts.parents own.parents.items is.parents kept.parents in
    let author = same_person parts.author own.author is.author kept.author in
    let committer = same_person parts.committer own.committer is.committer kept.committer in
    let headers = same_fields parts.headers own.extra_headers.items is.headers spells.headers in
    λ i. record { tree = tree i; parents = parents i; author = author i; committer = committer i; encoding = is.encoding i; headers = headers i; message = is.message i }

same_tag : IsWrittenSo → (parts : tag.Parts) (own : owned_tag.Tag) → IsTagOf parts own → HasOwnTagTexts parts → own_tag_parts own ≡ parts
same_tag same_digits parts own is kept =
    let target = same_digits parts.target (id_of own.target).digits is.target.spelled kept.target in
    let tagger = same_tagger parts.tagger own.tagger is.tagger kept.tagger in
    λ i. record { target = target i; target_kind = is.target_kind i; name = is.name i; tagger = tagger i; message = is.message i; signature = is.signature i }

pub same_value : IsWrittenSo → (ids : hash.Kind) (content : List ℕ) (value : Value) (own : Object) → SpellsValue ids content value → IsOwned value own → IsKeptWhole value → own_value own ≡ value
same_value same_digits ids content (Blob bytes) (object.Blob blob) spells is kept = ap Blob is
same_value same_digits ids content (Blob bytes) (object.Tree tree) spells is kept = absurd is
same_value same_digits ids content (Blob bytes) (object.Commit commit) spells is kept = absurd is
same_value same_digits ids content (Blob bytes) (object.Tag tag) spells is kept = absurd is
same_value same_digits ids content (Tree items) (object.Blob blob) spells is kept = absurd is
same_value same_digits ids content (Tree items) (object.Tree tree) spells is kept = ap Tree is
same_value same_digits ids content (Tree items) (object.Commit commit) spells is kept = absurd is
same_value same_digits ids content (Tree items) (object.Tag tag) spells is kept = absurd is
same_value same_digits ids content (Commit parts) (object.Blob blob) spells is kept = absurd is
same_value same_digits ids content (Commit parts) (object.Tree tree) spells is kept = absurd is
same_value same_digits ids content (Commit parts) (object.Commit commit) spells is kept = ap Commit (same_commit same_digits (hex_len ids) content parts commit spells is kept)
same_value same_digits ids content (Commit parts) (object.Tag tag) spells is kept = absurd is
same_value same_digits ids content (Tag parts) (object.Blob blob) spells is kept = absurd is
same_value same_digits ids content (Tag parts) (object.Tree tree) spells is kept = absurd is
same_value same_digits ids content (Tag parts) (object.Commit commit) spells is kept = absurd is
same_value same_digits ids content (Tag parts) (object.Tag tag) spells is kept = ap Tag (same_tag same_digits parts tag is kept)
