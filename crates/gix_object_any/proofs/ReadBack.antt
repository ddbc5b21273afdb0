-- What is written of an object, after its header, is a loose object with its value; and what is
-- read is written to the same bytes.
use Rattle.std.proofs.Common.{◌≡◌, ◌∙◌, ap, refl, sym, subst, Bool, false, List, ◌∷◌, ℕ, length, map, None}
use Rattle.std.specs.Prelude.{◌≢◌, []}
use Rattle.gix_hash.specs.Id.{id_of}
use Rattle.gix_hash.specs.Kind.{hex_len}
use Rattle.gix_hash.specs.declared.kind.Kind as hash
use Rattle.gix_object_lines.specs.Writes.{cause_of}
use Rattle.gix_object_commit.specs.Commit as commit
use Rattle.gix_object_commit.specs.Commit.{SpellsCommit, commit_text}
use Rattle.gix_object_commit.specs.OwnedText.{own_parts, own_refusal}
use Rattle.gix_object_commit.specs.Writable as writable
use Rattle.gix_object_commit.specs.Writing.{commit_refusal}
use Rattle.gix_object_commit.specs.declared.commit.owned.Commit as owned_commit
use Rattle.gix_object_tag.specs.NameTest.{name_fault}
use Rattle.gix_object_tag.specs.OwnedText.{own_parts as own_tag_parts, is_bad_actor}
use Rattle.gix_object_tag.specs.Tag as tag
use Rattle.gix_object_tag.specs.Tag.{SpellsTag}
use Rattle.gix_object_tag.specs.TagText.{tag_text, tag_refusal, is_bad_tagger, is_marked_tagger}
use Rattle.gix_object_tag.specs.declared.tag.owned.Tag as owned_tag
use Rattle.gix_object_any.specs.Format.{HasIds, HasOwnIds, IsWritable, IsSpelledAsWritten}
use Rattle.gix_object_any.specs.Loose.{IsLoose, loose_text}
use Rattle.gix_object_tree.specs.Entry.{Item, own_item, SpellsTree}
use Rattle.gix_object_tree.specs.Writing as tree
use Rattle.gix_object_tree.specs.Writing.{tree_text, tree_refusal}
use Rattle.gix_object_tree.specs.declared.tree.owned.Tree as owned_tree
use Rattle.gix_object_any.specs.Object.{Value, Blob, Tree, Commit, Tag, SpellsValue, kind_of, value_text, value_refusal}
use Rattle.gix_object_any.specs.Owned.{own_value, own_value_refusal}
use Rattle.gix_object_any.specs.declared.owned.Object.{Object}
use Rattle.gix_object_any.specs.declared.owned.Object.TheVariants as object

loose : (ids : hash.Kind) (value : Value) → SpellsValue ids (value_text value) value → IsLoose ids (loose_text (kind_of value) (value_text value)) value
loose ids value is = record { kind = kind_of value; content = value_text value; spelled = refl; told = record { of_kind = refl; spelled = is } }

-- ---- borrowed

abbrev pub IsReadBack : hash.Kind → Value → Type 0
IsReadBack ids value = value_refusal value ≡ None → HasIds ids value → IsLoose ids (loose_text (kind_of value) (value_text value)) value

pub blob_back : (ids : hash.Kind) (bytes : List ℕ) → IsReadBack ids (Blob bytes)
blob_back ids bytes none format = loose ids (Blob bytes) refl

pub tree_back : (ids : hash.Kind) (items : List Item) → (tree_refusal items ≡ None → tree.HasIds ids items → SpellsTree ids (tree_text items) items) → IsReadBack ids (Tree items)
tree_back ids items law none ids_are = loose ids (Tree items) (law none ids_are)

pub commit_back : (ids : hash.Kind) (parts : commit.Parts) → (commit_refusal parts ≡ None → SpellsCommit (length parts.tree) (commit_text parts) parts) → IsReadBack ids (Commit parts)
commit_back ids parts law none ids_are = loose ids (Commit parts) (subst (λ n. SpellsCommit n (commit_text parts) parts) ids_are (law none))

pub tag_back : (ids : hash.Kind) (parts : tag.Parts) → (cause_of (tag_refusal parts (is_bad_tagger parts.tagger)) ≡ None → length parts.target ≡ hex_len ids → SpellsTag ids (tag_text parts) parts) → IsReadBack ids (Tag parts)
tag_back ids parts law none ids_are = loose ids (Tag parts) (law (ap cause_of none) ids_are)

-- ---- owned

abbrev pub IsOwnReadBack : hash.Kind → Object → Type 0
IsOwnReadBack ids own = own_value_refusal own ≡ None → HasOwnIds ids own → IsLoose ids (loose_text (kind_of (own_value own)) (value_text (own_value own))) (own_value own)

pub own_tree_back : (ids : hash.Kind) (own : owned_tree.Tree)
    → (tree_refusal (map own_item own.entries.items) ≡ None → tree.HasIds ids (map own_item own.entries.items) → SpellsTree ids (tree_text (map own_item own.entries.items)) (map own_item own.entries.items))
    → IsOwnReadBack ids (object.Tree own)
own_tree_back ids own law none ids_are = loose ids (Tree (map own_item own.entries.items)) (law none ids_are)

pub own_commit_back : (ids : hash.Kind) (commit : owned_commit.Commit) → (own_refusal commit ≡ None → SpellsCommit (hex_len (id_of commit.tree).kind) (commit_text (own_parts commit)) (own_parts commit)) → IsOwnReadBack ids (object.Commit commit)
own_commit_back ids commit law none ids_are =
    loose ids (Commit (own_parts commit)) (subst (λ k. SpellsCommit (hex_len k) (commit_text (own_parts commit)) (own_parts commit)) ids_are (law none))

pub own_tag_back : (ids : hash.Kind) (tag : owned_tag.Tag)
    → (cause_of (tag_refusal (own_tag_parts tag) (is_bad_actor tag.tagger)) ≡ None → SpellsTag (id_of tag.target).kind (tag_text (own_tag_parts tag)) (own_tag_parts tag))
    → IsOwnReadBack ids (object.Tag tag)
own_tag_back ids tag law none ids_are =
    loose ids (Tag (own_tag_parts tag)) (subst (λ k. SpellsTag k (tag_text (own_tag_parts tag)) (own_tag_parts tag)) ids_are (law (ap cause_of none)))

-- ---- the other way round

module _ (ids : hash.Kind) (content : List ℕ) where
  text_again : ((items : List Item) → tree.SpellsAsWritten ids content items → tree_text items ≡ content) → ((parts : tag.Parts) → SpellsTag ids content parts → parts.message ≢ [] → tag_text parts ≡ content)
      → (value : Value) → SpellsValue ids content value → IsSpelledAsWritten ids content value → value_text value ≡ content
  text_again tree_law law (Blob bytes) is one = sym is
  text_again tree_law law (Tree items) is one = tree_law items one
  text_again tree_law law (Commit parts) is one = sym is.spelled
  text_again tree_law law (Tag parts) is one = law parts is one

  pub bytes_again : (bytes : List ℕ) → ((items : List Item) → tree.SpellsAsWritten ids content items → tree_text items ≡ content) → ((parts : tag.Parts) → SpellsTag ids content parts → parts.message ≢ [] → tag_text parts ≡ content)
      → (value : Value) (is : IsLoose ids bytes value) → content ≡ is.content → IsSpelledAsWritten ids is.content value → loose_text (kind_of value) (value_text value) ≡ bytes
  bytes_again bytes tree_law law value is there one =
      let text = text_again tree_law law value (subst (λ c. SpellsValue ids c value) (sym there) is.told.spelled) (subst (λ c. IsSpelledAsWritten ids c value) (sym there) one) ∙ there in
      ap (loose_text (kind_of value)) text ∙ ap (λ k. loose_text k is.content) (sym is.told.of_kind) ∙ sym is.spelled

  pub accepted : ((items : List Item) → SpellsTree ids content items → tree_refusal items ≡ None)
      → ((parts : commit.Parts) → SpellsCommit (hex_len ids) content parts → writable.IsWritable parts → commit_refusal parts ≡ None)
      → ((parts : tag.Parts) → SpellsTag ids content parts → name_fault parts.name ≡ None → is_marked_tagger parts.tagger ≡ false → tag_refusal parts (is_bad_tagger parts.tagger) ≡ None)
      → (value : Value) → SpellsValue ids content value → IsWritable value → value_refusal value ≡ None
  accepted tree_law law tag_law (Blob bytes) is fits = refl
  accepted tree_law law tag_law (Tree items) is fits = tree_law items is
  accepted tree_law law tag_law (Commit parts) is fits = law parts is fits
  accepted tree_law law tag_law (Tag parts) is fits = tag_law parts is fits.0 fits.1

  pub ids_of : ((items : List Item) → SpellsTree ids content items → tree.HasIds ids items) → (value : Value) → SpellsValue ids content value → HasIds ids value
  ids_of law (Blob bytes) is = tt
  ids_of law (Tree items) is = law items is
  ids_of law (Commit parts) is = is.tree.0
  ids_of law (Tag parts) is = is.target.hex.0
