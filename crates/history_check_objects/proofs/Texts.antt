-- What the text at an id's place says: an object that is read, or a flaw.
use Rattle.std.proofs.Common.{◌≡◌, ◌≢◌, ℕ, ◌+◌, ◌<◌, ◌≤◌, false, not, ◌&&◌, ◌||◌, List, [], ◌∷◌, ◌++◌, length, refl, sym, ◌∙◌, ap, subst, arith, Option, Some, decimal, length-append}
use Rattle.std.specs.Prelude.{None}
use Rattle.std.proofs.lemmas.Fmt.{length-decimal-le}
use Rattle.gix_hash.specs.Id.{Id, null_id}
use Rattle.gix_hash.specs.Order.{id_eq}
use Rattle.gix_hash.specs.declared.kind.Kind.{Kind}
use Rattle.gix_object_lines.specs.Kind.{kind_word}
use Rattle.gix_object_lines.specs.declared.kind.Kind.{Kind as ObjectKind}
use Rattle.gix_object_lines.specs.declared.kind.Kind.TheVariants as kinds
use Rattle.gix_ref_file.specs.Tree.{Tree, Node, bytes_of, file, folder, node_at, place_of}
use Rattle.gix_ref_file.specs.declared.files.Place.TheVariants as places
use Rattle.history_model.specs.Bytes.{Bytes}
use Rattle.history_model.specs.Forms.{max_content}
use Rattle.history_model.specs.Objects.{digest, empty_tree_id, object_text}
use Rattle.history_model.specs.Places.{file_at, object_place}
use Rattle.history_model.proofs.IdLemmas.{has_kind}
use Rattle.history_model.proofs.WholeTexts.{object_cut, object_same}
use Rattle.history_layout.specs.TreeReads.{HasObject}
use Rattle.history_texts.specs.ObjectTexts.{is_empty_tree, is_reserved}
use Rattle.history_texts.specs.Written.{IsMalformed}
use Rattle.history_check_objects.specs.Flaws.{HasFile, HasText, IsBadText, IsBadTree, IsElseMalformed, IsTooLong, no_commit, no_tag, malformed}
use Rattle.history_check_objects.specs.Links.{Link, LinksObjects}
use Rattle.history_check_objects.specs.Nexts.{IsObject}
use Rattle.history_check_objects.specs.Reading.{IsFileFor, is_reserved_in}
use Rattle.std.proofs.lemmas.Option.{same_Some}
use Rattle.history_texts.specs.declared.open_error.OpenError.TheVariants.{File}

-- ---- how long texts are

word_short : (object : ObjectKind) → length (kind_word object) ≤ 6
word_short kinds.Blob = omega arith
word_short kinds.Tree = omega arith
word_short kinds.Commit = omega arith
word_short kinds.Tag = omega arith

text_short : (object : ObjectKind) (content : Bytes) → length content ≤ max_content → length (object_text object content) ≤ max_content + 16
text_short object content within =
    let cut = ap length (object_cut object content) in
    let outer = length-append (kind_word object ++ 32 ∷ decimal (length content)) (0 ∷ content) in
    let inner = length-append (kind_word object) (32 ∷ decimal (length content)) in
    let digits = length-decimal-le 8 (length content) (omega arith) (omega arith) (omega arith) in
    let word = word_short object in
    omega arith

pub too_long : (text : Bytes) → max_content + 16 < length text → IsTooLong text
too_long text long = (omega arith, λ object content within same. let short = text_short object content within in let len = ap length same in absurd (omega arith))

pub too_large : (text content : Bytes) (object : ObjectKind) → text ≡ object_text object content → max_content < length content → IsTooLong text
too_large text content object is long = (
  longer,
  λ other some within same. let equal = ap length (object_same object other content some (sym is ∙ same)).1 in absurd (omega arith),
)
  where
    longer : max_content < length text
    longer =
        let len = ap length (is ∙ object_cut object content) in
        let outer = length-append (kind_word object ++ 32 ∷ decimal (length content)) (0 ∷ content) in
        omega arith

-- ---- an object of its id

module _ (kind : Kind) (tree : Tree) (id : Id) (path text : Bytes) (has : HasFile kind tree path id text) where
  stands : file_at tree (object_place id) ≡ Some text
  stands = ap (file_at tree) (sym has.place) ∙ has.stands

  own_kind : id.kind ≡ kind
  own_kind = (has_kind kind id has.formed).of_kind

  reserved_is : (object : ObjectKind) (content : Bytes) → is_reserved id object content ≡ is_reserved_in kind id object content
  reserved_is object content = λ i. id_eq id (null_id (own_kind i)) || (id_eq id (empty_tree_id (own_kind i)) && not (is_empty_tree object content))

  pub text_flaw : (What : Id → Bytes → Type 0) → What id text → HasText kind tree path What
  text_flaw What is = (id, text, has, is)

  module _ (object : ObjectKind) (content : Bytes) (is : text ≡ object_text object content) where
    object_there : HasObject kind tree id object content
    object_there = record { formed = has.formed; stands = stands ∙ ap Some is }

    pub is_object : id ≡ digest kind text → is_reserved_in kind id object content ≡ false → length content ≤ max_content → (links : List Link) → LinksObjects kind object content links → IsObject kind tree id object content links
    is_object own free within links linked = record {
      own = own ∙ ap (digest kind) is;
      stands = stands ∙ ap Some is;
      free = reserved_is object content ∙ free;
      within = within;
      linked = linked;
    }

-- ---- malformed contents

module _ (kind : Kind) (tree : Tree) (id : Id) (path content : Bytes) where
  pub bad_tree : HasFile kind tree path id (object_text kinds.Tree content) → IsMalformed kind kinds.Tree content → IsBadTree kind tree id
  bad_tree has bad = malformed content (object_there kind tree id path (object_text kinds.Tree content) has kinds.Tree content refl) bad

  -- without another cause
  pub bad_object : (object : ObjectKind) → object ≢ kinds.Tree → HasFile kind tree path id (object_text object content) → IsElseMalformed kind object content → HasText kind tree path (λ id text. IsBadText kind text)
  bad_object kinds.Tree other has bad = absurd (other refl)
  bad_object kinds.Blob other has bad = absurd (bad.malformed [] refl)
  bad_object kinds.Commit other has bad = (id, object_text kinds.Commit content, has, no_commit content refl bad)
  bad_object kinds.Tag other has bad = (id, object_text kinds.Tag content, has, no_tag content refl bad)

-- ---- a file that is longer than any object

pub too_long_file : (kind : Kind) (tree : Tree) (id : Id) (path : Bytes) (size : ℕ) → IsFileFor kind tree id → path ≡ object_place id → place_of (node_at tree path) ≡ places.File size → max_content + 16 < size
    → HasText kind tree path (λ id text. IsTooLong text)
too_long_file kind tree id path size (formed, (text, at)) place there long = (
  id,
  text,
  record { formed = formed; place = place; stands = ap (file_at tree) place ∙ at },
  too_long text (subst (λ n. max_content + 16 < n) (as_long (node_at tree path) there (ap (file_at tree) place ∙ at)) long),
)
  where
    as_long : (o : Option Node) → place_of o ≡ places.File size → bytes_of o ≡ Some text → size ≡ length text
    as_long None h k = cc
    as_long (Some (file bytes)) h k = sym (file_size (length bytes) size h) ∙ ap length (same_Some bytes text k)
      where
        file_size : (m n : ℕ) → places.File m ≡ places.File n → m ≡ n
        file_size m n e = cc
    as_long (Some folder) h k = cc
