-- The objects of Git's object format and their ids: blobs, trees, commits and annotated tags ("Git
-- Objects" in the book Pro Git; git-hash-object, git-mktree, git-commit-tree, git-mktag). Each text
-- is written here uncompressed.
use Rattle.std.specs.Prelude.{ℕ, zero, suc, List, [], ◌∷◌, ◌++◌, length, fold, max, ◌==◌, if◌then◌else◌, bytes_eq, codes, decimal, Option, Some, option_map}
use Rattle.std.specs.List.{flat_map, before_first, after_first}
use Rattle.std.specs.FinMap.{entries, keys, get}
use Rattle.std.specs.declared.cmp.Ordering.{Ordering}
use Rattle.gix_hash.specs.declared.kind.Kind.{Kind}
use Rattle.gix_hash.specs.Id.{Id, raw_bytes}
use Rattle.gix_hash.specs.Order.{id_cmp}
use Rattle.gix_hash.specs.Spelling.{hex_text}
use Rattle.gix_hash.specs.Hasher.{id_of_message}
use Rattle.gix_object_lines.specs.Header.{header_text}
use Rattle.gix_object_lines.specs.declared.kind.Kind.{Kind as ObjectKind}
use Rattle.gix_object_lines.specs.declared.kind.Kind.TheVariants as objects
use Rattle.history_model.specs.Bytes.{Bytes, line, has_byte}
use Rattle.history_model.specs.FileMap.{FileMap, Content, has_below, inside}
use Rattle.history_model.specs.declared.FileKind.{FileKind}
use Rattle.history_model.specs.declared.FileKind.TheVariants.{File, Exec, Link}

-- The id of a text is its digest: a kind and hexadecimal digits.
unfoldable pub digest : Kind → Bytes → Id
digest kind text = id_of_message kind text

-- the order of ids: by kind, then by digits
abbrev pub by_id : Id → Id → Ordering
by_id = id_cmp

-- an id in lower-case hexadecimal
abbrev pub hex : Id → Bytes
hex id = hex_text id.digits

-- the header, with the object's kind and the content's length, and then the content
abbrev pub object_text : ObjectKind → Bytes → Bytes
object_text object content = header_text object (length content) ++ content

abbrev pub blob_text : Bytes → Bytes
blob_text content = object_text objects.Blob content

abbrev pub tree_text : Bytes → Bytes
tree_text content = object_text objects.Tree content

-- ---- trees

-- the first component of some paths: a file, or a folder with the files below it
pub data TreeEntry : Type 0 where
  FileEntry : Bytes → Content → TreeEntry
  FolderEntry : Bytes → List (Bytes × Content) → TreeEntry

-- a file below a folder, added to the entries of the files after it
abbrev pub into_folder : Bytes → Bytes × Content → List TreeEntry → List TreeEntry
into_folder name file [] = FolderEntry name (file ∷ []) ∷ []
into_folder name file (FileEntry other content ∷ others) =
    FolderEntry name (file ∷ []) ∷ FileEntry other content ∷ others
into_folder name file (FolderEntry other files ∷ others) =
    if bytes_eq name other then FolderEntry name (file ∷ files) ∷ others
    else FolderEntry name (file ∷ []) ∷ FolderEntry other files ∷ others

abbrev pub with_file : Bytes × Content → List TreeEntry → List TreeEntry
with_file file others =
    if has_byte 47 file.0
    then into_folder (before_first (λ b. b == 47) file.0)
    (after_first (λ b. b == 47) file.0, file.1) others
    else FileEntry file.0 file.1 ∷ others

-- One entry for each first component. The files are ordered by the bytes of their paths, so those
-- of one folder are adjacent, and the entries have Git's order: by the bytes of their names, with
-- `/` after a folder's.
abbrev pub tree_entries : List (Bytes × Content) → List TreeEntry
tree_entries [] = []
tree_entries (file ∷ files) = with_file file (tree_entries files)

-- Git's modes of a plain file, an executable one, and a symbolic link
abbrev pub mode_of : FileKind → Bytes
mode_of File = codes "100644"
mode_of Exec = codes "100755"
mode_of Link = codes "120000"

abbrev pub entry_text : Bytes → Bytes → Id → Bytes
entry_text mode name id = mode ++ 32 ∷ name ++ 0 ∷ raw_bytes id

-- An entry's line in a tree. The content of a folder's tree comes from tree_of.
abbrev pub tree_entry_text : Kind → (List (Bytes × Content) → Bytes) → TreeEntry → Bytes
tree_entry_text kind tree_of (FileEntry name content) =
    entry_text (mode_of content.kind) name (digest kind (blob_text content.bytes))
tree_entry_text kind tree_of (FolderEntry name files) =
    entry_text (codes "40000") name (digest kind (tree_text (tree_of files)))

-- the content of the tree of these files, with folders nested at most so deep
unfoldable pub root_within : ℕ → Kind → List (Bytes × Content) → Bytes
root_within zero kind files = []
root_within (suc depth) kind files =
    flat_map (tree_entry_text kind (λ below. root_within depth kind below)) (tree_entries files)

abbrev pub longest : List Bytes → ℕ
longest paths = fold (λ n path. max n (length path)) 0 paths

-- The content of a file map's tree, empty if there are no files. No path has more folders than
-- bytes.
unfoldable pub root : Kind → FileMap → Bytes
root kind files = root_within (suc (longest (keys files))) kind (entries files)

abbrev pub folder_id : Kind → FileMap → Id
folder_id kind files = digest kind (tree_text (root kind files))

abbrev pub blob_id : Kind → Bytes → Id
blob_id kind content = digest kind (blob_text content)

-- What the trees of a file map have at a path: the mode and id of a folder or a file, or nothing.
abbrev pub entry_at : Kind → FileMap → Bytes → Option (Bytes × Id)
entry_at kind files path =
    if has_below files path then Some (codes "40000", folder_id kind (inside path files))
    else option_map (λ content. (mode_of content.kind, blob_id kind content.bytes)) (get files path)

abbrev pub empty_tree_id : Kind → Id
empty_tree_id kind = digest kind (tree_text [])

-- ---- commits and tags

-- Who wrote something and when: seconds since 1970, and the offset from UTC as its text, a sign and
-- four digits.
pub record Actor : Type 0 where
  pub name : Bytes
  pub email : Bytes
  pub seconds : ℕ
  pub offset : Bytes

abbrev pub actor_text : Actor → Bytes
actor_text actor =
    actor.name ++ codes " <" ++ actor.email ++ codes "> " ++ decimal actor.seconds
    ++ 32 ∷ actor.offset

pub record CommitValue : Type 0 where
  pub parents : List Id
  pub author : Actor
  pub committer : Actor
  pub message : Bytes
  pub files : FileMap

abbrev pub commit_content : Kind → CommitValue → Bytes
commit_content kind commit =
    line (codes "tree " ++ hex (folder_id kind commit.files))
    ++ flat_map (λ parent. line (codes "parent " ++ hex parent)) commit.parents
    ++ line (codes "author " ++ actor_text commit.author)
    ++ line (codes "committer " ++ actor_text commit.committer)
    ++ line []
    ++ commit.message

-- An annotated tag of a commit. The name is what follows `refs/tags/`.
pub record TagValue : Type 0 where
  pub target : Id
  pub name : Bytes
  pub tagger : Actor
  pub message : Bytes

abbrev pub tag_content : TagValue → Bytes
tag_content tag =
    line (codes "object " ++ hex tag.target)
    ++ line (codes "type commit")
    ++ line (codes "tag " ++ tag.name)
    ++ line (codes "tagger " ++ actor_text tag.tagger)
    ++ line []
    ++ tag.message

-- ---- values

-- what is stored under an id: a commit, a tag, bytes or a folder
pub data Value : Type 0 where
  StoredCommit : CommitValue → Value
  StoredTag : TagValue → Value
  StoredBytes : Bytes → Value
  StoredFolder : FileMap → Value

-- the kind of the object that holds the value
abbrev pub object_kind : Value → ObjectKind
object_kind (StoredCommit commit) = objects.Commit
object_kind (StoredTag tag) = objects.Tag
object_kind (StoredBytes bytes) = objects.Blob
object_kind (StoredFolder files) = objects.Tree

abbrev pub content_of : Kind → Value → Bytes
content_of kind (StoredCommit commit) = commit_content kind commit
content_of kind (StoredTag tag) = tag_content tag
content_of kind (StoredBytes bytes) = bytes
content_of kind (StoredFolder files) = root kind files

abbrev pub value_text : Kind → Value → Bytes
value_text kind value = object_text (object_kind value) (content_of kind value)

abbrev pub id_of : Kind → Value → Id
id_of kind value = digest kind (value_text kind value)
