-- A first commit of one file `a`.
use Rattle.std.proofs.Common.{◌≡◌, Bool, true, false, cond, ◌&&◌, ◌||◌, List, [], ◌∷◌, ◌++◌, map, refl, sym, ◌∙◌, ap, Option, Some, None, codes, length, nat_lt}
use Rattle.std.specs.List.{list_any, flat_map}
use Rattle.std.specs.Char.{encode_utf8}
use Rattle.std.specs.Str.{is_utf8, chars}
use Rattle.std.specs.Fmt.{digits}
use Rattle.std.specs.FinMap.{FinMap, get, insert, empty, entries, retain_keys, get-empty, get-retain_keys, entries-insert, same_map, slice_cmp-IsAntisymmetric, nat_cmp-IsAntisymmetric}
use Rattle.std.specs.FinMap.Entries.{put}
use Rattle.std.proofs.lemmas.Cmp.{nat_list_cmp_total}
use Rattle.sha1.specs.Sha1.{sha1, digest_bytes}
use Rattle.gix_object_lines.specs.declared.kind.Kind.TheVariants as kinds
use Rattle.history_model.specs.Bytes.{Bytes, by_bytes, has_twice}
use Rattle.history_model.specs.FileMap.{FileMap, Content, Put, edited_by, folders_of, inside, beginnings, has_below, is_below}
use Rattle.history_model.specs.Objects.{by_id, CommitValue, Value, StoredCommit, StoredFolder, StoredBytes, empty_tree_id, hex, digest, blob_id, tree_text, object_text, entry_text, root, root_within, folder_id, commit_content, content_of, id_of}
use Rattle.gix_hash.specs.Id.{Id, null_id}
use Rattle.gix_hash.specs.Order.{id_eq}
use Rattle.history_model.specs.Repository.{fresh}
use Rattle.history_model.specs.Forms.{max_content}
use Rattle.history_model.specs.Commands.{Commit, EditLine, PutLine}
use Rattle.history_model.specs.Meaning.{new_commit, stored_by, first_files}
use Rattle.history_model.specs.Causes.{first_cause, holds}
use Rattle.history_model.specs.laws.Rows.{content}
use Rattle.history_model.specs.declared.Cause.TheVariants.{TooLarge}
use Rattle.gix_hash.specs.declared.kind.Kind.TheVariants.{Sha1}
use Rattle.history_model.specs.declared.FileKind.TheVariants.{File}
use Rattle.history_model.proofs.IdLemmas.{get_with_id, id_itself}
use Rattle.history_model.proofs.RowLemmas.{entries-empty, text_with}
use Rattle.history_model.proofs.FirstRowLemmas.{not_taken, no_clash, no_tag, no_parents}
use Rattle.history_model.proofs.AfterFirstLemmas.{command_with, commit_with, skip, get-with, AllFree, IsFirst}

abbrev pub put_edits : Bytes → List EditLine
put_edits text = PutLine File (codes "a") text ∷ []

abbrev pub one_file : Bytes → FileMap
one_file text = insert empty (codes "a") (content text)

nothing_kept : (test : Bytes → Bool) → retain_keys (empty {X = Content} {R = by_bytes}) test ≡ empty
nothing_kept test = same_map nat_list_cmp_total (slice_cmp-IsAntisymmetric nat_cmp-IsAntisymmetric) _ _ (λ q.
    get-retain_keys empty test q (λ x e. ap test (sym (slice_cmp-IsAntisymmetric nat_cmp-IsAntisymmetric q x e)))
    ∙ ap (λ o. cond (test q) o None) (get-empty {X = Content} by_bytes q) ∙ none (test q) ∙ sym (get-empty by_bytes q))
  where
    none : (b : Bool) → ◌≡◌ {A = Option Content} (cond b None None) None
    none true = refl
    none false = refl

module _ (text : Bytes) where
  pub entry_is : entries (one_file text) ≡ (codes "a", content text) ∷ []
  entry_is = entries-insert nat_list_cmp_total empty (codes "a") (content text) ∙ ap (put by_bytes (codes "a") (content text)) (entries-empty {X = Content})

  edits_give : edited_by empty (Put File (codes "a") text ∷ []) ≡ one_file text
  edits_give = ap (λ m. insert m (codes "a") (content text)) (nothing_kept _)

  pub commit_is : new_commit (fresh Sha1) (command_with (put_edits text)) ≡ commit_with (one_file text)
  commit_is =
      ap (λ (ps : List Id). record (commit_with (edited_by (first_files (fresh Sha1) ps) (Put File (codes "a") text ∷ []))) { parents = ps }) no_parents
      ∙ ap commit_with edits_give

  pub stored_is : stored_by (fresh Sha1) (Commit (command_with (put_edits text))) ≡ StoredBytes text ∷ StoredFolder (one_file text) ∷ StoredCommit (commit_with (one_file text)) ∷ []
  stored_is =
      ap (λ (c : CommitValue). (StoredBytes text ∷ map StoredFolder (folders_of c.files)) ++ StoredCommit c ∷ []) commit_is
      ∙ ap (λ es. (StoredBytes text ∷ StoredFolder (one_file text) ∷ map StoredFolder (map (λ folder. inside folder (one_file text)) (flat_map beginnings (map (λ (e : Bytes × Content). e.0) es)))) ++ StoredCommit (commit_with (one_file text)) ∷ []) entry_is

  pub root_is : root Sha1 (one_file text) ≡ entry_text (codes "100644") (codes "a") (blob_id Sha1 text)
  unfolding root root_within
  root_is = rw entry_is (append_none _)
    where
      append_none : (bytes : Bytes) → bytes ++ [] ≡ bytes
      append_none [] = refl
      append_none (b ∷ bytes) = ap (λ t. b ∷ t) (append_none bytes)

  pub at_a : get (one_file text) (codes "a") ≡ Some (content text)
  at_a = get-with empty (codes "a") (content text) (codes "a")

  pub none_below : has_below (one_file text) (codes "a") ≡ false
  none_below = ap (λ es. list_any (is_below (codes "a")) (map (λ (e : Bytes × Content). e.0) es)) entry_is

pub found_there : (map : FinMap by_id Value) (key : Id) (v : Value) → get (insert map key v) key ≡ Some v
found_there map key v = get_with_id map key v key ∙ ap (λ b. cond b (Some v) (get map key)) (id_itself key)

pub content_shown : (files : FileMap) → commit_content Sha1 (commit_with files) ≡ text_with (hex (folder_id Sha1 files))
unfolding digits text_with digest sha1 digest_bytes
content_shown files = refl

-- ---- if the ids are given

-- the ids of the three objects, which differ from each other, the null id and the empty tree's, and
-- sizes within the limit
pub record AreIds (text : Bytes) (blob tree commit none : Id) : Type 0 where
  pub none_is : empty_tree_id Sha1 ≡ none
  pub blob_is : blob_id Sha1 text ≡ blob
  pub tree_is : digest Sha1 (tree_text (entry_text (codes "100644") (codes "a") blob)) ≡ tree
  pub commit_is : digest Sha1 (object_text kinds.Commit (text_with (hex tree))) ≡ commit
  pub blob_null : id_eq blob (null_id Sha1) ≡ false
  pub tree_null : id_eq tree (null_id Sha1) ≡ false
  pub commit_null : id_eq commit (null_id Sha1) ≡ false
  pub blob_none : id_eq blob none ≡ false
  pub tree_none : id_eq tree none ≡ false
  pub commit_none : id_eq commit none ≡ false
  pub tree_blob : id_eq tree blob ≡ false
  pub commit_blob : id_eq commit blob ≡ false
  pub commit_tree : id_eq commit tree ≡ false
  pub text_small : nat_lt max_content (length text) ≡ false
  pub tree_small : nat_lt max_content (length (entry_text (codes "100644") (codes "a") blob)) ≡ false
  pub commit_small : nat_lt max_content (length (text_with (hex tree))) ≡ false

module _ (text : Bytes) (blob tree commit none : Id) (h : AreIds text blob tree commit none) where
  abbrev pub objects : List (Id × Value)
  objects = (blob, StoredBytes text) ∷ (tree, StoredFolder (one_file text)) ∷ (commit, StoredCommit (commit_with (one_file text))) ∷ []

  root_told : root Sha1 (one_file text) ≡ entry_text (codes "100644") (codes "a") blob
  root_told = root_is text ∙ ap (entry_text (codes "100644") (codes "a")) h.blob_is

  pub tree_id : id_of Sha1 (StoredFolder (one_file text)) ≡ tree
  tree_id = ap (λ c. digest Sha1 (tree_text c)) root_told ∙ h.tree_is

  content_told : commit_content Sha1 (commit_with (one_file text)) ≡ text_with (hex tree)
  content_told = content_shown (one_file text) ∙ ap (λ t. text_with (hex t)) tree_id

  commit_id : id_of Sha1 (StoredCommit (commit_with (one_file text))) ≡ commit
  commit_id = ap (λ c. digest Sha1 (object_text kinds.Commit c)) content_told ∙ h.commit_is

  -- a new key finds nothing
  apart : (map : FinMap by_id Value) (key q : Id) (v : Value) → id_eq q key ≡ false → get map q ≡ None → get (insert map key v) q ≡ None
  apart map key q v e none = get_with_id map key v q ∙ ap (λ b. cond b (Some v) (get map q)) e ∙ none

  no_empty_tree : (id : Id) (b : Bool) → id_eq id none ≡ false → (id_eq id (empty_tree_id Sha1) && b) ≡ false
  no_empty_tree id b e = ap (λ t. id_eq id t && b) h.none_is ∙ ap (λ c. c && b) e

  all_free : AllFree empty objects
  all_free = (
    h.blob_is,
    h.blob_null,
    no_empty_tree blob _ h.blob_none,
    get-empty by_id blob,
    (
      tree_id,
      h.tree_null,
      no_empty_tree tree _ h.tree_none,
      apart empty blob tree _ h.tree_blob (get-empty by_id tree),
      (commit_id, h.commit_null, no_empty_tree commit _ h.commit_none, apart _ tree commit _ h.commit_tree (apart empty blob commit _ h.commit_blob (get-empty by_id commit)), tt),
    ),
  )

  or_none : (a b : Bool) → a ≡ false → b ≡ false → (a || b) ≡ false
  or_none true b e f = cc
  or_none false b e f = f

  not_large : holds TooLarge (fresh Sha1) (Commit (command_with (put_edits text))) ≡ false
  not_large =
      ap (λ values. nat_lt max_content (length text) || list_any (λ content. nat_lt max_content (length content)) (map (content_of Sha1) values)) (stored_is text)
      ∙ or_none _ _ h.text_small (or_none _ _ h.text_small
      (or_none _ _ (ap (λ c. nat_lt max_content (length c)) root_told ∙ h.tree_small)
      (or_none _ _ (ap (λ c. nat_lt max_content (length c)) content_told ∙ h.commit_small) refl)))

  is_accepted : first_cause (fresh Sha1) (Commit (command_with (put_edits text))) ≡ None
  unfolding is_utf8 chars encode_utf8
  is_accepted =
      skip _ _ _ not_taken (skip _ _ _ no_clash (skip _ _ _ no_tag
      (skip _ _ _ (ap (λ ps. nat_lt 64 (length ps)) no_parents) (skip _ _ _ (ap (has_twice id_eq) no_parents)
      (skip _ _ _ not_large refl)))))

  pub is_first : IsFirst (put_edits text) (one_file text) commit objects
  is_first = record {
    commit = commit_is text;
    stored = stored_is text;
    free = all_free;
    id_is = commit_id;
    accepted = is_accepted;
    held = found_there _ commit _;
  }
