-- Worked rows, computed.
use Rattle.std.proofs.Common.{◌≡◌, [], ◌∷◌, ◌++◌, refl, sym, ◌∙◌, ap, codes, length}
use Rattle.std.specs.FinMap.{entries, empty, len-entries, len-empty, get-empty}
use Rattle.sha1.specs.Sha1.{sha1, hash_after, compress, rounds, schedule, first_words, digest_bytes}
use Rattle.sha2.specs.Sha256.{sha256, hash_after as sha256_after, compress as sha256_compress, rounds as sha256_rounds, schedule as sha256_schedule, first_words as sha256_words, digest_bytes as sha256_bytes}
use Rattle.std.specs.Fmt.{digits}
use Rattle.std.specs.declared.cmp.Ordering.{Ordering}
use Rattle.gix_object_lines.specs.declared.kind.Kind.TheVariants as kinds
use Rattle.history_model.specs.Bytes.{Bytes, by_bytes, line}
use Rattle.history_model.specs.FileMap.{Content}
use Rattle.history_model.specs.Objects.{hex, digest, blob_text, blob_id, empty_tree_id, tree_text, object_text, root, root_within, folder_id, commit_content, id_of, StoredCommit}
use Rattle.history_model.specs.Repository.{fresh, Reference}
use Rattle.history_model.specs.Meaning.{new_commit}
use Rattle.history_model.specs.laws.Rows.{first_command, first_commit, three_files, content}
use Rattle.gix_hash.specs.declared.kind.Kind.{Kind}
use Rattle.gix_hash.specs.declared.kind.Kind.TheVariants.{Sha1, Sha256}
use Rattle.gix_traverse_graph.proofs.Lists.{none_from_length}

pub blob_text_hello : blob_text (codes "hello") ≡ codes "blob 5" ++ 0 ∷ codes "hello"
unfolding digits
blob_text_hello = refl

pub empty_blob : hex (blob_id Sha1 []) ≡ codes "e69de29bb2d1d6434b8b29ae775ad8c2e48c5391"
unfolding digest sha1 hash_after compress rounds schedule first_words digest_bytes digits
empty_blob = refl

pub hello_blob : hex (blob_id Sha1 (codes "hello")) ≡ codes "b6fc4c620b67d95f953a5c1c1230aaab5db5a1b0"
unfolding digest sha1 hash_after compress rounds schedule first_words digest_bytes digits
hello_blob = refl

-- in SHA-256
pub empty_blob_sha256 : hex (blob_id Sha256 []) ≡ codes "473a0f4c3be8a93681a267e3b1e9a7dcda1185436fe141f7749120a303721813"
unfolding digest sha256 sha256_after sha256_compress sha256_rounds sha256_schedule sha256_words sha256_bytes digits
empty_blob_sha256 = refl

pub hello_blob_sha256 : hex (blob_id Sha256 (codes "hello")) ≡ codes "8aec4e4876f854f688d0ebfc8f37598f38e5fd6903cccc850ca36591175aeb60"
unfolding digest sha256 sha256_after sha256_compress sha256_rounds sha256_schedule sha256_words sha256_bytes digits
hello_blob_sha256 = refl

pub empty_tree_sha256 : hex (empty_tree_id Sha256) ≡ codes "6ef19b41225c5369f1c104d45d8d85efa9b057b53b14b4b9b939dd74decc5321"
unfolding digest sha256 sha256_after sha256_compress sha256_rounds sha256_schedule sha256_words sha256_bytes digits
empty_tree_sha256 = refl

-- ---- the first commit

pub no_entries_by : {K X : Type 0} (order : K → K → Ordering) → entries (empty {X = X} {R = order}) ≡ []
no_entries_by {X = X} order = none_from_length _ (sym (len-entries (empty {X = X} {R = order})) ∙ len-empty order X)

pub entries-empty : {X : Type 0} → entries (empty {X = X} {R = by_bytes}) ≡ []
entries-empty {X} = no_entries_by {X = X} by_bytes

pub root-empty : (kind : Kind) → root kind empty ≡ []
unfolding root root_within
root-empty kind = rw (entries-empty {X = Content}) refl

pub empty_tree_computed : hex (digest Sha1 (tree_text [])) ≡ codes "4b825dc642cb6eb9a060e54bf8d69288fbee4904"
unfolding digest sha1 hash_after compress rounds schedule first_words digest_bytes digits
empty_tree_computed = refl

pub empty_tree : hex (folder_id Sha1 empty) ≡ codes "4b825dc642cb6eb9a060e54bf8d69288fbee4904"
empty_tree = ap (λ content. hex (digest Sha1 (tree_text content))) (root-empty Sha1) ∙ empty_tree_computed

-- the commit's content, with the tree's id put in
unfoldable pub text_with : Bytes → Bytes
text_with tree = line (codes "tree " ++ tree) ++ line (codes "author A <a@b> 1 +0000") ++ line (codes "committer A <a@b> 1 +0000") ++ line [] ++ codes "one"

first_content_shown : commit_content Sha1 first_commit ≡ text_with (hex (folder_id Sha1 empty))
unfolding digits text_with digest sha1 digest_bytes
first_content_shown = refl

pub first_content : commit_content Sha1 first_commit ≡ text_with (codes "4b825dc642cb6eb9a060e54bf8d69288fbee4904")
first_content = first_content_shown ∙ ap text_with empty_tree

first_length_counted : length (text_with (codes "4b825dc642cb6eb9a060e54bf8d69288fbee4904")) ≡ 99
unfolding text_with
first_length_counted = refl

pub first_length : length (commit_content Sha1 first_commit) ≡ 99
first_length = ap length first_content ∙ first_length_counted

first_id_computed : hex (digest Sha1 (object_text kinds.Commit (text_with (codes "4b825dc642cb6eb9a060e54bf8d69288fbee4904")))) ≡ codes "d39b036c797dcd9c0210b66a094ee846a3bc4fd9"
unfolding digest sha1 hash_after compress rounds schedule first_words digest_bytes digits text_with
first_id_computed = refl

pub first_id : hex (id_of Sha1 (StoredCommit first_commit)) ≡ codes "d39b036c797dcd9c0210b66a094ee846a3bc4fd9"
first_id = ap (λ content. hex (digest Sha1 (object_text kinds.Commit content))) first_content ∙ first_id_computed

-- ---- three files

pub three_tree : hex (digest Sha1 (tree_text (root_within 4 Sha1 three_files))) ≡ codes "b8b673d28f410aa8dd3222ef9fffe69e44e01d26"
unfolding root_within digest sha1 hash_after compress rounds schedule first_words digest_bytes digits
three_tree = refl

pub first_new_commit : new_commit (fresh Sha1) first_command ≡ first_commit
first_new_commit = simp (get-empty {X = Reference} by_bytes) refl
