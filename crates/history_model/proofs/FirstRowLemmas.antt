-- The first command of the first row is accepted by a new repository.
use Rattle.std.proofs.Common.{◌≡◌, ℕ, ◌≤◌, Bool, true, false, cond, not, ◌&&◌, ◌||◌, List, [], ◌∷◌, ◌++◌, map, length, refl, sym, ◌∙◌, ap, Option, Some, None, nat_lt, codes, is_some, filter}
use Rattle.std.specs.List.{list_any, flat_map}
use Rattle.std.specs.Char.{encode_utf8}
use Rattle.std.specs.Str.{is_utf8, chars}
use Rattle.std.specs.FinMap.{entries, empty, get, get-empty}
use Rattle.history_model.specs.Bytes.{Bytes, by_bytes, has_twice}
use Rattle.history_model.specs.FileMap.{Content, folders_of, inside, beginnings}
use Rattle.history_model.specs.Objects.{CommitValue, StoredCommit, StoredFolder, commit_content, content_of}
use Rattle.history_model.specs.Repository.{fresh, Reference, Repository, stands}
use Rattle.history_model.specs.Forms.{max_content}
use Rattle.history_model.specs.Commands.{Commit}
use Rattle.history_model.specs.Meaning.{stored_by, parents_of}
use Rattle.history_model.specs.Causes.{first_cause, holds, do_collide}
use Rattle.history_model.specs.laws.Rows.{first_command, first_commit}
use Rattle.history_model.specs.declared.Cause.TheVariants.{Taken, Collides, HoldsTag, TooLarge}
use Rattle.gix_hash.specs.Order.{id_eq}
use Rattle.gix_hash.specs.declared.kind.Kind.TheVariants.{Sha1}
use Rattle.history_model.proofs.RowLemmas.{entries-empty, root-empty, first_length, first_new_commit}
use Rattle.history_model.proofs.AfterFirstLemmas.{skip}

abbrev main : Bytes
main = codes "refs/heads/main"

no_name : get (empty {X = Reference} {R = by_bytes}) main ≡ None
no_name = get-empty by_bytes main

pub first_stored : stored_by (fresh Sha1) (Commit first_command) ≡ StoredFolder empty ∷ StoredCommit first_commit ∷ []
first_stored = ap (λ (c : CommitValue). map StoredFolder (folders_of c.files) ++ StoredCommit c ∷ []) first_new_commit
    ∙ ap (λ es. (StoredFolder empty ∷ map StoredFolder (map (λ folder. inside folder empty) (flat_map beginnings (map (λ e. e.0) es)))) ++ StoredCommit first_commit ∷ []) (entries-empty {X = Content})

pub no_parents : parents_of (fresh Sha1) first_command ≡ []
no_parents = ap (λ (c : CommitValue). c.parents) first_new_commit

not_large : holds TooLarge (fresh Sha1) (Commit first_command) ≡ false
not_large = ap (λ values. list_any (λ content. nat_lt max_content (length content)) (map (content_of Sha1) values)) first_stored
    ∙ ap (λ content. nat_lt max_content (length content) || (nat_lt max_content (length (commit_content Sha1 first_commit)) || false)) (root-empty Sha1)
    ∙ ap (λ n. nat_lt max_content n || false) first_length

pub not_taken : holds Taken (fresh Sha1) (Commit first_command) ≡ false
not_taken = ap (λ o. is_some o || false) no_name

pub no_clash : holds Collides (fresh Sha1) (Commit first_command) ≡ false
no_clash = ap (λ o. list_any (λ made. list_any (do_collide made) (map (λ e. e.0) (entries (empty {X = Reference} {R = by_bytes})) ++ main ∷ [])) (cond (not (is_some o)) (main ∷ []) [])) no_name
    ∙ ap (λ es. list_any (do_collide main) (map (λ (e : Bytes × Reference). e.0) es ++ main ∷ []) || false) (entries-empty {X = Reference})

pub no_tag : holds HoldsTag (fresh Sha1) (Commit first_command) ≡ false
no_tag = ap (λ (o : Option Reference). Rattle.std.proofs.Common.unwrap_or (Rattle.std.proofs.Common.option_map (Rattle.history_model.specs.Repository.is_tag (fresh Sha1)) (Rattle.std.proofs.Common.option_map (λ ref. ref.id) o)) false) no_name

pub first_is_accepted : first_cause (fresh Sha1) (Commit first_command) ≡ None
unfolding is_utf8 chars encode_utf8
first_is_accepted =
    skip _ _ _ not_taken (skip _ _ _ no_clash (skip _ _ _ no_tag
    (skip _ _ _ (ap (λ ps. nat_lt 64 (length ps)) no_parents) (skip _ _ _ (ap (has_twice id_eq) no_parents)
    (skip _ _ _ not_large refl)))))
