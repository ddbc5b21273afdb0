-- What is found is the same exactly if its entries are.
use Rattle.std.proofs.Common.{◌≡◌, ap, refl, sym, subst, true, false, List, [], ◌∷◌, map, Option, Some, None, option_map}
use Rattle.std.specs.Bool.{Decides}
use Rattle.std.specs.Cmp.Lexicographic.{pointwise}
use Rattle.std.specs.Option.{option_eq}
use Rattle.std.proofs.lemmas.Bool.{and_from, and_parts}
use Rattle.std.proofs.lemmas.Option.{same_Some}
use Rattle.gix_hash.specs.Id.{Id, id_of}
use Rattle.gix_hash.specs.Order.{id_eq}
use Rattle.gix_hash.specs.OrderLaws.{id_eq-same}
use Rattle.gix_hash.specs.declared.object_id.ObjectId.{ObjectId}
use Rattle.history_files.specs.Reading.{entry_of}
use Rattle.history_files.specs.contracts.found.FoundPartialEq.TheImpl.{eq-value}
use Rattle.history_files.specs.declared.found.Found.{Found}
use Rattle.history_model.specs.Bytes.{Bytes}
use Rattle.history_model.specs.Objects.{mode_of}
use Rattle.history_model.specs.declared.FileKind.{FileKind}
use Rattle.history_model.specs.declared.FileKind.TheVariants.{File, Exec, Link}
use Rattle.history_model.proofs.EntryLemmas.{same_mode}
use Rattle.history_model.proofs.IdLemmas.{id_itself}
use Rattle.history_queries.proofs.Answered.{no_file_mode}
use Rattle.history_files.specs.declared.found.Found.TheVariants as found

-- entries of one mode are the same exactly if their ids are
one_mode : (mode : Bytes) (a b : ObjectId) → Decides (id_eq (id_of a) (id_of b)) (◌≡◌ {A = Bytes × Id} (mode, id_of a) (mode, id_of b))
one_mode mode a b = (
  λ e i. (mode, id_eq-same (id_of a) (id_of b) e i),
  λ e. subst (λ id. id_eq (id_of a) id ≡ true) (ap (λ (entry : Bytes × Id). entry.1) e) (id_itself (id_of a)),
)

other_mode : (k j : FileKind) (a b : ObjectId) → (k ≡ j → ⊥) → Decides false (◌≡◌ {A = Bytes × Id} (mode_of k, id_of a) (mode_of j, id_of b))
other_mode k j a b apart = (λ e. cc, λ e. absurd (apart (same_mode k j (ap (λ (entry : Bytes × Id). entry.0) e))))

by_entries : (a b : Found) → Decides ((eq-value).it a b) (entry_of a ≡ entry_of b)
by_entries (found.Folder a) (found.Folder b) = one_mode _ a b
by_entries (found.Folder a) (found.File k b) = (λ e. cc, λ e. no_file_mode k (ap (λ (entry : Bytes × Id). entry.0) (sym e)))
by_entries (found.File k a) (found.Folder b) = (λ e. cc, λ e. no_file_mode k (ap (λ (entry : Bytes × Id). entry.0) e))
by_entries (found.File File a) (found.File File b) = one_mode _ a b
by_entries (found.File Exec a) (found.File Exec b) = one_mode _ a b
by_entries (found.File Link a) (found.File Link b) = one_mode _ a b
by_entries (found.File File a) (found.File Exec b) = other_mode File Exec a b (λ e. cc)
by_entries (found.File File a) (found.File Link b) = other_mode File Link a b (λ e. cc)
by_entries (found.File Exec a) (found.File File b) = other_mode Exec File a b (λ e. cc)
by_entries (found.File Exec a) (found.File Link b) = other_mode Exec Link a b (λ e. cc)
by_entries (found.File Link a) (found.File File b) = other_mode Link File a b (λ e. cc)
by_entries (found.File Link a) (found.File Exec b) = other_mode Link Exec a b (λ e. cc)

pub found_same : (a b : Option Found) → Decides (option_eq (eq-value).it a b) (option_map entry_of a ≡ option_map entry_of b)
found_same None None = (λ e. refl, λ e. refl)
found_same None (Some b) = (λ e. cc, λ e. cc)
found_same (Some a) None = (λ e. cc, λ e. cc)
found_same (Some a) (Some b) = let same = by_entries a b in (λ e. ap Some (same.0 e), λ e. same.1 (same_Some (entry_of a) (entry_of b) e))

-- lists of what is found are the same exactly if their entries are
pub each_found_same : (a b : List (Option Found)) → Decides (pointwise (option_eq (eq-value).it) a b) (map (option_map entry_of) a ≡ map (option_map entry_of) b)
each_found_same [] [] = (λ e. refl, λ e. refl)
each_found_same [] (b ∷ bs) = (λ e. cc, λ e. cc)
each_found_same (a ∷ rest_a) [] = (λ e. cc, λ e. cc)
each_found_same (a ∷ rest_a) (b ∷ bs) =
    let first = found_same a b in
    let rest = each_found_same rest_a bs in (
      λ e. (let both = and_parts (option_eq (eq-value).it a b) (pointwise (option_eq (eq-value).it) rest_a bs) e in λ i. first.0 both.0 i ∷ rest.0 both.1 i),
      λ e. and_from (option_eq (eq-value).it a b) (pointwise (option_eq (eq-value).it) rest_a bs) (first.1 (cons_head e)) (rest.1 (cons_tail e)),
    )
  where
    cons_head : {A : Type 0} {x y : A} {xs ys : List A} → x ∷ xs ≡ y ∷ ys → x ≡ y
    cons_head e = cc

    cons_tail : {A : Type 0} {x y : A} {xs ys : List A} → x ∷ xs ≡ y ∷ ys → xs ≡ ys
    cons_tail e = cc
