-- Which files a repository's names have.
use Rattle.std.proofs.Common.{◌≡◌, ◌⊎◌, inl, inr, ◌||◌, ◌&&◌, bytes_eq, codes, Bool, true, false, cond, None, Some, Option, option_map, List, [], ◌∷◌, zero, suc, not, arith, ◌++◌, append_assoc, refl, sym, ◌∙◌, ap}
use Rattle.std.specs.Prelude.{Contains, is_some}
use Rattle.std.specs.FinMap.{get}
use Rattle.std.specs.List.{list_all}
use Rattle.std.proofs.lemmas.Bool.{or_cases, and_parts}
use Rattle.std.proofs.lemmas.Slice.Eq.{bytes_eq-Decides}
use Rattle.gix_ref_file.specs.Tree.{Tree}
use Rattle.gix_ref_lock.specs.Needs.{AreBeside}
use Rattle.gix_ref_way.specs.Ways.{IsAbove}
use Rattle.history_model.specs.Bytes.{Bytes, begins}
use Rattle.history_model.specs.FileMap.{is_below}
use Rattle.history_model.specs.Forms.{is_name}
use Rattle.history_model.specs.NameStates.{NameState, Absent}
use Rattle.history_model.specs.Places.{file_at, head_place, packed_place, log_place, log_name, is_lock_file, is_log_place}
use Rattle.history_model.specs.Repository.{Reference, Repository, stands}
use Rattle.history_model.proofs.NameLemmas.{name-lock, log-lock}
use Rattle.history_model.proofs.WholePaths.{begins_front, begins_parts}
use Rattle.history_layout.specs.Passing.{reads_as}
use Rattle.history_layout.specs.TreeHalves.{HoldsNames}
use Rattle.history_layout.proofs.PackedReads.{reads_held}

pub is_below_it : (place path : Bytes) → IsAbove place path → is_below place path ≡ true
is_below_it place path (rest, is) = ap (begins (place ++ 47 ∷ [])) (is ∙ sym (append_assoc place (47 ∷ []) rest)) ∙ begins_front (place ++ 47 ∷ []) rest

-- what a test says of each of these paths
all_of : (p : Bytes → Bool) (paths : List Bytes) → list_all p paths ≡ true → (path : Bytes) → Contains paths path → p path ≡ true
all_of p [] all path (k, lt, is) = let none : ⊥ = omega (arith, lt) in absurd none
all_of p (one ∷ paths) all path (zero, lt, is) = ap p (sym is) ∙ (and_parts (p one) (list_all p paths) all).0
all_of p (one ∷ paths) all path (suc k, lt, is) = all_of p paths (and_parts (p one) (list_all p paths) all).1 path (k, omega (arith, lt), is)

pub beside : (paths : List Bytes) → list_all (λ upper. list_all (λ lower. not (is_below upper lower)) paths) paths ≡ true → AreBeside paths
beside paths all upper lower has_upper has_lower above =
    cc (is_below_it upper lower above, all_of (λ l. not (is_below upper l)) paths (all_of (λ u. list_all (λ l. not (is_below u l)) paths) paths all upper has_upper) lower has_lower)

holds_named : (b : Bool) (state : NameState) (found : Option Reference) → is_some found ≡ true → cond b state Absent ≡ reads_as (option_map (λ (ref : Reference). ref.id) found) → b ≡ true
holds_named true state found there is = refl
holds_named false state None there is = cc
holds_named false state (Some ref) there is = cc

module _ (r : Repository) (tree : Tree) (holds : HoldsNames tree r) where
  pub formed : (name : Bytes) → stands r name ≡ true → is_name name ≡ true
  formed name stood = holds_named (is_name name) _ (get r.names name) stood (reads_held r tree holds name)

  -- a test that fails for HEAD, `packed-refs`, each name and its log fails for each file's path
  of_places : (p : Bytes → Bool) → p head_place ≡ false → p packed_place ≡ false → ((name : Bytes) → stands r name ≡ true → p name ≡ false) → ((name : Bytes) → stands r name ≡ true → p (log_place name) ≡ false)
      → (path text : Bytes) → file_at tree path ≡ Some text → p path ≡ false
  of_places p head packed own log path text is = by_four (or_cases _ (is_log_place path && stands r (log_name path)) (holds.places path text is))
    where
      by_two : (bytes_eq path head_place ≡ true) ⊎ (bytes_eq path packed_place ≡ true) → p path ≡ false
      by_two (inl same) = ap p ((bytes_eq-Decides path head_place).0 same) ∙ head
      by_two (inr same) = ap p ((bytes_eq-Decides path packed_place).0 same) ∙ packed

      by_three : ((bytes_eq path head_place || bytes_eq path packed_place) ≡ true) ⊎ (stands r path ≡ true) → p path ≡ false
      by_three (inl some) = by_two (or_cases (bytes_eq path head_place) (bytes_eq path packed_place) some)
      by_three (inr stood) = own path stood

      by_four : ((bytes_eq path head_place || bytes_eq path packed_place || stands r path) ≡ true) ⊎ ((is_log_place path && stands r (log_name path)) ≡ true) → p path ≡ false
      by_four (inl some) = by_three (or_cases (bytes_eq path head_place || bytes_eq path packed_place) (stands r path) some)
      by_four (inr placed) =
          let parts = and_parts (is_log_place path) (stands r (log_name path)) placed in
          ap p (begins_parts (codes "logs/") path parts.0) ∙ log (log_name path) parts.1

  pub none_at : (p : Bytes → Bool) → p head_place ≡ false → p packed_place ≡ false → ((name : Bytes) → stands r name ≡ true → p name ≡ false) → ((name : Bytes) → stands r name ≡ true → p (log_place name) ≡ false)
      → (path : Bytes) → p path ≡ true → file_at tree path ≡ None
  none_at p head packed own log path passes = by_file (file_at tree path) refl
    where
      by_file : (o : Option Bytes) → file_at tree path ≡ o → o ≡ None
      by_file None is = refl
      by_file (Some text) is = let wrong : true ≡ false = sym passes ∙ of_places p head packed own log path text is in absurd (cc wrong)

  pub no_lock_stands : (path : Bytes) → is_lock_file path ≡ true → file_at tree path ≡ None
  no_lock_stands = none_at is_lock_file refl refl (λ name stood. name-lock name (formed name stood)) (λ name stood. log-lock name (formed name stood))
