-- The locks of edits of a repository's names can be made, and what is prepared has room.
use Rattle.std.proofs.Common.{◌≡◌, ◌≢◌, ◌⊎◌, inl, inr, zero, suc, Bool, true, false, not, ◌&&◌, List, [], ◌∷◌, ◌++◌, drop, get_or, map, refl, sym, ◌∙◌, ap, subst, Option, Some, None, arith, codes}
use Rattle.std.specs.Prelude.{Contains}
use Rattle.std.specs.List.{AllByRecursion, list_all}
use Rattle.std.specs.FinMap.{get}
use Rattle.std.specs.Option.{option_to_list}
use Rattle.std.proofs.lemmas.Bool.{and_parts, not-true, or_from, or_parts}
use Rattle.gix_ref_file.specs.Tree.{Tree, Node, file, folder, bytes_of, is_folder, is_path, node_at}
use Rattle.gix_ref_file.specs.Changes.{may_hold_file}
use Rattle.gix_ref_file.proofs.Listings.{node_is}
use Rattle.gix_ref_edit.specs.declared.change.RefEdit.{RefEdit}
use Rattle.gix_ref_lock.specs.Locks.{lock_of}
use Rattle.gix_ref_lock.specs.Needs.{AreBeside}
use Rattle.gix_ref_store.specs.Places as store
use Rattle.gix_ref_transaction.specs.Locking.{AreLockable, HaveRoom, IsLockable}
use Rattle.gix_ref_transaction.specs.Paths as paths
use Rattle.gix_ref_way.specs.Ways.{IsAbove, HasWay}
use Rattle.history_model.specs.Bytes.{Bytes}
use Rattle.history_model.specs.Causes.{do_collide}
use Rattle.history_model.specs.FileMap.{is_below}
use Rattle.history_model.specs.Forms.{is_name}
use Rattle.history_model.specs.Places.{head_place, packed_place, log_place, is_lock_file, is_name_folder}
use Rattle.history_model.specs.Repository.{Repository, stands}
use Rattle.history_layout.specs.EditFits.{CanBeEdited, MayStand}
use Rattle.history_layout.specs.EditSteps.{MovedName, edited_names, moved_name}
use Rattle.history_layout.specs.TreeHalves.{HoldsNames}
use Rattle.history_texts.proofs.ActorTexts.{stands as has_it}
use Rattle.history_edits.specs.Bridges.{name_paths, root_base}
use Rattle.history_edits.specs.EditFaults.{AreApart, EditsAreLockable, EditsHaveRoom}
use Rattle.history_edits.specs.EditPlans.{AreEdits}
use Rattle.history_edits.proofs.EditNames.{IsPathOf, all_each, by_names, each_of, names_are, of_name, parted, paths_are}
use Rattle.history_edits.proofs.HeadCommitted.{only_one}
use Rattle.history_edits.proofs.NameFolders.{log_above, name_above, refs_of}
use Rattle.history_edits.proofs.NamePaths.{lock_path, log_path, name_path}
use Rattle.history_edits.proofs.NamePlaces.{formed, is_below_it, no_lock_stands, none_at}
use Rattle.history_edits.proofs.PathsApart.{lock_ends}
use Rattle.history_edits.proofs.WholeReads.{names_stand_in_place}

clash : {A : Type 0} {b : Bool} → b ≡ true → b ≡ false → A
clash e f = absurd (go (sym e ∙ f))
  where
    go : true ≡ false → ⊥
    go e = cc

-- ---- what is above what

-- what is above a lock is above its place
unlock : (upper place rest : Bytes) → lock_of place ≡ upper ++ 47 ∷ rest → IsAbove upper place
unlock upper [] rest is = absurd (has_it 47 (codes ".lock") upper rest is refl)
unlock [] (b ∷ place) rest is = (place, (λ i. ap (λ t. get_or t 0 0) is i ∷ place))
unlock (a ∷ upper) (b ∷ place) rest is =
    let more = unlock upper place rest (ap (λ (t : Bytes). drop 1 t) is) in
    (more.0, (λ i. ap (λ t. get_or t 0 0) is i ∷ more.1 i))

-- no folder of names is at a lock's path
lock_no_folder : (place : Bytes) → is_name_folder (lock_of place) ≡ true → ⊥
lock_no_folder place named = clash (lock_ends place) (not-true (is_lock_file (lock_of place)) (and_parts _ (not (is_lock_file (lock_of place))) named).1)

-- ---- names of which none is a folder of another

-- no path that these edits concern is above a name's file or its log
module _ (names : List Bytes) (named : (n : Bytes) → Contains names n → is_name n ≡ true) (apart : (n m : Bytes) → Contains names n → Contains names m → is_below n m ≡ false) where
  abbrev IsConcerned : Bytes → Type 0
  IsConcerned path = (path ≡ packed_place) ⊎ ((path ≡ lock_of packed_place) ⊎ Contains (name_paths names) path)

  refs : (n : Bytes) → Contains names n → n ≡ codes "refs" ++ 47 ∷ drop 5 n
  refs n among = refs_of n (named n among)

  -- what begins with `p` is above neither
  not_packed : (upper : Bytes) → get_or upper 0 0 ≡ 112 → (m : Bytes) → Contains names m → (IsAbove upper m → ⊥) × (IsAbove upper (log_place m) → ⊥)
  not_packed [] begins m among = let byte : 0 ≡ 112 = begins in let none : ⊥ = omega (arith, byte) in (absurd none, absurd none)
  not_packed (b ∷ upper) begins m among = (
    λ above. let byte : 114 ≡ b = ap (λ t. get_or t 0 0) (sym (refs m among) ∙ above.1) in omega (arith, byte, begins),
    λ above. let byte : 108 ≡ b = ap (λ t. get_or t 0 0) above.1 in omega (arith, byte, begins),
  )

  not_name : (n m : Bytes) → Contains names n → Contains names m → (IsAbove n m → ⊥) × (IsAbove n (log_place m) → ⊥)
  not_name n m of_n of_m = (
    λ above. clash (is_below_it n m above) (apart n m of_n of_m),
    λ above. let byte : 108 ≡ 114 = ap (λ t. get_or t 0 0) (above.1 ∙ ap (λ p. p ++ 47 ∷ above.0) (refs n of_n)) in omega (arith, byte),
  )

  not_lock : (n m : Bytes) → Contains names m → (IsAbove (lock_of n) m → ⊥) × (IsAbove (lock_of n) (log_place m) → ⊥)
  not_lock n m of_m = (
    λ above. lock_no_folder n (name_above m (lock_of n) (named m of_m) above),
    λ above. lock_no_folder n (log_above m (lock_of n) (named m of_m) above),
  )

  not_log : (n m : Bytes) → Contains names n → Contains names m → (IsAbove (log_place n) m → ⊥) × (IsAbove (log_place n) (log_place m) → ⊥)
  not_log n m of_n of_m = (
    λ above. let byte : 114 ≡ 108 = ap (λ t. get_or t 0 0) (sym (refs m of_m) ∙ above.1) in omega (arith, byte),
    λ above. clash (is_below_it n m (above.0, ap (λ (t : Bytes). drop 5 t) above.1)) (apart n m of_n of_m),
  )

  not_above : (upper : Bytes) → IsConcerned upper → (m : Bytes) → Contains names m → (IsAbove upper m → ⊥) × (IsAbove upper (log_place m) → ⊥)
  not_above upper (inl is) m among = not_packed upper (ap (λ t. get_or t 0 0) is) m among
  not_above upper (inr (inl is)) m among = not_packed upper (ap (λ t. get_or t 0 0) is) m among
  not_above upper (inr (inr one)) m among = by_name (of_name names upper one)
    where
      by_name : (n : Bytes) × Contains names n × IsPathOf n upper → (IsAbove upper m → ⊥) × (IsAbove upper (log_place m) → ⊥)
      by_name (n, of_n, inl is) = subst (λ u. (IsAbove u m → ⊥) × (IsAbove u (log_place m) → ⊥)) (sym is) (not_name n m of_n among)
      by_name (n, of_n, inr (inl is)) = subst (λ u. (IsAbove u m → ⊥) × (IsAbove u (log_place m) → ⊥)) (sym is) (not_lock n m among)
      by_name (n, of_n, inr (inr is)) = subst (λ u. (IsAbove u m → ⊥) × (IsAbove u (log_place m) → ⊥)) (sym is) (not_log n m of_n among)

  -- nothing is above `packed-refs`
  over_packed : (upper : Bytes) → IsAbove upper packed_place → ⊥
  over_packed upper above = has_it 47 packed_place upper above.0 above.1 refl

  over_lock : (upper place : Bytes) → (IsAbove upper place → ⊥) → IsAbove upper (lock_of place) → ⊥
  over_lock upper place none above = none (unlock upper place above.0 above.1)

  beside_each : (upper lower : Bytes) → IsConcerned upper → IsConcerned lower → IsAbove upper lower → ⊥
  beside_each upper lower over (inl is) = subst (λ l. IsAbove upper l → ⊥) (sym is) (over_packed upper)
  beside_each upper lower over (inr (inl is)) = subst (λ l. IsAbove upper l → ⊥) (sym is) (over_lock upper packed_place (over_packed upper))
  beside_each upper lower over (inr (inr one)) = by_name (of_name names lower one)
    where
      by_name : (m : Bytes) × Contains names m × IsPathOf m lower → IsAbove upper lower → ⊥
      by_name (m, of_m, inl is) = subst (λ l. IsAbove upper l → ⊥) (sym is) (not_above upper over m of_m).0
      by_name (m, of_m, inr (inl is)) = subst (λ l. IsAbove upper l → ⊥) (sym is) (over_lock upper m (not_above upper over m of_m).0)
      by_name (m, of_m, inr (inr is)) = subst (λ l. IsAbove upper l → ⊥) (sym is) (not_above upper over m of_m).1

  concerned : (path : Bytes) → Contains (packed_place ∷ lock_of packed_place ∷ name_paths names) path → IsConcerned path
  concerned path (zero, lt, is) = inl (sym is)
  concerned path (suc zero, lt, is) = inr (inl (sym is))
  concerned path (suc (suc k), lt, is) = inr (inr (k, omega (arith, lt), is))

  all_beside : AreBeside (packed_place ∷ lock_of packed_place ∷ name_paths names)
  all_beside upper lower over under = beside_each upper lower (concerned upper over) (concerned lower under)

-- ---- the edits' names

abbrev do_fit : List MovedName → Option Bytes → Repository → Type 0
do_fit moved taken r = (n : Bytes) → Contains (edited_names moved taken) n → (other : Bytes) → stands r other ≡ true → do_collide n other ≡ false

module _ (r : Repository) (moved : List MovedName) (taken : Option Bytes) (whole : AreApart r) (fits : CanBeEdited r moved taken) where
  is_one : (n : Bytes) → Contains (edited_names moved taken) n → is_name n ≡ true
  is_one = each_of (λ n. is_name n ≡ true) (edited_names moved taken) fits.named

  -- the name that goes exists
  goes : (o : Option Bytes) → MayStand r o → (n : Bytes) → Contains (option_to_list o) n → stands r n ≡ true
  goes None may n (k, lt, is) = let none : ⊥ = omega (arith, lt) in absurd none
  goes (Some name) may n among = subst (λ t. stands r t ≡ true) (only_one name n among) may

  moves_or_goes : (n : Bytes) → Contains (edited_names moved taken) n → Contains (map moved_name moved) n ⊎ (stands r n ≡ true)
  moves_or_goes n among = elim (parted (map moved_name moved) (option_to_list taken) n among) [
    | inl moves ↦ inl moves
    | inr gone ↦ inr (goes taken fits.gone n gone)
  ]

  free : do_fit moved taken r
  free n among other stood = elim (moves_or_goes n among) [
    | inl moves ↦ fits.apart n other moves (inl stood)
    | inr stands_too ↦ or_from (is_below n other) (is_below other n) (whole n other stands_too stood) (whole other n stood stands_too)
  ]

  no_folder_of : (n m : Bytes) → Contains (edited_names moved taken) n → Contains (edited_names moved taken) m → is_below n m ≡ false
  no_folder_of n m of_n of_m = elim (moves_or_goes n of_n) [
    | inl moves ↦ (or_parts (is_below n m) (is_below m n) (fits.apart n m moves (inr of_m))).0
    | inr stood ↦ elim (moves_or_goes m of_m) [
      | inl moves ↦ (or_parts (is_below m n) (is_below n m) (fits.apart m n moves (inr of_n))).1
      | inr stands_too ↦ whole n m stood stands_too
    ]
  ]

-- ---- the ways of a name

module _ (r : Repository) (tree : Tree) (holds : HoldsNames tree r) (name : Bytes) (named : is_name name ≡ true) (fits : (other : Bytes) → stands r other ≡ true → do_collide name other ≡ false) where
  abbrev refs_it : name ≡ codes "refs" ++ 47 ∷ drop 5 name
  refs_it = refs_of name named

  other_refs : (other : Bytes) → stands r other ≡ true → other ≡ codes "refs" ++ 47 ∷ drop 5 other
  other_refs other stood = refs_of other (formed r tree holds other stood)

  neither : (other : Bytes) → stands r other ≡ true → (is_below name other ≡ false) × (is_below other name ≡ false)
  neither other stood = or_parts (is_below name other) (is_below other name) (fits other stood)

  way : HasWay name tree
  way = record {
    above = λ place above. none_at r tree holds (λ path. is_below path name) (ap (λ n. is_below head_place n) refs_it) (ap (λ n. is_below packed_place n) refs_it)
        (λ other stood. (neither other stood).1) (λ other stood. ap (λ n. is_below (log_place other) n) refs_it) place (is_below_it place name above);
    below = λ other below. none_at r tree holds (λ path. is_below name path) (ap (λ n. is_below n head_place) refs_it) (ap (λ n. is_below n packed_place) refs_it)
        (λ another stood. (neither another stood).0) (λ another stood. ap (λ n. is_below n (log_place another)) refs_it) other (is_below_it name other below);
  }

  log_way : HasWay (log_place name) tree
  log_way = record {
    above = λ place above. none_at r tree holds (λ path. is_below path (log_place name)) refl refl
        (λ other stood. ap (λ o. is_below o (log_place name)) (other_refs other stood)) (λ other stood. (neither other stood).1) place (is_below_it place (log_place name) above);
    below = λ other below. none_at r tree holds (λ path. is_below (log_place name) path) refl refl
        (λ another stood. ap (λ o. is_below (log_place name) o) (other_refs another stood)) (λ another stood. (neither another stood).0) other (is_below_it (log_place name) other below);
  }

-- ---- no lock exists

nothing : (o : Option Node) → bytes_of o ≡ None → o ≢ Some folder → o ≡ None
nothing None no_file no_folder = refl
nothing (Some (file bytes)) no_file no_folder = cc
nothing (Some folder) no_file no_folder = absurd (no_folder refl)

pub no_lock_at : (r : Repository) (tree : Tree) → HoldsNames tree r → (place : Bytes) → is_path (lock_of place) ≡ true → node_at tree (lock_of place) ≡ None
no_lock_at r tree holds place is = nothing (node_at tree (lock_of place)) (no_lock_stands r tree holds (lock_of place) (lock_ends place))
    (λ there. lock_no_folder place (holds.folders (lock_of place) (sym (node_is tree (lock_of place) is) ∙ there)))

-- `packed-refs` may be a file
pub packed_may : (r : Repository) (tree : Tree) → HoldsNames tree r → may_hold_file tree packed_place ≡ true
packed_may r tree holds = go (get tree packed_place) refl
  where
    go : (o : Option Node) → get tree packed_place ≡ o → not (is_folder (get tree packed_place)) ≡ true
    go None e = ap (λ o. not (is_folder o)) e
    go (Some (file bytes)) e = ap (λ o. not (is_folder o)) e
    go (Some folder) e = let wrong : false ≡ true = holds.folders packed_place e in cc

-- ---- the edits

module _ (r : Repository) (moved : List MovedName) (taken : Option Bytes) (asked : List RefEdit) (tree : Tree) (holds : HoldsNames tree r) (whole : AreApart r) (fits : CanBeEdited r moved taken) (are : AreEdits moved taken asked) where
  abbrev b : store.Base
  b = root_base r.kind

  all_of : (P : Bytes → Type 0) → ((n : Bytes) → Contains (edited_names moved taken) n → P n) → AllByRecursion (λ (edit : RefEdit). P edit.name) asked
  all_of P each = by_names P asked (subst (AllByRecursion P) (sym (names_are moved taken asked are)) (all_each P (edited_names moved taken) each))

  named : (n : Bytes) → Contains (edited_names moved taken) n → is_name n ≡ true
  named = is_one r moved taken whole fits

  pub same_paths : paths.edit_paths b asked ≡ packed_place ∷ lock_of packed_place ∷ name_paths (edited_names moved taken)
  same_paths = ap (λ ps. packed_place ∷ lock_of packed_place ∷ ps)
      (paths_are r.kind asked (subst (AllByRecursion (λ n. is_name n ≡ true)) (sym (names_are moved taken asked are)) fits.named) ∙ ap name_paths (names_are moved taken asked are))

  apart : AreBeside (paths.edit_paths b asked)
  apart = subst AreBeside (sym same_paths) (all_beside (edited_names moved taken) named (no_folder_of r moved taken whole fits))

  all_paths : (names : List Bytes) → AllByRecursion (λ n. is_name n ≡ true) names → list_all is_path (name_paths names) ≡ true
  all_paths [] all = refl
  all_paths (n ∷ names) all = λ i. name_path n all.0 i && (lock_path n all.0 i && (log_path n all.0 i && all_paths names all.1 i))

  lockable : AreLockable b tree asked
  lockable = record {
    paths = ap (list_all is_path) same_paths ∙ all_paths (edited_names moved taken) fits.named;
    apart = apart;
    each = all_of (λ n. IsLockable tree (store.place b n)) (λ n among.
        subst (IsLockable tree) (sym (names_stand_in_place r.kind n (named n among)).file)
        (record { way = way r tree holds n (named n among) (free r moved taken whole fits n among); free = no_lock_at r tree holds n (lock_path n (named n among)) }));
  }

  room : HaveRoom b tree asked
  room = record {
    apart = apart;
    logs = all_of (λ n. HasWay (store.log_place b n) tree) (λ n among.
        subst (λ path. HasWay path tree) (sym (names_stand_in_place r.kind n (named n among)).log) (log_way r tree holds n (named n among) (free r moved taken whole fits n among)));
    records = packed_may r tree holds;
  }

pub edits_are_lockable : EditsAreLockable
edits_are_lockable r moved taken asked tree holds whole fits are = lockable r moved taken asked tree holds whole fits are

pub edits_have_room : EditsHaveRoom
edits_have_room r moved taken asked tree holds whole fits are = room r moved taken asked tree holds whole fits are
