-- Folders that come and go for some paths alone, and room for a file that stays meanwhile.
use Rattle.std.proofs.Common.{◌≡◌, ◌≢◌, ◌⊎◌, inl, inr, Bool, true, false, not, ◌&&◌, List, [], ◌∷◌, refl, sym, ◌∙◌, ap, subst, Option, Some, None, arith}
use Rattle.std.specs.Prelude.{Contains, IsTrue}
use Rattle.std.specs.FinMap.{get}
use Rattle.std.proofs.lemmas.Bool.{and_parts}
use Rattle.std.proofs.lemmas.List.Elements.{Contains-append_right}
use Rattle.gix_ref_file.specs.Tree.{Tree, Node, file, folder, node_at, parent, is_folder, is_path}
use Rattle.gix_ref_file.specs.Changes.{may_hold_file}
use Rattle.gix_ref_file.specs.History.{History, Adds}
use Rattle.gix_ref_file.proofs.Histories.{adds_weaker, adds_joined, adds_both}
use Rattle.gix_ref_file.proofs.Rooted.{adds_now}
use Rattle.gix_ref_way.specs.Ways.{Bytes, file_at, SameFolders, IsAbove, HasWay, FoldersAbove, IsAtOrBelow, IsFolderAt, KeepsOtherFolders, FoldersOnlyOf}
use Rattle.gix_ref_way.proofs.FoldersMade.{in_root_or_below, above_above}
use Rattle.gix_ref_way.proofs.FoldersStay.{same_stay}

-- ---- among paths
pub among_first : (path : Bytes) (paths : List Bytes) → Contains (path ∷ paths) path
among_first path paths = (0, omega arith, refl)

pub among_rest : (path other : Bytes) (paths : List Bytes) → Contains paths other → Contains (path ∷ paths) other
among_rest path other paths among = Contains-append_right (path ∷ []) paths other among

-- ---- folders of some paths alone
is_one : (o : Option Node) → is_folder o ≡ true → o ≡ Some folder
is_one None e = cc
is_one (Some (file bytes)) e = cc
is_one (Some folder) e = refl

pub only_same : (paths : List Bytes) (old new : Tree) → SameFolders old new → FoldersOnlyOf paths old new
only_same paths old new same = record {
  came = λ place is. inl (is_one (get old place) (sym (same place) ∙ ap is_folder is));
  went = λ place is. inl (same_stay old new same place is);
}

pub only_weaker : (few more : List Bytes) (old new : Tree) → ((path : Bytes) → Contains few path → Contains more path) → FoldersOnlyOf few old new → FoldersOnlyOf more old new
only_weaker few more old new all only = record {
  came = λ place is. elim (only.came place is) [
    | inl stood ↦ inl stood
    | inr (path, among, above) ↦ inr (path, all path among, above)
  ];
  went = λ place is. elim (only.went place is) [
    | inl stands ↦ inl stands
    | inr (path, among, below) ↦ inr (path, all path among, below)
  ];
}

pub only_joined : (paths : List Bytes) (old mid new : Tree) → FoldersOnlyOf paths old mid → FoldersOnlyOf paths mid new → FoldersOnlyOf paths old new
only_joined paths old mid new first second = record {
  came = λ place is. elim (second.came place is) [
    | inl stood ↦ first.came place stood
    | inr over ↦ inr over
  ];
  went = λ place is. elim (first.went place is) [
    | inl stands ↦ second.went place stands
    | inr under ↦ inr under
  ];
}

pub only_now : (paths : List Bytes) (old new : History) → Adds (FoldersOnlyOf paths old.tree) old new → FoldersOnlyOf paths old.tree new.tree
only_now paths old new adds = from_now (adds_now _ old new adds)
  where
    from_now : (new.tree ≡ old.tree) ⊎ FoldersOnlyOf paths old.tree new.tree → FoldersOnlyOf paths old.tree new.tree
    from_now (inl same) = only_same paths old.tree new.tree (λ q. ap (λ y. is_folder (get y q)) same)
    from_now (inr only) = only

pub onlys_joined : (paths : List Bytes) (old mid new : History) → Adds (FoldersOnlyOf paths old.tree) old mid → Adds (FoldersOnlyOf paths mid.tree) mid new → Adds (FoldersOnlyOf paths old.tree) old new
onlys_joined paths old mid new first second =
    adds_joined old mid new first (adds_weaker mid new second (λ x only. only_joined paths old.tree mid.tree x (only_now paths old mid first) only))

pub onlys_same : (paths : List Bytes) (old new : History) → Adds (SameFolders old.tree) old new → Adds (FoldersOnlyOf paths old.tree) old new
onlys_same paths old new same = adds_weaker old new same (λ x stay. only_same paths old.tree x stay)

-- a file's way, once it is made, is of that one path
pub way_only : (path : Bytes) (old new : History) → Adds (FoldersAbove path old.tree) old new → Adds (KeepsOtherFolders path old.tree) old new → Adds (FoldersOnlyOf (path ∷ []) old.tree) old new
way_only path old new above keeps = adds_weaker old new (adds_both old new above keeps) (λ x both. record {
  came = λ place is. came x place both.0 is;
  went = λ place is. went x place (both.1 place is);
})
  where
    came : (x : Tree) (place : Bytes) → FoldersAbove path old.tree x → get x place ≡ Some folder → (get old.tree place ≡ Some folder) ⊎ ((other : Bytes) × Contains (path ∷ []) other × IsAbove place other)
    came x place above is = elim (above place is) [
      | inl was ↦ inl was
      | inr over ↦ inr (path, among_first path [], over)
    ]

    went : (x : Tree) (place : Bytes) → IsFolderAt place x ⊎ IsAtOrBelow path place → IsFolderAt place x ⊎ ((other : Bytes) × Contains (path ∷ []) other × IsAtOrBelow other place)
    went x place (inl stands) = inl stands
    went x place (inr below) = inr (path, among_first path [], below)

-- ---- room
pub way_stays : (path lock : Bytes) (old new : Tree) → HasWay path old → ((other : Bytes) → other ≢ lock → file_at new other ≡ file_at old other) → ¬ IsAbove lock path → ¬ IsAbove path lock → HasWay path new
way_stays path lock old new way others not_above not_below = record {
  above = λ place above. others place (λ same. not_above (subst (λ p. IsAbove p path) same above)) ∙ way.above place above;
  below = λ other above. others other (λ same. not_below (subst (λ p. IsAbove path p) same above)) ∙ way.below other above;
}

no_folder : (b : Bool) → (b ≡ true → ⊥) → not b ≡ true
no_folder true h = absurd (h refl)
no_folder false h = refl

was_none : (b : Bool) → not b ≡ true → b ≡ true → ⊥
was_none b e f = cc

both : (a b c : Bool) → a ≡ true → b ≡ true → c ≡ true → (a && b && c) ≡ true
both true true true e f g = refl
both true true false e f g = g
both true false c e f g = f
both false b c e f g = e

module _ (path : Bytes) (paths : List Bytes) (old new : Tree) (held : may_hold_file old path ≡ true) (only : FoldersOnlyOf paths old new)
    (apart : (other : Bytes) → Contains paths other → (¬ IsAbove other path) × (¬ IsAbove path other)) where
  parts : ((is_path path && is_folder (node_at old (parent path))) ≡ true) × (not (is_folder (node_at old path)) ≡ true)
  parts = and_parts (is_path path && is_folder (node_at old (parent path))) (not (is_folder (node_at old path))) held

  more : (is_path path ≡ true) × (is_folder (node_at old (parent path)) ≡ true)
  more = and_parts (is_path path) (is_folder (node_at old (parent path))) parts.0

  parent_at : (place : Bytes) → parent path ≡ place → is_folder (node_at old place) ≡ true → is_folder (node_at new place) ≡ true
  parent_at [] e f = refl
  parent_at (byte ∷ place) e f = elim (only.went (byte ∷ place) f) [
    | inl stands ↦ stands
    | inr (other, among, below) ↦ absurd ((apart other among).0 (above_it other below))
  ]
    where
      over : (byte ∷ place) ≢ [] → IsAbove (byte ∷ place) path
      over some = elim (in_root_or_below path) [
        | inl root ↦ absurd (some (sym e ∙ root))
        | inr above ↦ subst (λ p. IsAbove p path) e above
      ]

      above_it : (other : Bytes) → IsAtOrBelow other (byte ∷ place) → IsAbove other path
      above_it other (inl same) = subst (λ p. IsAbove p path) same (over (λ n. cc))
      above_it other (inr above) = above_above other (byte ∷ place) path above (over (λ n. cc))

  own_at : (place : Bytes) → path ≡ place → not (is_folder (node_at old place)) ≡ true → not (is_folder (node_at new place)) ≡ true
  own_at [] e f = f
  own_at (byte ∷ place) e f = no_folder (is_folder (get new (byte ∷ place))) (λ stands. elim (only.came (byte ∷ place) (is_one (get new (byte ∷ place)) stands)) [
    | inl was ↦ was_none (is_folder (get old (byte ∷ place))) f (ap is_folder was)
    | inr (other, among, above) ↦ (apart other among).1 (subst (λ p. IsAbove p other) (sym e) above)
  ])

  stays : may_hold_file new path ≡ true
  stays = both (is_path path) (is_folder (node_at new (parent path))) (not (is_folder (node_at new path))) more.0 (parent_at (parent path) refl more.1) (own_at path refl parts.1)

-- A path that may hold a file still may, if none of the paths for whose sake folders came and went
-- is above it or below it.
pub room_stays : (path : Bytes) (paths : List Bytes) (old new : Tree) → IsTrue (may_hold_file old path) → FoldersOnlyOf paths old new
    → ((other : Bytes) → Contains paths other → (¬ IsAbove other path) × (¬ IsAbove path other)) → IsTrue (may_hold_file new path)
room_stays path paths old new held only apart = stays path paths old new held only apart
