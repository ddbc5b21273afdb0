-- Files that block a way.
use Rattle.std.proofs.Common.{◌≡◌, ◌≢◌, ◌⊎◌, inl, inr, refl, sym, ◌∙◌, ap, subst, Option, Some, None, true, false, [], ◌∷◌, ◌++◌}
use Rattle.std.specs.Prelude.{IsTrue, is_some}
use Rattle.std.specs.FinMap.{get}
use Rattle.gix_ref_file.specs.Tree.{Tree, Node, file, folder, bytes_of, under}
use Rattle.gix_ref_file.specs.Changes.{is_file_at}
use Rattle.gix_ref_way.specs.Ways.{Bytes, SameFiles, IsAbove, HasWay, ClearsWay, TellsAbove, TellsBelow}
use Rattle.gix_ref_way.proofs.FoldersMade.{above_above}

pub blocked_above : (path : Bytes) (tree : Tree) → TellsAbove path tree true → ¬ HasWay path tree
blocked_above path tree (place, above, there) way = let wrong : true ≡ false = sym there ∙ ap is_some (way.above place above) in cc wrong

pub above_before : (path : Bytes) (old mid : Tree) → SameFiles old mid → TellsAbove path mid true → TellsAbove path old true
above_before path old mid same (place, above, there) = (place, above, ap is_some (sym (same place)) ∙ there)

pub blocked_below : (path : Bytes) (tree : Tree) → IsTrue (is_file_at tree path) ⊎ TellsBelow path tree true → is_file_at tree path ≡ false → ¬ HasWay path tree
blocked_below path tree (inl here) none way = let wrong : true ≡ false = sym here ∙ none in cc wrong
blocked_below path tree (inr (other, below, there)) none way = let wrong : true ≡ false = sym there ∙ ap is_some (way.below other below) in cc wrong

-- a file at a path that is listed, or below it
pub one_below : (place path : Bytes) (old mid : Tree) → IsAbove place path → SameFiles old mid → IsTrue (is_file_at mid path) ⊎ TellsBelow path mid true → TellsBelow place old true
one_below place path old mid above same (inl here) = (path, above, ap is_some (sym (same path)) ∙ here)
one_below place path old mid above same (inr (other, below, there)) = (other, above_above place path other above below, ap is_some (sym (same other)) ∙ there)

-- where nothing is, nothing comes
pub still_none : (k place name : Bytes) (mid new : Tree) → place ≢ [] → ClearsWay k mid new → get mid (under place name) ≡ None → get new (under place name) ≡ None
still_none k [] name mid new some clears none = absurd (some refl)
still_none k (b ∷ place) name mid new some clears none = by_node (get new path) refl
  where
    path : Bytes
    path = b ∷ (place ++ 47 ∷ name)

    by_node : (o : Option Node) → get new path ≡ o → get new path ≡ None
    by_node None is = is
    by_node (Some (file bytes)) is = let wrong : Some bytes ≡ None = sym (ap bytes_of is) ∙ clears.files path ∙ ap bytes_of none in absurd (cc wrong)
    by_node (Some folder) is = let wrong : Some folder ≡ None = sym (clears.folders path is) ∙ none in absurd (cc wrong)
