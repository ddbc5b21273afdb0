-- What is returned for several paths, after their trees are read.
use Rattle.std.proofs.Common.{◌≡◌, ◌∙◌, refl, sym, subst, ℕ, zero, suc, ◌<◌, List, [], ◌∷◌, length, map, get_or, Option, Some, None, arith}
use Rattle.gix_hash.specs.Id.{Id}
use Rattle.gix_object_lines.specs.declared.kind.Kind.TheVariants as kinds
use Rattle.gix_object_tree.specs.Entry.{Item}
use Rattle.gix_object_lookup.specs.Existing.{KindFault}
use Rattle.gix_object_lookup.specs.Path.{Path, IsNamedBy}
use Rattle.gix_object_lookup.specs.Table.{Table}
use Rattle.gix_traverse_tree.specs.AtPaths.{Answer, root_item, TellsEach, AsksFor, AsksForAll, EntriesFault}
use Rattle.gix_traverse_tree.specs.Folders.{HaveNumbers, NumbersPaths}
use Rattle.gix_traverse_tree.specs.Known.{known, told_at, IsAskedFor, ReadFault, IsAskedAt, ReadsBelow, StopsReading}
use Rattle.gix_traverse_tree.specs.declared.error.Error.{Error}
use Rattle.gix_traverse_tree.specs.declared.error.Error.TheVariants as errors
use Rattle.gix_traverse_tree.specs.declared.folders.Folder.{Folder}
use Rattle.gix_traverse_tree.proofs.Leading.{above, asks, asks_all, tells}

module _ (H M : Type 0) (table : Table) (root : Id) (paths : List Path) (numbers : List ℕ) (folders : List Folder) (found : List (Option Answer)) (asked : ℕ)
    (so : NumbersPaths paths numbers folders) (known_root : told_at [] found 0 ≡ Some (root_item root)) where
  pub asks_whole : ReadsBelow H table folders found asked (length folders) → AsksForAll H table root paths asked
  asks_whole read = asks_all H table folders so.numbered found (length folders) read.steps root known_root paths so.used numbers so.have asked refl read.counted

  pub asks_read : ReadsBelow H table folders found asked (length folders) → AsksFor H table root paths asked
  asks_read read = (asks_whole read).asks

  pub tells_each : ReadsBelow H table folders found asked (length folders) → TellsEach H table root paths (map (known found) numbers)
  tells_each read = tells H table folders so.numbered found (length folders) read.steps root known_root paths so.used paths numbers (omega arith) so.have

  pub asks_stopped : (error : Error) → StopsReading H M table folders found asked error → AsksFor H table root paths asked
  asks_stopped error stops = asks H table folders so.numbered found stops.number stops.steps root known_root paths so.used (suc stops.number) asked (omega arith) stops.counted

  pub fault : (error : Error) → StopsReading H M table folders found asked error → EntriesFault H M table root paths error
  fault error stops = go (known found stops.number) refl error stops.fault
    where
      at : (answer : Answer) → known found stops.number ≡ Some answer → IsAskedFor stops.folder (Some answer) → IsAskedAt folders found stops.number
      at answer is asks_for = (answer, is, asks_for.0, ((asks_for.1).0, (asks_for.1).1, stops.there (asks_for.1).0 ∙ (asks_for.1).2))

      go : (place : Option Answer) → known found stops.number ≡ place → (e : Error) → ReadFault H M table stops.folder place e → EntriesFault H M table root paths e
      go None is e h = absurd h
      go (Some answer) is (errors.Find e) (asks_for, h) =
          let tree = above H table folders so.numbered found stops.number stops.steps root known_root paths so.used stops.number (omega arith) (at answer is asks_for) in
          (tree.front, tree.tree, subst (λ (item : Item). KindFault H M table item.id kinds.Tree e) (sym tree.is) h)
      go (Some answer) is errors.Cancelled h = h
      go (Some answer) is (errors.ObjectDecode cause) (asks_for, (place, named, h)) =
          let tree = above H table folders so.numbered found stops.number stops.steps root known_root paths so.used stops.number (omega arith) (at answer is asks_for) in
          (tree.front, tree.tree, place, subst (λ (item : Item). IsNamedBy H table item place) (sym tree.is) named, h)
      go (Some answer) is errors.Cycle h = h
      go (Some answer) is errors.Memory h = absurd h

pub numbers_inside : (folders : List Folder) (paths : List Path) (numbers : List ℕ) → HaveNumbers folders paths numbers → (k d : ℕ) → k < length numbers → get_or numbers k d < length folders
numbers_inside folders [] [] have k d lt = absurd (omega arith)
numbers_inside folders [] (n ∷ numbers) have k d lt = absurd have
numbers_inside folders (p ∷ paths) [] have k d lt = absurd have
numbers_inside folders (p ∷ paths) (n ∷ numbers) (has, have) zero d lt = has.0
numbers_inside folders (p ∷ paths) (n ∷ numbers) (has, have) (suc k) d lt = let less : k < length numbers = omega arith in numbers_inside folders paths numbers have k d less
