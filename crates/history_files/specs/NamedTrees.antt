-- What trees that were read have under the names of some paths.
use Rattle.std.specs.Prelude.{◌≡◌, ℕ, Bool, List, Vec, Contains, Option, None, Some, map, option_and_then, option_map, slice_get, if◌then◌else◌}
use Rattle.std.specs.Borrow.{Bor}
use Rattle.std.specs.BTreeMap.{BTreeMap, get_by}
use Rattle.std.specs.Cmp.Lexicographic.{slice_cmp}
use Rattle.std.specs.List.{flat_map}
use Rattle.std.specs.Ordering.{nat_cmp}
use Rattle.std.specs.declared.alloc.Global.{Global}
use Rattle.gix_hash.specs.Id.{Id, id_of}
use Rattle.gix_hash.specs.Order.{id_cmp}
use Rattle.gix_hash.specs.declared.kind.Kind.{Kind}
use Rattle.gix_hash.specs.declared.object_id.ObjectId.{ObjectId}
use Rattle.gix_object_lookup.specs.Table.{Table}
use Rattle.history_model.specs.Bytes.{Bytes}
use Rattle.history_model.specs.FileMap.{FileMap, components}
use Rattle.history_model.specs.Objects.{entry_at}
use Rattle.history_files.specs.Reading.{IsRootOf, entry_of}
use Rattle.history_files.specs.declared.found.Found.{Found}
use Rattle.history_files.specs.declared.found.Found.TheVariants.{File, Folder}
use Rattle.history_files.specs.declared.named_trees.Answers.{Answers}
use Rattle.history_files.specs.declared.named_trees.NamedTrees.{NamedTrees}

abbrev pub texts : List (Bor (List ℕ)) → List Bytes
texts names = map (λ (name : Bor (List ℕ)). name.now) names

-- ---- one tree

-- what a tree has under names
abbrev pub Named : Type 0
Named = BTreeMap (Bor (List ℕ)) Found

abbrev pub at_name : Named → Bytes → Option Found
at_name named name = get_by (λ (key : Bor (List ℕ)). slice_cmp nat_cmp name key.now) named

-- it has under each of the names what is there
abbrev pub TellsNames : (Bytes → Option (Bytes × Id)) → List (Bor (List ℕ)) → Named → Type 0
TellsNames at names named = (name : Bytes) → Contains (texts names) name
    → option_map entry_of (at_name named name) ≡ at name

-- this is what is there, in the order of the names
abbrev pub AreAt : (Bytes → Option (Bytes × Id)) → List (Bor (List ℕ)) → List (Option Found)
    → Type 0
AreAt at names found = map (option_map entry_of) found ≡ map (λ name. at name.now) names

abbrev pub found_or_none : List (Option Found) → ℕ → Option Found
found_or_none found place = option_and_then (λ there. there) (slice_get found place)

-- what was found, if anything was and the names are the same, or else what was there before
abbrev pub or_found : Bool → Option Found → Option Found → Option Found
or_found same None before = before
or_found same (Some found) before = if same then Some found else before

-- it holds of each file map with this root
abbrev pub OfRoot : Table → Id → (Kind → FileMap → Type 0) → Type 0
OfRoot table root P =
    (kind : Kind) (files : FileMap) → IsRootOf table kind files root → P kind files

-- it has what the tree of this id has under each of the names
abbrev pub HasNamed : Table → List (Bor (List ℕ)) → Id → Named → Type 0
HasNamed table names tree named =
    OfRoot table tree (λ kind files. TellsNames (entry_at kind files) names named)

-- from what was found to what has a name in it: nothing in a file, and in a folder what is there
abbrev pub IsNext : Table → Found → Bytes → Option Found → Type 0
IsNext table (File kind id) name next = next ≡ None
IsNext table (Folder id) name next =
    OfRoot table (id_of id) (λ kind files. option_map entry_of next ≡ entry_at kind files name)

-- ---- all trees that were read

abbrev pub named_of : Answers → Id → Option Named
named_of answers tree = get_by (λ key. id_cmp tree (id_of key)) answers.named

-- of each tree it is kept what it has under each of the names
abbrev pub AreAnswers : Table → Answers → Type 0
AreAnswers table answers = (tree : ObjectId) (named : Named)
    → named_of answers (id_of tree) ≡ Some named
    → HasNamed table answers.names.items (id_of tree) named

-- so it is, and a path's names are among the names
pub record CanFollow (table : Table) (answers : Answers) (path : List (Bor (List ℕ)))
    (text : Bytes) : Type 0 where
  pub kept : AreAnswers table answers
  pub among : (name : Bytes) → Contains (texts path) name
      → Contains (texts answers.names.items) name
  pub split : texts path ≡ components text

-- each of the paths can be followed, by the names into which it is split
pub record CanFollowEach (table : Table) (paths : List (Bor (List ℕ)))
    (split : List (Vec (Bor (List ℕ)) Global)) (answers : Answers) : Type 0 where
  pub each : map (λ path. texts path.items) split ≡ map (λ path. components path.now) paths
  pub names : texts answers.names.items ≡ flat_map (λ path. components path.now) paths
  pub kept : AreAnswers table answers

-- The paths are these, and of each tree that was read it is kept what it has under their names.
abbrev pub AreNamed : Table → List (Bor (List ℕ)) → NamedTrees → Type 0
AreNamed table paths trees = CanFollowEach table paths trees.paths.items trees.answers
