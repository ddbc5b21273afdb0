-- Which folders are a repository's, whole or as a stopped run leaves it, and so are recovered.
use Rattle.std.specs.Prelude.{◌≡◌, ◌≢◌, ◌⊎◌, ⊤, ℕ, suc, Bool, true, false, ◌&&◌, ◌||◌, ◌+◌, ◌-◌, ◌==◌, length, take, drop, slice_index, Option, Some, None, bytes_eq, IsTrue, IsFalse}
use Rattle.std.specs.List.{list_all}
use Rattle.std.specs.FinMap.{get}
use Rattle.gix_hash.specs.Kind.{hex_len}
use Rattle.gix_hash.specs.declared.kind.Kind.{Kind}
use Rattle.gix_ref_file.specs.Changes.{is_file_at}
use Rattle.gix_ref_file.specs.Tree.{Tree, Node, bytes_at, file, folder}
use Rattle.gix_ref_way.specs.Ways.{above}
use Rattle.history_texts.specs.declared.parts.Part.{Part}
use Rattle.history_texts.specs.declared.parts.Part.TheVariants.{Objects, Names}
use Rattle.history_model.specs.Bytes.{Bytes}
use Rattle.history_model.specs.Forms.{is_branch, is_name}
use Rattle.history_model.specs.Places.{Pair, file_at, head_place, packed_place, unfinished_place, is_lock_file, is_log_place, is_lower_hex, is_object_folder, log_name}
use Rattle.history_model.specs.StandsFor.{head_text}
use Rattle.history_check_names.specs.Causes.{HasBadHead}
use Rattle.history_check_names.specs.Packed.{HasBadRecord}
use Rattle.history_check_names.specs.PackedRead.{MayBePacked}
use Rattle.history_check_names.specs.Parts.{NamesBranch}
use Rattle.history_texts.specs.declared.open_error.OpenError.{OpenError}
use Rattle.history_texts.specs.declared.open_error.OpenError.TheVariants.{NoHead, BadHead, BadPacked, Stray, File, Memory}

-- ---- places

-- `objects/`, two digits of an id of this kind, a slash, and its others
abbrev pub is_object_place : Kind → Bytes → Bool
is_object_place kind path =
    length path == hex_len kind + 9 && is_object_folder (take 10 path)
    && slice_index path 10 == 47 && list_all is_lower_hex (drop 11 path)

-- of HEAD, of packed names, of a name and of its log
abbrev pub is_names_place : Bytes → Bool
is_names_place path =
    bytes_eq path head_place || bytes_eq path packed_place || is_name path
    || (is_log_place path && is_name (log_name path))

-- a file of this path is renamed to such a place
abbrev pub is_lock_of_place : Bytes → Bool
is_lock_of_place path = is_lock_file path && is_names_place (take (length path - 5) path)

-- whether a repository, whole or with files not yet renamed to their places, may have a file at the
-- path
abbrev pub may_have_file : Part → Kind → Bytes → Bool
may_have_file Objects kind path = is_object_place kind path || bytes_eq path unfinished_place
may_have_file Names kind path = is_names_place path || is_lock_of_place path

-- ---- a repository's folder

-- a file at this path, if there is one, is a repository's
abbrev pub IsOwnAt : Part → Kind → Bytes → Option Node → Type 0
IsOwnAt part kind path None = ⊤
IsOwnAt part kind path (Some (file text)) = IsTrue (may_have_file part kind path)
IsOwnAt part kind path (Some folder) = ⊤

-- each file is
abbrev pub AreOwn : Part → Kind → Tree → Type 0
AreOwn part kind tree = (path : Bytes) → IsOwnAt part kind path (get tree path)

-- HEAD names a branch, each file is a repository's of this kind, and `packed-refs` may be one by the
-- lengths of its lines and by its beginning, if it is long.
pub record IsRecoverable (kind : Kind) (pair : Pair) : Type 0 where
  pub branch : Bytes
  pub head : NamesBranch pair.names branch
  pub objects : AreOwn Objects kind pair.objects
  pub names : AreOwn Names kind pair.names
  pub packed : MayBePacked kind (bytes_at pair.names packed_place)

-- ---- why a folder is none

-- there is a file that isn't a repository's
abbrev pub IsStrayFile : Part → Kind → Tree → Bytes → Type 0
IsStrayFile part kind tree path =
    IsTrue (is_file_at tree path) × IsFalse (may_have_file part kind path)

-- The cause holds of these files; or a reading may fail, or memory ran out.
abbrev pub IsForeign : Type 0 → Kind → Pair → OpenError → Type 0
IsForeign MayFail kind pair NoHead = file_at pair.names head_place ≡ None
IsForeign MayFail kind pair BadHead = HasBadHead pair.names
IsForeign MayFail kind pair (Stray path) =
    IsStrayFile Objects kind pair.objects path.items ⊎ IsStrayFile Names kind pair.names path.items
IsForeign MayFail kind pair (BadPacked number) =
    HasBadRecord kind (bytes_at pair.names packed_place) number
IsForeign MayFail kind pair File = MayFail
IsForeign MayFail kind pair Memory = ⊤
IsForeign MayFail kind pair _ = ⊥

-- ---- calls

-- `AreOwn` for everything below a folder
abbrev pub AreOwnBelow : Part → Kind → Bytes → Tree → Type 0
AreOwnBelow part kind place tree =
    (n : ℕ) (path : Bytes) → above (suc n) path ≡ place → IsOwnAt part kind path (get tree path)

-- why a part isn't found to be a repository's
abbrev pub IsStrayed : Type 0 → Part → Kind → Tree → OpenError → Type 0
IsStrayed MayFail part kind tree (Stray path) = IsStrayFile part kind tree path.items
IsStrayed MayFail part kind tree File = MayFail
IsStrayed MayFail part kind tree Memory = ⊤
IsStrayed MayFail part kind tree _ = ⊥

-- why HEAD isn't found to name a branch
abbrev pub IsHeadless : Type 0 → Tree → OpenError → Type 0
IsHeadless MayFail tree NoHead = file_at tree head_place ≡ None
IsHeadless MayFail tree BadHead = HasBadHead tree
IsHeadless MayFail tree File = MayFail
IsHeadless MayFail tree Memory = ⊤
IsHeadless MayFail tree _ = ⊥

-- whether a text is HEAD's on some branch
abbrev pub TellsHead : Bytes → Bool → Type 0
TellsHead text true = (branch : Bytes) × IsTrue (is_branch branch) × (text ≡ head_text branch)
TellsHead text false = (branch : Bytes) → IsTrue (is_branch branch) → text ≢ head_text branch
