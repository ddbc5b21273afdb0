-- Sets of ids, kept as ascending lists, one for each first byte.
use Rattle.std.specs.Prelude.{◌≡◌, ⊤, ℕ, suc, Bool, true, if◌then◌else◌, ◌&&◌, List, [], ◌∷◌, Vec, IsTrue, length, map, take, bytes_eq, ◌==◌}
use Rattle.std.specs.List.{AllByRecursion, flat_map, list_all}
use Rattle.std.specs.declared.alloc.Global.{Global}
use Rattle.std.specs.declared.cmp.Ordering.TheVariants.{Less}
use Rattle.std.specs.FinMap.{contains_key, empty, is_sorted, insert}
use Rattle.std.specs.FinSet.{FinSet}
use Rattle.gix_hash.specs.declared.kind.Kind.{Kind}
use Rattle.gix_hash.specs.declared.kind.Kind.TheVariants as kinds
use Rattle.gix_hash.specs.declared.object_id.ObjectId.{ObjectId}
use Rattle.gix_hash.specs.Kind.{hex_len}
use Rattle.gix_hash.specs.Id.{Id, id_of, digits_of}
use Rattle.gix_hash.specs.Order.{digits_cmp}
use Rattle.history_model.specs.Objects.{by_id}

-- a set of ids is a finite map with nothing at each of its keys
abbrev pub IdSet : Type 0
IdSet = FinSet by_id

-- the set with one id more
abbrev pub with_id : IdSet → Id → IdSet
with_id ids id = insert ids id tt

-- the set with one id more, if it is to be
abbrev pub with_id_if : Bool → IdSet → Id → IdSet
with_id_if is ids id = if is then with_id ids id else ids

-- the set of some ids
abbrev pub set_of : List ObjectId → IdSet
set_of [] = empty
set_of (id ∷ ids) = with_id (set_of ids) (id_of id)

-- ---- lists

-- the id has as many digits as its kind
abbrev pub is_whole : ObjectId → Bool
is_whole id = length (id_of id).digits == hex_len (id_of id).kind

-- the id is whole, and its first two digits are the byte's
abbrev pub belongs_to : ℕ → ObjectId → Bool
belongs_to byte id =
    bytes_eq (take 2 (id_of id).digits) (digits_of (byte ∷ [])) && is_whole id

-- ids with nothing at each
abbrev pub marked : List ObjectId → List (Id × Unit {0})
marked ids = map (λ id. (id_of id, tt)) ids

-- the ids belong to the byte, and ascend
abbrev pub is_list_of : ℕ → List ObjectId → Bool
is_list_of byte ids = list_all (belongs_to byte) ids && is_sorted by_id (marked ids)

-- the lists are those of this byte and of the bytes that follow it
abbrev pub are_lists : ℕ → List (Vec ObjectId Global) → Bool
are_lists byte [] = true
are_lists byte (list ∷ lists) = is_list_of byte list.items && are_lists (suc byte) lists

-- the ids of all lists
abbrev pub joined : List (Vec ObjectId Global) → List ObjectId
joined lists = flat_map (λ list. list.items) lists

-- all ids of the set are of this kind
abbrev pub AreOfKind : Kind → IdSet → Type 0
AreOfKind kind ids = (id : Id) → IsTrue (contains_key ids id) → id.kind ≡ kind

-- the id comes before the other, if both are of one kind
abbrev pub ComesBefore : ObjectId → ObjectId → Type 0
ComesBefore id other =
    (id_of id).kind ≡ (id_of other).kind
    → digits_cmp (id_of id).digits (id_of other).digits ≡ Less

-- the ids of one kind ascend
abbrev pub IsAscending : List ObjectId → Type 0
IsAscending [] = ⊤
IsAscending (id ∷ ids) = AllByRecursion (ComesBefore id) ids × IsAscending ids
