-- What names read as, in the tree of names, and the ids that they hold.
use Rattle.std.proofs.Common.{◌≡◌, true, ◌&&◌, length, ◌∙◌, subst, Option, Some, None, option_map, is_some, codes, refl}
use Rattle.std.specs.Prelude.{nat_le}
use Rattle.std.specs.FinMap.{get}
use Rattle.gix_ref_file.specs.History.{History}
use Rattle.history_model.specs.Bytes.{Bytes, begins}
use Rattle.gix_hash.specs.Id.{id_of}
use Rattle.history_model.specs.Repository.{Repository, Reference, id_at, stands}
use Rattle.history_model.specs.Forms.{is_name, max_name}
use Rattle.gix_object_lines.specs.NameTest.{is_partial_name}
use Rattle.std.specs.Str.{is_utf8}
use Rattle.history_model.specs.Places.{Pair}
use Rattle.history_model.specs.StandsFor.{StandsFor}
use Rattle.history_layout.proofs.PackedReads.{names_half}
use Rattle.history_store.specs.Packing.{NameReads, id_read}
use Rattle.history_store.proofs.NamesRead.{id_held}
use Rattle.gix_hash.specs.declared.object_id.ObjectId.{ObjectId}
use Rattle.history_repository.specs.Stands.{Stands, pair_of}
use Rattle.history_repository.specs.Face.{names_part}
use Rattle.std.proofs.lemmas.Bool.{and_parts}
use Rattle.history_repository.specs.declared.repository.Repository as own

-- ---- one name

-- the id that a name reads as, packed or not, is the one that it holds
pub state_told : (pair : Pair) (r : Repository) → StandsFor r.kind pair r → (name : Bytes) → id_read r.kind pair.names name ≡ id_at r name
state_told pair r stand name = id_held r pair.names (names_half r pair stand) name

-- a name exists exactly if it holds an id
pub stands_held : (r : Repository) (name : Bytes) → stands r name ≡ is_some (id_at r name)
stands_held r name = by_ref (get r.names name)
  where
    by_ref : (o : Option Reference) → is_some o ≡ is_some (option_map (λ (ref : Reference). ref.id) o)
    by_ref None = refl
    by_ref (Some ref) = refl

-- a name begins with `refs/`
pub refs_front : (name : Bytes) → is_name name ≡ true → begins (codes "refs/") name ≡ true
refs_front name h =
    (and_parts (is_partial_name name) (begins (codes "refs/") name)
    (and_parts (is_partial_name name && begins (codes "refs/") name) (is_utf8 name)
    (and_parts (is_partial_name name && begins (codes "refs/") name && is_utf8 name) (nat_le (length name) max_name) h).0).0).1

-- ---- a repository with its files

module _ {F : Type 0} (IsHonest : F → Type 0) (history : F → History) (repository : own.Repository F) (r : Repository) (stand : Stands IsHonest history repository r) where
  -- what is read of a name is what it holds
  pub held : (name : Bytes) (found : Option ObjectId) → NameReads repository.names.kind (history (names_part repository)).tree name found → option_map id_of found ≡ id_at r name
  held name found reads =
      subst (λ kind. NameReads kind (history (names_part repository)).tree name found) stand.names_kind reads ∙ state_told (pair_of history repository) r stand.whole.stands name
