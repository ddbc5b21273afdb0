-- Objects that are read one after another, and held.
use Rattle.std.proofs.Common.{◌≡◌, ◌∙◌, ap, refl, sym, subst, Bool, true, false, List, [], ◌∷◌, ◌++◌, Option, Some, None, option_map, option_and_then, cond, arith}
use Rattle.std.specs.Prelude.{Contains, map, Result, Ok, Err, IfOk, IsSome, is_some}
use Rattle.std.specs.BTreeMap.{Updates, get, is_at}
use Rattle.std.specs.FinMap.{get as stored_at}
use Rattle.std.specs.Map.{keys_of, lookup}
use Rattle.std.specs.Ordering.{is_eq}
use Rattle.std.specs.declared.cmp.Ordering.{Ordering}
use Rattle.std.proofs.lemmas.List.Elements.{Contains-append_right}
use Rattle.std.proofs.lemmas.Option.{same_Some}
use Rattle.gix_hash.specs.Id.{Id, id_of}
use Rattle.gix_hash.specs.Order.{id_cmp}
use Rattle.gix_hash.specs.OrderLaws.{id_eq-same, id_tied}
use Rattle.gix_hash.specs.declared.object_id.ObjectId.{ObjectId}
use Rattle.gix_object_lookup.specs.Table.{Table}
use Rattle.gix_object_lookup.specs.declared.find.Error.{Error}
use Rattle.history_files.specs.Laws.{table_of}
use Rattle.history_model.specs.Objects.{StoredBytes, StoredCommit, StoredFolder, StoredTag, Value, content_of, object_kind}
use Rattle.history_model.specs.Repository.{Repository, peeled, peeled_value}
use Rattle.history_store.specs.declared.objects.Object.{Object}
use Rattle.history_repository.specs.Reads.{GivesMeant}
use Rattle.history_repository.specs.declared.stopped.Stopped.{Stopped}
use Rattle.history_repository.specs.HeldObjects.{AreAt, Entries, IsAt, ids_of, object_in, table_object}
use Rattle.gix_object_lines.specs.declared.kind.Kind as kind
use Rattle.gix_object_lines.specs.declared.kind.Kind.TheVariants as kinds
use Rattle.gix_object_lookup.specs.Table as tables

abbrev pub by_id : ObjectId → ObjectId → Ordering
by_id x y = id_cmp (id_of x) (id_of y)

-- ids that the order ties are one
tied_same : (a b : Id) → is_eq (id_cmp a b) ≡ true → a ≡ b
tied_same a b tied = id_eq-same a b (id_tied a b ∙ tied)

-- ---- what is held

-- what is found has a key
found_key : (id : Id) (entries : List (ObjectId × Object)) (object : Object) → lookup (is_at (λ key. id_cmp id (id_of key))) entries ≡ Some object → (key : ObjectId) × (id ≡ id_of key)
found_key id [] object found = let z : ⊥ = cc in absurd z
found_key id (e ∷ es) object found = go (λ there. found_key id es object there) (is_eq (id_cmp id (id_of e.0))) refl
  where
    go : (lookup (is_at (λ key. id_cmp id (id_of key))) es ≡ Some object → (key : ObjectId) × (id ≡ id_of key)) → (tied : Bool) → is_eq (id_cmp id (id_of e.0)) ≡ tied → (key : ObjectId) × (id ≡ id_of key)
    go later true tied = (e.0, tied_same id (id_of e.0) tied)
    go later false tied = later (sym (ap (λ b. cond b (Some e.1) (lookup (is_at (λ key. id_cmp id (id_of key))) es)) tied) ∙ found)

found_among : (id : Id) (entries : List (ObjectId × Object)) (object : Object) → lookup (is_at (λ key. id_cmp id (id_of key))) entries ≡ Some object → Contains (map id_of (keys_of entries)) id
found_among id [] object found = let z : ⊥ = cc in absurd z
found_among id (e ∷ es) object found = go (λ there. found_among id es object there) (is_eq (id_cmp id (id_of e.0))) refl
  where
    go : (lookup (is_at (λ key. id_cmp id (id_of key))) es ≡ Some object → Contains (map id_of (keys_of es)) id) → (tied : Bool) → is_eq (id_cmp id (id_of e.0)) ≡ tied → Contains (id_of e.0 ∷ map id_of (keys_of es)) id
    go later true tied = subst (λ x. Contains (id_of e.0 ∷ map id_of (keys_of es)) x) (sym (tied_same id (id_of e.0) tied)) (0, omega arith, refl)
    go later false tied =
        Contains-append_right (id_of e.0 ∷ []) (map id_of (keys_of es)) id
        (later (sym (ap (λ b. cond b (Some e.1) (lookup (is_at (λ key. id_cmp id (id_of key))) es)) tied) ∙ found))

pub is_among : (objects : Entries) (id : Id) (object : Object) → object_in objects id ≡ Some object → Contains (ids_of objects) id
is_among objects id object found = found_among id objects.entries object found

-- what is held of an object is in the table
pub held_there : (table : Table) (objects : Entries) → AreAt table objects → (id : Id) (object : Object) → object_in objects id ≡ Some object → IsAt table id object
held_there table objects held id object is =
    let key = found_key id objects.entries object is in
    ap table key.1 ∙ held key.0 object (ap (object_in objects) (sym key.1) ∙ is)

-- one more is held
pub one_held : (table : Table) (old new : Entries) (id : ObjectId) (object : Object) → Updates by_id old new id (Some object) → IsAt table (id_of id) object → AreAt table old → AreAt table new
one_held table old new id object put stands held key other at = go (is_eq (by_id id key)) refl
  where
    after : (tied : Bool) → is_eq (by_id id key) ≡ tied → object_in new (id_of key) ≡ cond tied (Some object) (object_in old (id_of key))
    after tied is = put.0 key ∙ ap (λ b. cond b (Some object) (get by_id old key)) is

    go : (tied : Bool) → is_eq (by_id id key) ≡ tied → IsAt table (id_of key) other
    go true is = ap table (sym (tied_same (id_of id) (id_of key) is)) ∙ stands ∙ ap (option_map table_object) (sym (after true is) ∙ at)
    go false is = held key other (sym (after false is) ∙ at)

-- nothing is held at first
pub none_held : (table : Table) (objects : Entries) → objects.entries ≡ [] → AreAt table objects
none_held table objects none key object at = cc (sym at ∙ ap (lookup (is_at (λ k. id_cmp (id_of key) (id_of k)))) none)

-- what the store lists is listed after what is held
pub listed_after : (held ids : List Id) (id : Id) (result : Result (Option kind.Kind) Error) → IfOk result (λ kind. IsSome kind → Contains ids id) → IfOk result (λ kind. IsSome kind → Contains (held ++ ids) id)
listed_after held ids id (Ok kind) listed = λ some. Contains-append_right held ids id (listed some)
listed_after held ids id (Err error) listed = tt

-- ---- what a repository has stored

-- a stored object is in the table
pub stored_there : (r : Repository) (id : Id) (value : Value) (object : Object) → stored_at r.objects id ≡ Some value → (object.kind ≡ object_kind value) × (object.content.items ≡ content_of r.kind value) → IsAt (table_of r) id object
stored_there r id value object at is =
    ap (option_map (λ (value : Value). record { kind = object_kind value; content = content_of r.kind value })) at
    ∙ (λ i. Some (record { kind = sym is.0 i; content = sym is.1 i }))

-- and what is in the table is stored
pub there_stored : (r : Repository) (id : Id) (object : Object) → IsAt (table_of r) id object → (value : Value) × (stored_at r.objects id ≡ Some value) × (object.kind ≡ object_kind value) × (object.content.items ≡ content_of r.kind value)
there_stored r id object at = go (stored_at r.objects id) refl at
  where
    go : (found : Option Value) → stored_at r.objects id ≡ found → option_map (λ (value : Value). record { kind = object_kind value; content = content_of r.kind value }) found ≡ Some (table_object object)
        → (value : Value) × (stored_at r.objects id ≡ Some value) × (object.kind ≡ object_kind value) × (object.content.items ≡ content_of r.kind value)
    go None e is = absurd cc
    go (Some value) e is =
        let same = same_Some (record { kind = object_kind value; content = content_of r.kind value }) (table_object object) is in
        (value, e, ap (λ (o : tables.Object). o.kind) (sym same), ap (λ (o : tables.Object). o.content) (sym same))

-- an object that is no tag peels to itself, if to any
pub untagged : (r : Repository) (id commit : Id) (value : Value) → stored_at r.objects id ≡ Some value → (object_kind value ≡ kinds.Tag → ⊥) → peeled r id ≡ Some commit → id ≡ commit
untagged r id commit value at other peels = go value other (sym (ap (option_and_then (peeled_value id)) at) ∙ peels)
  where
    go : (value : Value) → (object_kind value ≡ kinds.Tag → ⊥) → peeled_value id value ≡ Some commit → id ≡ commit
    go (StoredCommit c) other e = same_Some id commit e
    go (StoredTag t) other e = absurd (other refl)
    go (StoredBytes b) other e = cc
    go (StoredFolder f) other e = cc

-- what is held stays so, whatever is meant
pub held_too : {T : Type 0} (MayFail : Type 0) (P : T → Type 0) (Held : Type 0) (result : Result T Stopped) → Held → GivesMeant MayFail P result → GivesMeant MayFail (λ value. P value × Held) result
held_too MayFail P Held (Ok value) held is = (is, held)
held_too MayFail P Held (Err stopped) held fault = fault

-- the commit that an id peels to, if it peels to one
pub commit_told : (r : Repository) (id : Id) → is_some (peeled r id) ≡ true → (commit : Id) × (peeled r id ≡ Some commit)
commit_told r id some = go (peeled r id) some
  where
    go : (o : Option Id) → is_some o ≡ true → (commit : Id) × (o ≡ Some commit)
    go None is = cc
    go (Some commit) is = (commit, refl)
