-- Trees that are read one after another, and kept.
use Rattle.std.proofs.Common.{◌≡◌, ◌∙◌, ap, refl, sym, subst, Bool, true, false, List, [], ◌∷◌, ◌++◌, ℕ, Option, Some, None, option_map, cond, Vec, arith}
use Rattle.std.specs.Prelude.{Contains, map, Result, Ok, Err, IfOk, IsSome}
use Rattle.std.specs.BTreeMap.{BTreeMap, Updates, get, get_by, is_at}
use Rattle.std.specs.Map.{keys_of, lookup}
use Rattle.std.specs.Ordering.{is_eq}
use Rattle.std.specs.declared.alloc.Global.{Global}
use Rattle.std.specs.declared.cmp.Ordering.{Ordering}
use Rattle.std.proofs.lemmas.List.Elements.{Contains-append_right}
use Rattle.std.proofs.lemmas.Option.{same_Some}
use Rattle.gix_hash.specs.Id.{Id, id_of}
use Rattle.gix_hash.specs.Order.{id_cmp}
use Rattle.gix_hash.specs.OrderLaws.{id_eq-same, id_tied}
use Rattle.gix_hash.specs.declared.object_id.ObjectId.{ObjectId}
use Rattle.gix_object_lookup.specs.Table.{Object, Table, content_at, content_or_none, kind_at}
use Rattle.gix_object_lookup.specs.declared.find.Error.{Error}
use Rattle.gix_object_lines.specs.declared.kind.Kind as object
use Rattle.gix_object_lines.specs.declared.kind.Kind.TheVariants as kinds
use Rattle.history_files.specs.KeptTrees.{AreKept, Contents, content_of, ids_of, tree_object}

abbrev pub by_id : ObjectId → ObjectId → Ordering
by_id x y = id_cmp (id_of x) (id_of y)

-- ids that the order ties are one
tied_same : (a b : Id) → is_eq (id_cmp a b) ≡ true → a ≡ b
tied_same a b tied = id_eq-same a b (id_tied a b ∙ tied)

-- what is found has a key
found_key : (id : Id) (entries : List (ObjectId × Vec ℕ Global)) (content : Vec ℕ Global) → lookup (is_at (λ key. id_cmp id (id_of key))) entries ≡ Some content → (key : ObjectId) × (id ≡ id_of key)
found_key id [] content found = let z : ⊥ = cc in absurd z
found_key id (e ∷ es) content found = go (λ there. found_key id es content there) (is_eq (id_cmp id (id_of e.0))) refl
  where
    go : (lookup (is_at (λ key. id_cmp id (id_of key))) es ≡ Some content → (key : ObjectId) × (id ≡ id_of key)) → (tied : Bool) → is_eq (id_cmp id (id_of e.0)) ≡ tied → (key : ObjectId) × (id ≡ id_of key)
    go later true tied = (e.0, tied_same id (id_of e.0) tied)
    go later false tied = later (sym (ap (λ b. cond b (Some e.1) (lookup (is_at (λ key. id_cmp id (id_of key))) es)) tied) ∙ found)

found_among : (id : Id) (entries : List (ObjectId × Vec ℕ Global)) (content : Vec ℕ Global) → lookup (is_at (λ key. id_cmp id (id_of key))) entries ≡ Some content → Contains (map id_of (keys_of entries)) id
found_among id [] content found = let z : ⊥ = cc in absurd z
found_among id (e ∷ es) content found = go (λ there. found_among id es content there) (is_eq (id_cmp id (id_of e.0))) refl
  where
    go : (lookup (is_at (λ key. id_cmp id (id_of key))) es ≡ Some content → Contains (map id_of (keys_of es)) id) → (tied : Bool) → is_eq (id_cmp id (id_of e.0)) ≡ tied → Contains (id_of e.0 ∷ map id_of (keys_of es)) id
    go later true tied = subst (λ x. Contains (id_of e.0 ∷ map id_of (keys_of es)) x) (sym (tied_same id (id_of e.0) tied)) (0, omega arith, refl)
    go later false tied =
        Contains-append_right (id_of e.0 ∷ []) (map id_of (keys_of es)) id
        (later (sym (ap (λ b. cond b (Some e.1) (lookup (is_at (λ key. id_cmp id (id_of key))) es)) tied) ∙ found))

pub is_among : (contents : Contents) (id : Id) (content : Vec ℕ Global) → content_of contents id ≡ Some content → Contains (ids_of contents) id
is_among contents id content found = found_among id contents.entries content found

-- what is kept of a tree is in the table
pub kept_there : (table : Table) (contents : Contents) → AreKept table contents → (id : Id) (content : Vec ℕ Global) → content_of contents id ≡ Some content → table id ≡ Some (tree_object content)
kept_there table contents kept id content is =
    let key = found_key id contents.entries content is in
    ap table key.1 ∙ kept key.0 content (ap (content_of contents) (sym key.1) ∙ is)

-- what holds of each one that is kept holds too once one more is
pub kept_more : {X : Type 0} (P : Id → X → Type 0) (old new : BTreeMap ObjectId X) (id : ObjectId) (value : X) → Updates by_id old new id (Some value) → P (id_of id) value
    → ((key : ObjectId) (v : X) → get_by (λ k. id_cmp (id_of key) (id_of k)) old ≡ Some v → P (id_of key) v)
    → (key : ObjectId) (v : X) → get_by (λ k. id_cmp (id_of key) (id_of k)) new ≡ Some v → P (id_of key) v
kept_more {X} P old new id value put fits kept key v at = go (is_eq (by_id id key)) refl
  where
    after : (tied : Bool) → is_eq (by_id id key) ≡ tied → get by_id new key ≡ cond tied (Some value) (get by_id old key)
    after tied is = put.0 key ∙ ap (λ b. cond b (Some value) (get by_id old key)) is

    go : (tied : Bool) → is_eq (by_id id key) ≡ tied → P (id_of key) v
    go true is = subst (λ x. P x v) (tied_same (id_of id) (id_of key) is) (subst (P (id_of id)) (same_Some value v (sym (after true is) ∙ at)) fits)
    go false is = kept key v (sym (after false is) ∙ at)

pub one_kept : (table : Table) (old new : Contents) (id : ObjectId) (content : Vec ℕ Global) → Updates by_id old new id (Some content) → table (id_of id) ≡ Some (tree_object content) → AreKept table old → AreKept table new
one_kept table old new id content put stands kept = kept_more (λ at bytes. table at ≡ Some (tree_object bytes)) old new id content put stands kept

-- a tree that was read is in the table
pub tree_stands : (table : Table) (id : Id) (content : Vec ℕ Global) → kind_at table id ≡ Some kinds.Tree → content.items ≡ content_at table id → table id ≡ Some (tree_object content)
tree_stands table id content kind same = go (table id) refl kind same
  where
    go : (found : Option Object) → table id ≡ found → option_map (λ (o : Object). o.kind) found ≡ Some kinds.Tree → content.items ≡ content_or_none found → table id ≡ Some (tree_object content)
    go None at k s = cc
    go (Some o) at k s = at ∙ (λ i. Some (record { kind = same_Some o.kind kinds.Tree k i; content = sym s i }))

-- what the store lists is listed after what is kept
pub listed_behind : (kept ids : List Id) (id : Id) (result : Result (Option object.Kind) Error) → IfOk result (λ kind. IsSome kind → Contains ids id) → IfOk result (λ kind. IsSome kind → Contains (kept ++ ids) id)
listed_behind kept ids id (Ok kind) listed = λ some. Contains-append_right kept ids id (listed some)
listed_behind kept ids id (Err error) listed = tt
