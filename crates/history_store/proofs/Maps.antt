-- What a put does to the map of objects, from what it does to the files and to the ids.
use Rattle.std.proofs.Common.{◌≡◌, ◌≢◌, inl, inr, refl, sym, ◌∙◌, ap, subst, suc, Bool, true, false, ◌||◌, List, [], ◌∷◌, length, map, ◌<◌, ◌^◌}
use Rattle.std.specs.Prelude.{IsTrue, IsSome, Option, Some, None, option_and_then, bytes_eq, if◌then◌else◌}
use Rattle.std.specs.FinMap.{contains_key}
use Rattle.std.proofs.lemmas.Slice.Eq.{bytes_eq-Decides}
use Rattle.gix_hash.specs.Id.{Id}
use Rattle.gix_hash.specs.Order.{id_eq}
use Rattle.gix_ref_file.specs.Tree.{Tree}
use Rattle.gix_object_lines.specs.declared.kind.Kind.{Kind as ObjectKind}
use Rattle.gix_object_lookup.specs.Table.{Object, Table}
use Rattle.gix_object_write.specs.Keeping.{IsAsBefore, Puts}
use Rattle.history_model.specs.Bytes.{Bytes}
use Rattle.history_model.specs.Objects.{object_text}
use Rattle.history_model.specs.Places.{file_at, object_place, unfinished_place}
use Rattle.history_model.proofs.IdLemmas.{id_itself, ids_apart, one_id}
use Rattle.history_store.specs.Ids.{IdSet, with_id}
use Rattle.history_store.specs.KnownObjects.{object_at}
use Rattle.history_texts.specs.ObjectTexts.{object_in}
use Rattle.history_store.specs.Stores.{IsIdTaken, MayStand}
use Rattle.history_store.proofs.IdSets.{has_with}
use Rattle.history_texts.proofs.TextObjects.{object_in-text}
use Rattle.history_model.proofs.RecoveredLemmas.{place_differs}

-- ---- the map that a set of ids and a tree make

abbrev pub table_in : IdSet → Tree → Table
table_in ids tree id = if contains_key ids id then object_at tree id else None

-- an object is stored under each id
abbrev pub Knows : IdSet → Tree → Type 0
Knows ids tree = (id : Id) → IsTrue (contains_key ids id) → IsSome (object_at tree id)

-- a file at the place stays as it is
abbrev pub StaysAt : Bytes → Tree → Tree → Type 0
StaysAt place old new = (other : Bytes) → file_at old place ≡ Some other → file_at new place ≡ Some other

some_file : (o : Option Bytes) → IsSome (option_and_then object_in o) → (bytes : Bytes) × (o ≡ Some bytes)
some_file None some = cc
some_file (Some bytes) some = (bytes, refl)

pub map_length : {X Y : Type 0} (f : X → Y) (xs : List X) → length (map f xs) ≡ length xs
map_length f [] = refl
map_length f (x ∷ xs) = ap suc (map_length f xs)

-- ---- what stays

module _ (place text : Bytes) (old new : Tree) (may : MayStand place text old new) (stays : StaysAt place old new) where
  file_stays : (path bytes : Bytes) → path ≢ unfinished_place → file_at old path ≡ Some bytes → file_at new path ≡ file_at old path
  file_stays path bytes unlike at = by_case may
    where
      by_test : (others : (other : Bytes) → other ≢ unfinished_place → other ≢ place → file_at new other ≡ file_at old other) (b : Bool) → bytes_eq path place ≡ b → file_at new path ≡ file_at old path
      by_test others true same =
          let is : path ≡ place = (bytes_eq-Decides path place).0 same in
          ap (file_at new) is ∙ stays bytes (ap (file_at old) (sym is) ∙ at) ∙ sym at
      by_test others false other = others path unlike (λ is. absurd (cc (sym other ∙ (bytes_eq-Decides path place).1 is)))

      by_case : MayStand place text old new → file_at new path ≡ file_at old path
      by_case (inl keeps) = keeps path unlike
      by_case (inr holds) = by_test holds.others (bytes_eq path place) refl

  module _ (ids : IdSet) (knows : Knows ids old) where
    pub object_stays : (id : Id) → IsTrue (contains_key ids id) → object_at new id ≡ object_at old id
    object_stays id known =
        let stood = some_file (file_at old (object_place id)) (knows id known) in
        ap (option_and_then object_in) (file_stays (object_place id) stood.0 (place_differs id) stood.1)

    pub table_stays : IsAsBefore (table_in ids old) (table_in ids new)
    table_stays id = by_test (contains_key ids id) refl
      where
        by_test : (b : Bool) → contains_key ids id ≡ b → if◌then◌else◌ {A = Option Object} b (object_at new id) None ≡ if◌then◌else◌ {A = Option Object} b (object_at old id) None
        by_test true known = object_stays id known
        by_test false unknown = refl

    pub still_knows : Knows ids new
    still_knows id known = subst IsSome (sym (object_stays id known)) (knows id known)

    -- ---- what comes
    module _ (id : Id) (kind : ObjectKind) (content : Bytes) (here : file_at new (object_place id) ≡ Some (object_text kind content)) (fits : length content < 2 ^ 64) where
      abbrev object : Object
      object = record { kind = kind; content = content }

      pub stands_there : object_at new id ≡ Some object
      stands_there = ap (option_and_then object_in) here ∙ object_in-text kind content fits

      known_other : (other : Id) → other ≢ id → contains_key (with_id ids id) other ≡ contains_key ids other
      known_other other unlike = has_with ids id other ∙ ap (λ b. b || contains_key ids other) (ids_apart other id unlike)

      pub comes : Puts (table_in ids old) (table_in (with_id ids id) new) id object
      comes = record {
        stands = ap (λ b. if◌then◌else◌ {A = Option Object} b (object_at new id) None) (has_with ids id id ∙ ap (λ b. b || contains_key ids id) (id_itself id)) ∙ stands_there;
        others = λ other unlike. ap (λ b. if◌then◌else◌ {A = Option Object} b (object_at new other) None) (known_other other unlike) ∙ table_stays other;
      }

      pub knows_more : Knows (with_id ids id) new
      knows_more other known = by_test (id_eq other id) refl
        where
          by_test : (b : Bool) → id_eq other id ≡ b → IsSome (object_at new other)
          by_test true same = subst (λ o. IsSome (object_at new o)) (sym (one_id other id same)) (subst IsSome (sym stands_there) refl)
          by_test false unlike = still_knows other (sym (has_with ids id other ∙ ap (λ b. b || contains_key ids other) unlike) ∙ known)

-- ---- that a file at the place stays

-- if the text is put and no other was there
pub stays_when_put : (id : Id) (kind : ObjectKind) (content : Bytes) (old new : Tree) → file_at new (object_place id) ≡ Some (object_text kind content) → ¬ IsIdTaken id kind content old → StaysAt (object_place id) old new
stays_when_put id kind content old new here free other at = by_test (bytes_eq other (object_text kind content)) refl
  where
    by_test : (b : Bool) → bytes_eq other (object_text kind content) ≡ b → file_at new (object_place id) ≡ Some other
    by_test true same = here ∙ ap Some (sym ((bytes_eq-Decides other (object_text kind content)).0 same))
    by_test false unlike = absurd (free (inr (other, at, λ is. absurd (cc (sym unlike ∙ (bytes_eq-Decides other (object_text kind content)).1 is)))))

-- if what was there, the text or another, keeps the files as they were
pub stays_when_stood : (id : Id) (kind : ObjectKind) (content : Bytes) (old new : Tree) → (file_at old (object_place id) ≡ Some (object_text kind content) → new ≡ old) → (IsIdTaken id kind content old → new ≡ old) → StaysAt (object_place id) old new
stays_when_stood id kind content old new once untouched other at = by_test (bytes_eq other (object_text kind content)) refl
  where
    by_test : (b : Bool) → bytes_eq other (object_text kind content) ≡ b → file_at new (object_place id) ≡ Some other
    by_test true same = ap (λ tree. file_at tree (object_place id)) (once (at ∙ ap Some ((bytes_eq-Decides other (object_text kind content)).0 same))) ∙ at
    by_test false unlike =
        ap (λ tree. file_at tree (object_place id)) (untouched (inr (other, at, λ is. absurd (cc (sym unlike ∙ (bytes_eq-Decides other (object_text kind content)).1 is))))) ∙ at
