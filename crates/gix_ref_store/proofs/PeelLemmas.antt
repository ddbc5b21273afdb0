-- Along tags, from id to id.
use Rattle.std.proofs.Common.{◌≡◌, ◌∙◌, sym, ap, subst, ℕ, zero, suc, ◌-◌, ◌<◌, ◌≤◌, Bool, true, false, List, [], ◌∷◌, ◌++◌, length, map, Some, None, refl, arith, length-append}
use Rattle.std.specs.Prelude.{Contains, ◌||◌, option_map, Result, Ok, Err, MatchResult}
use Rattle.std.specs.List.{list_any, IsDistinct, slice_get}
use Rattle.std.proofs.lemmas.List.Folds.{list_any-append}
use Rattle.std.proofs.lemmas.Map.Keys.{IsDistinct-push}
use Rattle.std.proofs.lemmas.Map.Made.{length-le_from_is_member}
use Rattle.std.proofs.lemmas.Option.{slice_get-get_or}
use Rattle.gix_hash.specs.Id.{Id, id_of}
use Rattle.gix_hash.specs.Order.{id_eq}
use Rattle.gix_hash.specs.OrderLaws.{id_equivalence, id_eq-itself, id_eq-same}
use Rattle.gix_hash.specs.declared.object_id.ObjectId.{ObjectId}
use Rattle.gix_object_lookup.specs.Table.{Table}
use Rattle.gix_ref_file.specs.Tree.{Tree}
use Rattle.gix_ref_store.specs.Places.{Base}
use Rattle.gix_ref_store.specs.RefStates.{RefState}
use Rattle.gix_ref_store.specs.Follows.{EndsBy, IsGiven, CantOpen, follow_from}
use Rattle.gix_ref_store.specs.Peels.{TagNames, LeadsOver, PeelFault, TagFault}
use Rattle.gix_ref_store.specs.declared.reference.Reference.{Reference}
use Rattle.gix_ref_store.specs.declared.store.file.find.Error.TheVariants as finds
use Rattle.gix_ref_store.specs.declared.store.file.find.ExistingError.TheVariants as existing
use Rattle.gix_ref_store.specs.declared.store.file.follow.Error.TheVariants as follow
use Rattle.gix_ref_store.specs.declared.store.file.peel.Error.{Error}
use Rattle.gix_ref_store.specs.declared.store.file.peel.Error.TheVariants.{FollowToObject, Find, NotFound, Memory}

-- one tag more
pub leads_on : (table : Table) (tags : List Id) (id end next : Id) → LeadsOver table id tags end → TagNames table end next → LeadsOver table id (tags ++ end ∷ []) next
leads_on table [] id end next is names = (sym is, (next, subst (λ (x : Id). TagNames table x next) (sym is) names, refl))
leads_on table (tag ∷ tags) id end next (is, (mid, first, later)) names = (is, (mid, first, leads_on table tags mid end next later names))

-- ---- no id comes twice, and each is one of the store's
pub record AreApart (ids tags : List Id) : Type 0 where
  pub distinct : IsDistinct id_eq tags
  pub stored : (id : Id) → list_any (id_eq id) tags ≡ true → list_any (id_eq id) ids ≡ true

pub none_apart : (ids : List Id) → AreApart ids []
unfolding IsDistinct
none_apart ids = record { distinct = tt; stored = λ id e. cc }

or_true : (b : Bool) → (b || true) ≡ true
or_true true = refl
or_true false = refl

among_at : (ids : List Id) (k : ℕ) (id : Id) → slice_get ids k ≡ Some id → list_any (id_eq id) ids ≡ true
among_at [] k id a = let z : ⊥ = cc in absurd z
among_at (x ∷ ids) zero id a = let e : x ≡ id = cc in rw e (rw (id_eq-itself id) refl)
among_at (x ∷ ids) (suc k) id a = let r = among_at ids k id a in rw r (or_true (id_eq id x))

pub among_from_contains : (ids : List Id) (id : Id) → Contains ids id → list_any (id_eq id) ids ≡ true
among_from_contains ids id (k, l, e) = among_at ids k id (slice_get-get_or ids k id l ∙ ap Some e)

pub apart_more : (ids tags : List Id) (id : Id) → AreApart ids tags → list_any (id_eq id) tags ≡ false → Contains ids id → AreApart ids (tags ++ id ∷ [])
apart_more ids tags id apart new there = record {
  distinct = IsDistinct-push id_equivalence tags id apart.distinct new;
  stored = λ x e. by_old x (list_any (id_eq x) tags) refl (sym (list_any-append (id_eq x) tags (id ∷ [])) ∙ e);
}
  where
    by_last : (x : Id) (b : Bool) → id_eq x id ≡ b → (b || false) ≡ true → list_any (id_eq x) ids ≡ true
    by_last x true f e = subst (λ (y : Id). list_any (id_eq y) ids ≡ true) (sym (id_eq-same x id f)) (among_from_contains ids id there)
    by_last x false f e = let z : ⊥ = cc in absurd z

    by_old : (x : Id) (b : Bool) → list_any (id_eq x) tags ≡ b → (b || (id_eq x id || false)) ≡ true → list_any (id_eq x) ids ≡ true
    by_old x true f e = apart.stored x f
    by_old x false f e = by_last x (id_eq x id) refl e

pub not_more : (ids tags : List Id) → AreApart ids tags → length tags ≤ length ids
not_more ids tags apart = length-le_from_is_member id_equivalence tags ids apart.distinct apart.stored

-- fewer tags may follow
pub fewer : (ids tags : List Id) (id : Id) → AreApart ids (tags ++ id ∷ []) → length ids - length (tags ++ id ∷ []) < length ids - length tags
fewer ids tags id apart =
    let most = not_more ids (tags ++ id ∷ []) apart in
    let more = length-append tags (id ∷ []) in
    omega (arith, most, more)

-- ---- the tags as values
pub ids_more : (tags : List ObjectId) (id : ObjectId) → map id_of (tags ++ id ∷ []) ≡ map id_of tags ++ id_of id ∷ []
ids_more [] id = refl
ids_more (x ∷ tags) id = ap (λ (ts : List Id). id_of x ∷ ts) (ids_more tags id)

pub any_id : (p : Id → Bool) (tags : List ObjectId) → list_any (λ other. p (id_of other)) tags ≡ list_any p (map id_of tags)
any_id p [] = refl
any_id p (x ∷ tags) = ap (λ (b : Bool). p (id_of x) || b) (any_id p tags)

pub among_test : (tags items : List ObjectId) (id : Id) (b : Bool) → items ≡ tags → b ≡ list_any (λ other. id_eq id (id_of other)) items → list_any (id_eq id) (map id_of tags) ≡ b
among_test tags items id b same is = sym (is ∙ ap (list_any (λ other. id_eq id (id_of other))) same ∙ any_id (id_eq id) tags)

-- ---- references
module _ (read : List ℕ → RefState) (table : Table) (r : Reference) where
  pub lost_on : (H M : Type 0) (last : Reference) (first : ObjectId) (error : Error) → r.peeled ≡ None → EndsBy last first (follow_from read r) → H → TagFault H M table (id_of first) error
      → PeelFault IsGiven read table r error
  lost_on H M last first (FollowToObject e) is ends honest fault = absurd fault
  lost_on H M last first (Find e) is ends honest fault = (id_of first, (last.name, option_map id_of last.peeled, ends.1))
  lost_on H M last first (NotFound oid) is ends honest fault = (is, (id_of first, (last.name, option_map id_of last.peeled, ends.1), fault honest))
  lost_on H M last first Memory is ends honest fault = tt

  -- packed references that a caller gives are open
  opened_fault : (b : Base) (tree : Tree) (error : Error) → PeelFault IsGiven read table r error → PeelFault (CantOpen b tree) read table r error
  opened_fault b tree (FollowToObject (follow.Follow existing.NotFound)) fault = fault
  opened_fault b tree (FollowToObject (follow.Follow (existing.Find (finds.ReferenceCreation e)))) fault = fault
  opened_fault b tree (FollowToObject (follow.Follow (existing.Find (finds.PackedOpen e)))) fault = absurd fault
  opened_fault b tree (FollowToObject (follow.Follow (existing.Find finds.ReadFileContents))) fault = fault
  opened_fault b tree (FollowToObject (follow.Follow (existing.Find finds.Memory))) fault = fault
  opened_fault b tree (FollowToObject follow.Cycle) fault = fault
  opened_fault b tree (FollowToObject follow.DepthLimitExceeded) fault = fault
  opened_fault b tree (FollowToObject follow.Memory) fault = fault
  opened_fault b tree (Find e) fault = fault
  opened_fault b tree (NotFound oid) fault = fault
  opened_fault b tree Memory fault = fault

-- the result is the same with packed references that were opened
pub opened_peels : (b : Base) (tree : Tree) (one other : List ℕ → RefState) (table : Table) (r : Reference) (result : Result ObjectId Error) (P : (List ℕ → RefState) → ObjectId → Type 0) → one ≡ other
    → MatchResult result (P one) (PeelFault IsGiven one table r) → MatchResult result (P other) (PeelFault (CantOpen b tree) other table r)
opened_peels b tree one other table r (Ok id) P same told = subst (λ read. P read id) same told
opened_peels b tree one other table r (Err error) P same told = opened_fault other table r b tree error (subst (λ read. PeelFault IsGiven read table r error) same told)
