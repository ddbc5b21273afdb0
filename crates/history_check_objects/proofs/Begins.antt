-- Where a survey begins, and how its calls go on.
use Rattle.std.proofs.Common.{◌≡◌, ℕ, ◌+◌, ◌<◌, ◌≤◌, ◌⊎◌, Bool, true, false, cond, ◌||◌, List, [], ◌∷◌, ◌++◌, length, reverse, refl, sym, ◌∙◌, ap, subst, arith, inl, inr, Some, None, get_or, option_map, take}
use Rattle.std.specs.Prelude.{Contains, option_and_then, ◌/◌, ◌%◌}
use Rattle.std.specs.BTreeMap as maps
use Rattle.std.specs.BTreeSet as sets
use Rattle.std.specs.FinMap.{empty, get, get-empty}
use Rattle.std.specs.Map.{lookup}
use Rattle.std.proofs.lemmas.List.{reverse-append}
use Rattle.gix_hash.specs.Id.{Id, digits_of, id_of}
use Rattle.gix_hash.specs.Order.{id_eq}
use Rattle.gix_hash.specs.OrderLaws.{id_tied}
use Rattle.std.specs.Ordering.{is_eq}
use Rattle.std.proofs.lemmas.List.Folds.{list_any-append}
use Rattle.gix_hash.specs.declared.kind.Kind.{Kind}
use Rattle.gix_hash.specs.declared.object_id.ObjectId.{ObjectId}
use Rattle.gix_hash.specs.declared.object_id.ObjectId.TheVariants.{Sha1, Sha256}
use Rattle.gix_hash.specs.declared.kind.Kind.TheVariants as digests
use Rattle.gix_ref_file.specs.Tree.{Tree}
use Rattle.history_model.specs.Objects.{Value, by_id as model_order}
use Rattle.history_model.proofs.FreshLemmas.{fresh_is_whole}
use Rattle.history_model.proofs.IdLemmas.{id_itself, one_id}
use Rattle.history_model.proofs.PartLemmas.{head_same, tail_same}
use Rattle.history_model.proofs.WholeLists.{In, clash, none_is_some, one_passes, passes_one}
use Rattle.history_model.proofs.WholeSteps.{contains_in, in_contains}
use Rattle.history_texts.specs.IdLists.{is_one_of}
use Rattle.history_check_objects.specs.Opened.{AreInTree}
use Rattle.history_check_objects.specs.Stored.{target_of}
use Rattle.history_check_objects.specs.Surveyed.{is_open}
use Rattle.history_check_objects.specs.Surveying.{AreListed, IsAmong, Stands, Unmet, by_id}
use Rattle.history_check_objects.proofs.Steps.{take_more, take_whole}
use Rattle.history_check_objects.specs.declared.stored.Done.{Done}
use Rattle.history_check_objects.specs.declared.stored.Stored.{Stored}
use Rattle.history_check_objects.specs.declared.order.Frame.{Frame}

-- ---- ids and what they are of

bytes_told : (xs ys : List ℕ) → digits_of xs ≡ digits_of ys → xs ≡ ys
bytes_told [] [] same = refl
bytes_told [] (y ∷ ys) same = cc
bytes_told (x ∷ xs) [] same = cc
bytes_told (x ∷ xs) (y ∷ ys) same =
    let high : x / 16 ≡ y / 16 = head_same same in
    let low : x % 16 ≡ y % 16 = head_same (tail_same same) in
    λ i. one_byte x y high low i ∷ bytes_told xs ys (tail_same (tail_same same)) i
  where
    one_byte : (x y : ℕ) → x / 16 ≡ y / 16 → x % 16 ≡ y % 16 → x ≡ y
    one_byte x y high low = omega (arith, high, low)

pub one_object : (a b : ObjectId) → id_of a ≡ id_of b → a ≡ b
one_object (Sha1 xs) (Sha1 ys) same = ap Sha1 (bytes_told xs ys (ap (λ (q : Id). q.digits) same))
one_object (Sha1 xs) (Sha256 ys) same = kinds_differ (ap (λ (q : Id). q.kind) same)
  where
    kinds_differ : {A : Type 0} → digests.Sha1 ≡ digests.Sha256 → A
    kinds_differ e = cc
one_object (Sha256 xs) (Sha1 ys) same = kinds_differ (ap (λ (q : Id). q.kind) same)
  where
    kinds_differ : {A : Type 0} → digests.Sha256 ≡ digests.Sha1 → A
    kinds_differ e = cc
one_object (Sha256 xs) (Sha256 ys) same = ap Sha256 (bytes_told xs ys (ap (λ (q : Id). q.digits) same))

-- ---- the beginning

-- nothing is stored
nothing : {A : Type 0} (id : Id) (v : Value) → get (empty {X = Value} {R = model_order}) id ≡ Some v → A
nothing id v at = none_is_some v (sym (get-empty model_order id) ∙ at)

empty_in_tree : (kind : Kind) (tree : Tree) → AreInTree kind tree empty
empty_in_tree kind tree = record {
  sound = record { whole = (fresh_is_whole kind).store; written = λ id v at. nothing id v at };
  texts = λ id v at. nothing id v at;
}

-- all listed objects are to come
pub begun : (kind : Kind) (tree : Tree) (ids : List ObjectId) (unmet : Unmet) (done : Stored) → AreListed kind tree ids → ((id : ObjectId) → sets.contains by_id unmet id ≡ is_one_of ids (id_of id)) → done.done.entries ≡ []
    → done.tags.entries ≡ [] → Stands kind tree ids unmet done [] None
begun kind tree ids unmet done listed all none untagged = record {
  values = empty;
  in_tree = empty_in_tree kind tree;
  listed = listed;
  known = λ id v at. nothing id v at;
  dones = λ id d at. none_is_some d (sym (ap (λ (es : List (ObjectId × Done)). lookup (maps.is_at (by_id id)) es) none) ∙ at);
  tags = λ id. ap (λ (es : List (ObjectId × ObjectId)). option_map id_of (lookup (maps.is_at (by_id id)) es)) untagged ∙ sym (ap (option_and_then target_of) (get-empty model_order (id_of id)));
  open_ones = tt;
  read = λ id among. absurd among;
  to_come = λ id h. (is_listed id (sym (all id) ∙ h), get-empty model_order (id_of id), tt);
  each = λ id has. inl (all id ∙ passes_one (λ (other : ObjectId). id_eq (id_of id) (id_of other)) ids id (contains_in ids id has) (id_itself (id_of id)));
  next = λ id e. none_is_some id e;
}
  where
    is_listed : (id : ObjectId) → is_one_of ids (id_of id) ≡ true → Contains ids id
    is_listed id h =
        let one = one_passes (λ (other : ObjectId). id_eq (id_of id) (id_of other)) ids h in
        in_contains ids id (subst (λ (x : ObjectId). In x ids) (sym (one_object id one.0 (one_id (id_of id) (id_of one.0) one.2))) one.1)

-- ---- what is open

pub open_last : (frames : List Frame) (frame : Frame) → reverse (frames ++ frame ∷ []) ≡ frame ∷ reverse frames
open_last frames frame = reverse-append frames (frame ∷ [])

among_both : (id : Id) (xs ys : List Frame) → IsAmong id (xs ++ ys) → IsAmong id xs ⊎ IsAmong id ys
among_both id [] ys among = inr among
among_both id (x ∷ xs) ys (inl e) = inl (inl e)
among_both id (x ∷ xs) ys (inr among) = elim (among_both id xs ys among) [ inl a ↦ inl (inr a) | inr b ↦ inr b ]

among_left : (id : Id) (xs ys : List Frame) → IsAmong id xs → IsAmong id (xs ++ ys)
among_left id [] ys among = absurd among
among_left id (x ∷ xs) ys (inl e) = inl e
among_left id (x ∷ xs) ys (inr among) = inr (among_left id xs ys among)

among_right : (id : Id) (xs ys : List Frame) → IsAmong id ys → IsAmong id (xs ++ ys)
among_right id [] ys among = among
among_right id (x ∷ xs) ys among = inr (among_right id xs ys among)

reversed : (x : Frame) (xs : List Frame) → reverse (x ∷ xs) ≡ reverse xs ++ x ∷ []
reversed x xs = reverse-append (x ∷ []) xs

in_reversed : (f : Frame) (frames : List Frame) → In f frames → IsAmong (id_of f.id) (reverse frames)
in_reversed f [] i = absurd i
in_reversed f (x ∷ xs) (inl e) = subst (IsAmong (id_of f.id)) (sym (reversed x xs)) (among_right (id_of f.id) (reverse xs) (x ∷ []) (inl (ap (λ (g : Frame). id_of g.id) (sym e))))
in_reversed f (x ∷ xs) (inr i) = subst (IsAmong (id_of f.id)) (sym (reversed x xs)) (among_left (id_of f.id) (reverse xs) (x ∷ []) (in_reversed f xs i))

reversed_in : (id : Id) (frames : List Frame) → IsAmong id (reverse frames) → is_open frames id ≡ true
reversed_in id [] among = absurd among
reversed_in id (x ∷ xs) among = go (id_eq id (id_of x.id)) refl (among_both id (reverse xs) (x ∷ []) (subst (IsAmong id) (reversed x xs) among)) (λ there. reversed_in id xs there)
  where
    go : (b : Bool) → id_eq id (id_of x.id) ≡ b → IsAmong id (reverse xs) ⊎ IsAmong id (x ∷ []) → (IsAmong id (reverse xs) → is_open xs id ≡ true) → (b || is_open xs id) ≡ true
    go true e there rest = refl
    go false e (inl there) rest = rest there
    go false e (inr (inl same)) rest = clash (ap (id_eq id) same ∙ id_itself id) e
    go false e (inr (inr none)) rest = absurd none

pub told_open : (id : Id) (frames : List Frame) → is_open frames id ≡ true → IsAmong id (reverse frames)
told_open id frames h =
    let one = one_passes (λ (frame : Frame). id_eq id (id_of frame.id)) frames h in
    subst (λ q. IsAmong q (reverse frames)) (sym (one_id id (id_of (one.0).id) one.2)) (in_reversed one.0 frames one.1)

pub told_apart : (id : Id) (frames : List Frame) → is_open frames id ≡ false → IsAmong id (reverse frames) → ⊥
told_apart id frames h among = clash (reversed_in id frames among) h

-- ---- the ids that are to come

pub one_unmet : (unmet new : Unmet) (ids : List ObjectId) (i : ℕ) (d : ObjectId) → i < length ids → sets.Updates by_id unmet new (get_or ids i d) true
    → ((id : ObjectId) → sets.contains by_id unmet id ≡ is_one_of (take i ids) (id_of id)) → (id : ObjectId) → sets.contains by_id new id ≡ is_one_of (take (i + 1) ids) (id_of id)
one_unmet unmet new ids i d less updates before id =
    updates.0 id
    ∙ go (is_eq (by_id (get_or ids i d) id)) refl
    ∙ sym (list_any-append (λ (other : ObjectId). id_eq (id_of id) (id_of other)) (take i ids) (get_or ids i d ∷ []))
    ∙ ap (λ xs. is_one_of xs (id_of id)) (sym (take_more ids i d less))
  where
    tied : is_eq (by_id (get_or ids i d) id) ≡ id_eq (id_of id) (id_of (get_or ids i d))
    tied = sym (id_tied (id_of (get_or ids i d)) (id_of id)) ∙ turned (id_of (get_or ids i d)) (id_of id)
      where
        turned : (a b : Id) → id_eq a b ≡ id_eq b a
        turned a b = same_test (id_eq a b) (id_eq b a) (λ h. ap (λ q. id_eq q a) (sym (one_id a b h)) ∙ id_itself a) (λ h. ap (λ q. id_eq q b) (sym (one_id b a h)) ∙ id_itself b)
          where
            same_test : (x y : Bool) → (x ≡ true → y ≡ true) → (y ≡ true → x ≡ true) → x ≡ y
            same_test true y f g = sym (f refl)
            same_test false true f g = g refl
            same_test false false f g = refl

    go : (b : Bool) → is_eq (by_id (get_or ids i d) id) ≡ b → cond b true (sets.contains by_id unmet id) ≡ (is_one_of (take i ids) (id_of id) || is_one_of (get_or ids i d ∷ []) (id_of id))
    go true e = sym (ap (λ t. is_one_of (take i ids) (id_of id) || (t || false)) (sym tied ∙ e) ∙ or_right (is_one_of (take i ids) (id_of id)))
      where
        or_right : (a : Bool) → (a || (true || false)) ≡ true
        or_right true = refl
        or_right false = refl
    go false e = before id ∙ sym (ap (λ t. is_one_of (take i ids) (id_of id) || (t || false)) (sym tied ∙ e) ∙ or_none (is_one_of (take i ids) (id_of id)))
      where
        or_none : (a : Bool) → (a || (false || false)) ≡ a
        or_none true = refl
        or_none false = refl

pub all_unmet : (unmet : Unmet) (ids : List ObjectId) (i : ℕ) → length ids ≤ i → ((id : ObjectId) → sets.contains by_id unmet id ≡ is_one_of (take i ids) (id_of id)) → (id : ObjectId) → sets.contains by_id unmet id ≡ is_one_of ids (id_of id)
all_unmet unmet ids i whole before id = before id ∙ ap (λ xs. is_one_of xs (id_of id)) (take_whole ids i whole)
