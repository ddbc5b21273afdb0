-- What a prefix names among ids in lists by their first bytes.
use Rattle.std.proofs.Common.{◌≡◌, ℕ, zero, suc, ◌+◌, ◌-◌, ◌<◌, ◌≤◌, Bool, true, false, cond, List, [], ◌∷◌, ◌++◌, length, take, refl, sym, ◌∙◌, ap, subst, ◌||◌, arith, inl, inr, bytes_eq}
use Rattle.std.specs.Prelude.{Vec}
use Rattle.std.specs.declared.alloc.Global.{Global}
use Rattle.std.specs.declared.cmp.Ordering.TheVariants.{Less, Greater}
use Rattle.std.specs.FinMap.{contains_key, len, len-insert}
use Rattle.std.specs.FinMap.Entries.{below_all}
use Rattle.std.specs.List.{All, list_all, slice_index_or}
use Rattle.std.specs.Ordering.{is_eq, is_gt, ordering_then}
use Rattle.std.proofs.lemmas.Bool.{and_parts, cases_lt, eqb-true}
use Rattle.std.proofs.lemmas.List.Recursion.{and_at}
use Rattle.gix_hash.specs.Id.{Id, id_of, digits_of}
use Rattle.gix_hash.specs.Kind.{hex_len, kind_number}
use Rattle.gix_hash.specs.Order.{digits_cmp, id_eq}
use Rattle.gix_hash.specs.OrderLaws.{id_total, id_tied, kind_number-injective}
use Rattle.gix_hash.specs.declared.kind.Kind.{Kind}
use Rattle.gix_hash.specs.declared.object_id.ObjectId.{ObjectId}
use Rattle.gix_hash.specs.declared.object_id.ObjectId.TheVariants.{Sha1}
use Rattle.gix_hash.proofs.Compared.{cmp_greater}
use Rattle.gix_hash.specs.Beginnings.{IsBeginningOf}
use Rattle.gix_hash.specs.Run.{HasEnoughDigits, IsAscending, IsMatchingRun}
use Rattle.gix_ref_file.proofs.Below.{when_lt}
use Rattle.history_model.specs.Bytes.{Bytes}
use Rattle.history_model.specs.Objects.{by_id}
use Rattle.history_model.proofs.IdLemmas.{one_id, id_itself}
use Rattle.history_store.specs.Ids.{are_lists, belongs_to, is_list_of, is_whole, joined, marked, set_of, AreOfKind}
use Rattle.history_texts.specs.IdLists.{is_one_of}
use Rattle.history_store.specs.Prefixes.{IsHit, IsHitOfRun, IsMatch}
use Rattle.history_store.specs.declared.prefixes.Hit.{Hit}
use Rattle.history_store.specs.declared.prefixes.Hit.TheVariants.{Absent, One, Several}
use Rattle.history_store.proofs.IdLists.{default_beyond, list_at, no_list, none_among, own_list, told_byte, Begins}
use Rattle.history_store.proofs.IdOrder.{before_in_kind}
use Rattle.history_store.proofs.IdSets.{by_own_id, contains-set_of, one_of_both, AreInOrder}

-- ---- a list that ascends

below_at : (x : ObjectId) (ids : List ObjectId) → below_all by_id (id_of x) (marked ids) ≡ true → (j : ℕ) (d : ObjectId) → j < length ids → by_own_id x (slice_index_or ids j d) ≡ Less
below_at x [] h j d within = absurd (omega (arith, within))
below_at x (y ∷ ids) h zero d within = when_lt (by_own_id x y) (and_parts _ _ h).0
below_at x (y ∷ ids) h (suc j) d within = below_at x ids (and_parts _ _ h).1 j d (omega (arith, within))

pub rises : (ids : List ObjectId) → AreInOrder ids → (i j : ℕ) (d : ObjectId) → i < j → j < length ids → by_own_id (slice_index_or ids i d) (slice_index_or ids j d) ≡ Less
rises [] order i j d lt within = absurd (omega (arith, within))
rises (x ∷ ids) order i zero d lt within = absurd (omega (arith, lt))
rises (x ∷ ids) order zero (suc j) d lt within = below_at x ids (and_parts _ _ order).0 j d (omega (arith, within))
rises (x ∷ ids) order (suc i) (suc j) d lt within = rises ids (and_parts _ _ order).1 i j d (omega (arith, lt)) (omega (arith, within))

-- the kind of what comes later is no smaller
rank : ObjectId → ℕ
rank x = kind_number (id_of x).kind

no_smaller : (x y : ObjectId) → by_own_id x y ≡ Less → rank x ≤ rank y
unfolding rank
no_smaller x y is = elim (cases_lt (kind_number (id_of y).kind) (kind_number (id_of x).kind)) [
  | inl under ↦
      let greater : by_own_id x y ≡ Greater = ap (λ r. ordering_then r (digits_cmp (id_of x).digits (id_of y).digits)) (cmp_greater (kind_number (id_of x).kind) (kind_number (id_of y).kind) under) in
      absurd (cc (greater, is))
  | inr over ↦ omega (arith, over)
]

rank_told : (x : ObjectId) (kind : Kind) → (id_of x).kind ≡ kind → rank x ≡ kind_number kind
unfolding rank
rank_told x kind is = ap kind_number is

told_by_rank : (x : ObjectId) (kind : Kind) → rank x ≡ kind_number kind → (id_of x).kind ≡ kind
unfolding rank
told_by_rank x kind is = kind_number-injective (id_of x).kind kind is

-- what belongs to a byte has the digits of its kind
whole_from : (byte : ℕ) (x : ObjectId) → belongs_to byte x ≡ true → length (id_of x).digits ≡ hex_len (id_of x).kind
whole_from byte x h = eqb-true (length (id_of x).digits) (hex_len (id_of x).kind) (and_parts (bytes_eq (take 2 (id_of x).digits) (digits_of (byte ∷ []))) (is_whole x) h).1

module _ (ids : List ObjectId) (order : AreInOrder ids) (kind : Kind) where
  up : (i j : ℕ) (d : ObjectId) → i ≤ j → j < length ids → rank (slice_index_or ids i d) ≤ rank (slice_index_or ids j d)
  up i j d le within = elim (cases_lt i j) [
    | inl lt ↦ no_smaller (slice_index_or ids i d) (slice_index_or ids j d) (rises ids order i j d lt within)
    | inr over ↦
        let same : i ≡ j = omega (arith, le, over) in
        let here : rank (slice_index_or ids i d) ≡ rank (slice_index_or ids j d) = ap (λ n. rank (slice_index_or ids n d)) same in
        omega (arith, here)
  ]

  -- if the first and the last are of one kind, all are
  pub between : (first last : ObjectId) → first ≡ slice_index_or ids 0 first → last ≡ slice_index_or ids (length ids - 1) last → (id_of first).kind ≡ kind → (id_of last).kind ≡ kind → All (λ id. (id_of id).kind ≡ kind) ids
  between first last at_first at_last is_first is_last = λ k d within.
      let some : 0 < length ids = omega (arith, within) in
      let top : length ids - 1 < length ids = omega (arith, within) in
      let low : rank (slice_index_or ids 0 d) ≡ kind_number kind = ap rank (default_beyond ids 0 d first some ∙ sym at_first) ∙ rank_told first kind is_first in
      let high : rank (slice_index_or ids (length ids - 1) d) ≡ kind_number kind = ap rank (default_beyond ids (length ids - 1) d last top ∙ sym at_last) ∙ rank_told last kind is_last in
      let above = up 0 k d (omega arith) within in
      let under = up k (length ids - 1) d (omega (arith, within)) top in
      told_by_rank (slice_index_or ids k d) kind (omega (arith, low, high, above, under))

  pub ascends : All (λ id. (id_of id).kind ≡ kind) ids → IsAscending ids
  ascends all = λ i j d lt within.
      let one : (id_of (slice_index_or ids i d)).kind ≡ (id_of (slice_index_or ids j d)).kind = all i d (omega (arith, lt, within)) ∙ sym (all j d within) in
      ap is_gt (before_in_kind (slice_index_or ids i d) (slice_index_or ids j d) (rises ids order i j d lt within) one)

  pub has_digits : (byte : ℕ) (prefix : Id) → list_all (belongs_to byte) ids ≡ true → length prefix.digits ≤ hex_len kind → All (λ id. (id_of id).kind ≡ kind) ids → HasEnoughDigits ids prefix
  has_digits byte prefix belong fits all = λ k d within.
      let x = slice_index_or ids k d in
      let whole : length (id_of x).digits ≡ hex_len (id_of x).kind = whole_from byte x (and_at (list_all (belongs_to byte)) (belongs_to byte) refl (λ _ _. refl) ids k d within belong) in
      let same : hex_len (id_of x).kind ≡ hex_len kind = ap hex_len (all k d within) in
      omega (arith, fits, whole, same)

-- ---- first digits

pub first_two : (front rest : Bytes) → 4 ≤ length front → take 2 (front ++ rest) ≡ take 2 front
first_two [] rest long = absurd (omega (arith, long))
first_two (a ∷ []) rest long = absurd (omega (arith, long))
first_two (a ∷ b ∷ front) rest long = refl

pub begins_alike : (byte : ℕ) (prefix q : Id) → Begins prefix byte → 4 ≤ length prefix.digits → IsBeginningOf prefix.digits q.digits → Begins q byte
begins_alike byte prefix q begins long front = begins ∙ sym (ap (take 2) front.1 ∙ first_two prefix.digits front.0 long)

-- ---- places in a list

pub place_of : (ids : List ObjectId) (q : Id) → is_one_of ids q ≡ true → (k : ℕ) × (k < length ids) × ((d : ObjectId) → q ≡ id_of (slice_index_or ids k d))
place_of [] q among = absurd (cc among)
place_of (x ∷ ids) q among = by_test (id_eq q (id_of x)) refl among (place_of ids q)
  where
    by_test : (b : Bool) → id_eq q (id_of x) ≡ b → (b || is_one_of ids q) ≡ true → (is_one_of ids q ≡ true → (k : ℕ) × (k < length ids) × ((d : ObjectId) → q ≡ id_of (slice_index_or ids k d)))
        → (k : ℕ) × (k < length (x ∷ ids)) × ((d : ObjectId) → q ≡ id_of (slice_index_or (x ∷ ids) k d))
    by_test true same among more = (0, omega arith, λ d. one_id q (id_of x) same)
    by_test false other among more =
        let rest = more among in
        let within : rest.0 < length ids = rest.1 in
        (suc rest.0, omega (arith, within), rest.2)

pub one_at : (ids : List ObjectId) (k : ℕ) (d : ObjectId) → k < length ids → is_one_of ids (id_of (slice_index_or ids k d)) ≡ true
one_at [] k d within = absurd (omega (arith, within))
one_at (x ∷ ids) zero d within = ap (λ b. b || is_one_of ids (id_of x)) (id_itself (id_of x))
one_at (x ∷ ids) (suc k) d within =
    ap (λ b. id_eq (id_of (slice_index_or ids k d)) (id_of x) || b) (one_at ids k d (omega (arith, within))) ∙ or_true (id_eq (id_of (slice_index_or ids k d)) (id_of x))
  where
    or_true : (b : Bool) → (b || true) ≡ true
    or_true true = refl
    or_true false = refl

-- ---- the list of a prefix's first two digits

-- if that list is missing, no id begins with the prefix
pub none_named : (lists : List (Vec ObjectId Global)) → are_lists 0 lists ≡ true → (byte : ℕ) → length lists ≤ byte → (prefix : Id) → Begins prefix byte → 4 ≤ length prefix.digits → IsHit (set_of (joined lists)) prefix Absent
none_named lists are byte beyond prefix begins long = λ id found.
    cc (sym (contains-set_of (joined lists) id) ∙ found.known, no_list lists are byte beyond id (begins_alike byte prefix id begins long found.begins))

module _ (lists : List (Vec ObjectId Global)) (are : are_lists 0 lists ≡ true) (byte : ℕ) (list : Vec ObjectId Global) (within : byte < length lists) (is : list ≡ slice_index_or lists byte list) (ids : List ObjectId) (same : ids ≡ list.items) where
  own_ids : ids ≡ (slice_index_or lists byte list).items
  own_ids = same ∙ ap (λ (l : Vec ObjectId Global). l.items) is

  pub of_byte : is_list_of byte ids ≡ true
  of_byte = subst (λ xs. is_list_of byte xs ≡ true) (sym own_ids) (list_at lists are byte list within)

  pub in_order : AreInOrder ids
  in_order = (and_parts _ _ of_byte).1

  -- an id that begins so is in the set exactly if it is in the list
  told : (q : Id) → Begins q byte → contains_key (set_of (joined lists)) q ≡ is_one_of ids q
  told q begins = contains-set_of (joined lists) q ∙ own_list lists are byte list within q begins ∙ ap (λ xs. is_one_of xs q) (sym own_ids)

  begins_at : (k : ℕ) (d : ObjectId) → k < length ids → Begins (id_of (slice_index_or ids k d)) byte
  begins_at k d inside = sym (told_byte byte (slice_index_or ids k d) (and_at (list_all (belongs_to byte)) (belongs_to byte) refl (λ _ _. refl) ids k d inside (and_parts _ _ of_byte).0))

  known_at : (k : ℕ) (d : ObjectId) → k < length ids → contains_key (set_of (joined lists)) (id_of (slice_index_or ids k d)) ≡ true
  known_at k d inside = told (id_of (slice_index_or ids k d)) (begins_at k d inside) ∙ one_at ids k d inside

  -- the ids of the list are of the kind that all are of
  pub kinds_told : (kind : Kind) → AreOfKind kind (set_of (joined lists)) → All (λ id. (id_of id).kind ≡ kind) ids
  kinds_told kind all = λ k d inside. all (id_of (slice_index_or ids k d)) (known_at k d inside)

  module _ (prefix : Id) (begins : Begins prefix byte) (long : 4 ≤ length prefix.digits) (first past : ℕ) (matches : IsMatchingRun ids prefix first past) (fits : past ≤ length ids) where
    -- a match is in the run
    placed : (id : Id) → IsMatch (set_of (joined lists)) prefix id → (k : ℕ) × (first ≤ k) × (k < past) × ((d : ObjectId) → id ≡ id_of (slice_index_or ids k d))
    placed id found =
        let at = place_of ids id (sym (told id (begins_alike byte prefix id begins long found.begins)) ∙ found.known) in
        let x = slice_index_or ids at.0 (Sha1 []) in
        let run = (matches at.0 x at.1 (default_beyond ids at.0 x (Sha1 []) at.1)).0 (subst (λ (i : Id). IsBeginningOf prefix.digits i.digits) (at.2 (Sha1 [])) found.begins) in
        (at.0, run.0, run.1, at.2)

    -- what is in the run is a match
    match_at : (k : ℕ) (d : ObjectId) → first ≤ k → k < past → IsMatch (set_of (joined lists)) prefix (id_of (slice_index_or ids k d))
    match_at k d from to =
        let inside : k < length ids = omega (arith, to, fits) in
        let x = slice_index_or ids k d in
        record { known = known_at k d inside; begins = (matches k x inside (default_beyond ids k x d inside)).1 (from, to) }

    pub hit_told : (hit : Hit) → IsHitOfRun ids first past hit → IsHit (set_of (joined lists)) prefix hit
    hit_told Absent empty = λ id found.
        let at = placed id found in
        let from = at.1 in
        let to = at.2 in
        omega (arith, empty, from, to)
    hit_told (One only) (one, at) =
        let to : first < past = omega (arith, one) in (
          subst (λ (x : ObjectId). IsMatch (set_of (joined lists)) prefix (id_of x)) at (match_at first only (omega arith) to),
          λ id found.
              let place = placed id found in
              let from = place.1 in
              let under = place.2 in
              let here : place.0 ≡ first = omega (arith, one, from, under) in
              place.3 only ∙ ap (λ n. id_of (slice_index_or ids n only)) here ∙ ap id_of at,
        )
    hit_told Several two =
        let d = Sha1 [] in (
          id_of (slice_index_or ids first d),
          id_of (slice_index_or ids (first + 1) d),
          record {
            one_matches = match_at first d (omega arith) (omega (arith, two));
            other_matches = match_at (first + 1) d (omega arith) (omega (arith, two));
            differ = λ one.
                let less = rises ids in_order first (first + 1) d (omega arith) (omega (arith, two, fits)) in
                apart (id_of (slice_index_or ids first d)) (id_of (slice_index_or ids (first + 1) d)) one less;
          },
        )
      where
        apart : (a b : Id) → a ≡ b → by_id a b ≡ Less → ⊥
        apart a b one less =
            let itself : by_id a a ≡ Less = ap (by_id a) one ∙ less in
            let back = id_total.antisymm a a in
            absurd (cc (itself, back))

-- ---- how many ids there are

len_more : (x : ObjectId) (ids : List ObjectId) → len (set_of ids) ≤ len (set_of (x ∷ ids))
len_more x ids = by_test (contains_key (set_of ids) (id_of x)) (len-insert id_total (set_of ids) (id_of x) tt)
  where
    by_test : (b : Bool) → len (set_of (x ∷ ids)) ≡ cond b (len (set_of ids)) (len (set_of ids) + 1) → len (set_of ids) ≤ len (set_of (x ∷ ids))
    by_test true is = omega (arith, is)
    by_test false is = omega (arith, is)

len_behind : (xs ys : List ObjectId) → len (set_of ys) ≤ len (set_of (xs ++ ys))
len_behind [] ys = omega arith
len_behind (x ∷ xs) ys =
    let rest = len_behind xs ys in
    let one = len_more x (xs ++ ys) in
    omega (arith, rest, one)

new_here : (x : ObjectId) (ids : List ObjectId) → below_all by_id (id_of x) (marked ids) ≡ true → is_one_of ids (id_of x) ≡ false
new_here x [] h = refl
new_here x (y ∷ ids) h =
    let less : by_own_id x y ≡ Less = when_lt (by_own_id x y) (and_parts _ _ h).0 in
    let other : id_eq (id_of x) (id_of y) ≡ false = id_tied (id_of x) (id_of y) ∙ ap is_eq less in
    λ i. other i || new_here x ids (and_parts _ _ h).1 i

-- a list that ascends has no id twice
own_len : (xs ys : List ObjectId) → AreInOrder xs → ((k : ℕ) (d : ObjectId) → k < length xs → is_one_of ys (id_of (slice_index_or xs k d)) ≡ false) → length xs ≤ len (set_of (xs ++ ys))
own_len [] ys order apart = omega arith
own_len (x ∷ xs) ys order apart =
    let rest : length xs ≤ len (set_of (xs ++ ys)) = own_len xs ys (and_parts _ _ order).1 (λ k d within. apart (suc k) d (omega (arith, within))) in
    let fresh : contains_key (set_of (xs ++ ys)) (id_of x) ≡ false =
    contains-set_of (xs ++ ys) (id_of x) ∙ one_of_both xs ys (id_of x) ∙ (λ i. new_here x xs (and_parts _ _ order).0 i || apart 0 x (omega arith) i) in
    let more : len (set_of ((x ∷ xs) ++ ys)) ≡ len (set_of (xs ++ ys)) + 1 =
    len-insert id_total (set_of (xs ++ ys)) (id_of x) tt ∙ ap (λ b. cond b (len (set_of (xs ++ ys))) (len (set_of (xs ++ ys)) + 1)) fresh in
    omega (arith, rest, more)

list_fits : (first : ℕ) (lists : List (Vec ObjectId Global)) → are_lists first lists ≡ true → (place : ℕ) (d : Vec ObjectId Global) → place < length lists → length (slice_index_or lists place d).items ≤ len (set_of (joined lists))
list_fits first [] are place d within = absurd (omega (arith, within))
list_fits first (l ∷ ls) are zero d within =
    own_len l.items (joined ls) (and_parts _ _ (and_parts _ _ are).0).1 (λ k x inside.
    none_among (suc first) ls (and_parts _ _ are).1 first (id_of (slice_index_or l.items k x))
    (sym (told_byte first (slice_index_or l.items k x) (and_at (list_all (belongs_to first)) (belongs_to first) refl (λ _ _. refl) l.items k x inside (and_parts _ _ (and_parts _ _ are).0).0)))
    (λ j lt one. absurd (omega (arith, one))))
list_fits first (l ∷ ls) are (suc place) d within =
    let rest : length (slice_index_or ls place d).items ≤ len (set_of (joined ls)) = list_fits (suc first) ls (and_parts _ _ are).1 place d (omega (arith, within)) in
    let behind = len_behind l.items (joined ls) in
    omega (arith, rest, behind)

-- one list has no more ids than there are
pub no_more : (lists : List (Vec ObjectId Global)) → are_lists 0 lists ≡ true → (byte : ℕ) (list : Vec ObjectId Global) → byte < length lists → list ≡ slice_index_or lists byte list → (ids : List ObjectId) → ids ≡ list.items → length ids ≤ len (set_of (joined lists))
no_more lists are byte list within is ids same =
    let rest = list_fits 0 lists are byte list within in
    let here : length ids ≡ length (slice_index_or lists byte list).items = ap length (same ∙ ap (λ (l : Vec ObjectId Global). l.items) is) in
    omega (arith, rest, here)
