-- Lists of ids by their first bytes.
use Rattle.std.proofs.Common.{◌≡◌, ◌≢◌, ℕ, zero, suc, ◌+◌, ◌/◌, ◌%◌, ◌<◌, ◌≤◌, Bool, true, false, List, [], ◌∷◌, ◌++◌, length, take, refl, sym, ◌∙◌, ap, subst, ◌||◌, ◌&&◌, if◌then◌else◌, arith, eq-eqb}
use Rattle.std.specs.Prelude.{Vec}
use Rattle.std.specs.declared.alloc.Global.{Global}
use Rattle.std.specs.List.{list_all, insert, slice_index, slice_index_or, slice_set}
use Rattle.std.proofs.lemmas.Slice.Eq.{bytes_eq-Decides}
use Rattle.gix_hash.specs.Id.{Id, id_of, digits_of}
use Rattle.gix_hash.specs.Kind.{hex_len}
use Rattle.gix_hash.specs.Order.{id_eq}
use Rattle.gix_hash.specs.Views.{IsBytesOf}
use Rattle.gix_hash.proofs.ByteLists.{id-digits_len}
use Rattle.gix_hash.proofs.KindLemmas.{hex_len-byte_len}
use Rattle.gix_hash.specs.declared.object_id.ObjectId.{ObjectId}
use Rattle.history_model.proofs.IdLemmas.{one_id}
use Rattle.std.specs.Prelude.{Result, Ok, Err, is_ok}
use Rattle.std.specs.FinMap.{contains_key}
use Rattle.std.specs.List.Sorted.{IsBinarySearchResult, IsNonDecreasingBy, IsSearchInRange}
use Rattle.std.specs.Ordering.{ordering_index}
use Rattle.history_store.specs.Ids.{are_lists, belongs_to, is_list_of, is_whole, joined, set_of, with_id}
use Rattle.history_texts.specs.IdLists.{is_one_of}
use Rattle.history_store.proofs.IdSets.{by_own_id, contains-set_of, has_with, insert_in_order, none_here, one_here, one_of_both, one_of_insert, one_set, or_false, or_group, or_swap, rising, AreInOrder, BelongsAt}
use Rattle.std.proofs.lemmas.Bool.{and_from, and_parts}

-- ---- first bytes

abbrev pub Begins : Id → ℕ → Type 0
Begins id byte = digits_of (byte ∷ []) ≡ take 2 id.digits

-- two digits are those of one byte
pub one_byte : (a b : ℕ) → digits_of (a ∷ []) ≡ digits_of (b ∷ []) → a ≡ b
one_byte a b same =
    let high : a / 16 ≡ b / 16 = ap (λ ds. slice_index ds 0) same in
    let low : a % 16 ≡ b % 16 = ap (λ ds. slice_index ds 1) same in
    omega (arith, high, low)

pub told_byte : (byte : ℕ) (x : ObjectId) → belongs_to byte x ≡ true → take 2 (id_of x).digits ≡ digits_of (byte ∷ [])
told_byte byte x h = (bytes_eq-Decides (take 2 (id_of x).digits) (digits_of (byte ∷ []))).0 (and_parts _ _ h).0

pub belongs_told : (byte : ℕ) (x : ObjectId) → Begins (id_of x) byte → is_whole x ≡ true → belongs_to byte x ≡ true
belongs_told byte x h whole = and_from _ _ ((bytes_eq-Decides (take 2 (id_of x).digits) (digits_of (byte ∷ []))).1 (sym h)) whole

pub whole_told : (x : ObjectId) (bytes : List ℕ) → IsBytesOf bytes (id_of x) → is_whole x ≡ true
whole_told x bytes are =
    let digits = id-digits_len (id_of x) bytes are in
    let two = hex_len-byte_len (id_of x).kind in
    eq-eqb (length (id_of x).digits) (hex_len (id_of x).kind) (omega (arith, digits, two))

-- an id is in no list of another byte
apart : (byte other : ℕ) (xs : List ObjectId) (q : Id) → list_all (belongs_to other) xs ≡ true → Begins q byte → byte ≢ other → is_one_of xs q ≡ false
apart byte other [] q all begins differ = refl
apart byte other (x ∷ xs) q all begins differ =
    let rest = apart byte other xs q (and_parts _ _ all).1 begins differ in
    by_test (id_eq q (id_of x)) refl rest
  where
    by_test : (b : Bool) → id_eq q (id_of x) ≡ b → is_one_of xs q ≡ false → (b || is_one_of xs q) ≡ false
    by_test true same rest = absurd (differ (one_byte byte other (begins ∙ ap (λ (id : Id). take 2 id.digits) (one_id q (id_of x) same) ∙ told_byte other x (and_parts _ _ all).0)))
    by_test false same rest = rest

pub none_among : (first : ℕ) (lists : List (Vec ObjectId Global)) → are_lists first lists ≡ true → (byte : ℕ) (q : Id) → Begins q byte → ((k : ℕ) → k < length lists → byte ≢ first + k) → is_one_of (joined lists) q ≡ false
none_among first [] are byte q begins other = refl
none_among first (l ∷ ls) are byte q begins other =
    let here = apart byte first l.items q (and_parts _ _ (and_parts _ _ are).0).0 begins (λ same. other 0 (omega arith) (omega (arith, same))) in
    let rest = none_among (suc first) ls (and_parts _ _ are).1 byte q begins (λ k lt same. other (suc k) (omega (arith, lt)) (omega (arith, same))) in
    one_of_both l.items (joined ls) q ∙ (λ i. here i || rest i)

-- what the lists keep of an id is what its own list keeps
own_from : (first : ℕ) (lists : List (Vec ObjectId Global)) → are_lists first lists ≡ true → (place : ℕ) (d : Vec ObjectId Global) → place < length lists → (q : Id) → Begins q (first + place)
    → is_one_of (joined lists) q ≡ is_one_of (slice_index_or lists place d).items q
own_from first [] are place d within q begins = absurd (omega (arith, within))
own_from first (l ∷ ls) are zero d within q begins =
    let rest = none_among (suc first) ls (and_parts _ _ are).1 (first + 0) q begins (λ k lt same. absurd (omega (arith, same))) in
    one_of_both l.items (joined ls) q ∙ ap (λ b. is_one_of l.items q || b) rest ∙ or_false (is_one_of l.items q)
own_from first (l ∷ ls) are (suc place) d within q begins =
    let here = apart (first + suc place) first l.items q (and_parts _ _ (and_parts _ _ are).0).0 begins (λ same. absurd (omega (arith, same))) in
    let moved : first + suc place ≡ suc first + place = omega arith in
    one_of_both l.items (joined ls) q ∙ ap (λ b. b || is_one_of (joined ls) q) here ∙ own_from (suc first) ls (and_parts _ _ are).1 place d (omega (arith, within)) q (subst (Begins q) moved begins)

pub own_list : (lists : List (Vec ObjectId Global)) → are_lists 0 lists ≡ true → (byte : ℕ) (d : Vec ObjectId Global) → byte < length lists → (q : Id) → Begins q byte
    → is_one_of (joined lists) q ≡ is_one_of (slice_index_or lists byte d).items q
own_list lists are byte d within q begins =
    let same : byte ≡ 0 + byte = omega arith in
    own_from 0 lists are byte d within q (subst (Begins q) same begins)

pub no_list : (lists : List (Vec ObjectId Global)) → are_lists 0 lists ≡ true → (byte : ℕ) → length lists ≤ byte → (q : Id) → Begins q byte → is_one_of (joined lists) q ≡ false
no_list lists are byte beyond q begins = none_among 0 lists are byte q begins (λ k lt same. omega (arith, lt, same, beyond))

-- ---- one list is replaced

pub default_beyond : {X : Type 0} (xs : List X) (place : ℕ) (c d : X) → place < length xs → slice_index_or xs place c ≡ slice_index_or xs place d
default_beyond [] place c d within = absurd (omega (arith, within))
default_beyond (x ∷ xs) zero c d within = refl
default_beyond (x ∷ xs) (suc place) c d within = default_beyond xs place c d (omega (arith, within))

list_at_from : (first : ℕ) (lists : List (Vec ObjectId Global)) → are_lists first lists ≡ true → (place : ℕ) (d : Vec ObjectId Global) → place < length lists → is_list_of (first + place) (slice_index_or lists place d).items ≡ true
list_at_from first [] are place d within = absurd (omega (arith, within))
list_at_from first (l ∷ ls) are zero d within =
    let moved : first ≡ first + 0 = omega arith in
    subst (λ n. is_list_of n l.items ≡ true) moved (and_parts _ _ are).0
list_at_from first (l ∷ ls) are (suc place) d within =
    let moved : suc first + place ≡ first + suc place = omega arith in
    subst (λ n. is_list_of n (slice_index_or ls place d).items ≡ true) moved (list_at_from (suc first) ls (and_parts _ _ are).1 place d (omega (arith, within)))

pub list_at : (lists : List (Vec ObjectId Global)) → are_lists 0 lists ≡ true → (byte : ℕ) (d : Vec ObjectId Global) → byte < length lists → is_list_of byte (slice_index_or lists byte d).items ≡ true
list_at lists are byte d within =
    let same : 0 + byte ≡ byte = omega arith in
    subst (λ n. is_list_of n (slice_index_or lists byte d).items ≡ true) same (list_at_from 0 lists are byte d within)

set_from : (first : ℕ) (lists : List (Vec ObjectId Global)) → are_lists first lists ≡ true → (place : ℕ) (new : Vec ObjectId Global) → is_list_of (first + place) new.items ≡ true → are_lists first (slice_set lists place new) ≡ true
set_from first [] are place new is = are
set_from first (l ∷ ls) are zero new is =
    let moved : first + 0 ≡ first = omega arith in
    and_from _ _ (subst (λ n. is_list_of n new.items ≡ true) moved is) (and_parts _ _ are).1
set_from first (l ∷ ls) are (suc place) new is =
    let moved : first + suc place ≡ suc first + place = omega arith in
    and_from _ _ (and_parts _ _ are).0 (set_from (suc first) ls (and_parts _ _ are).1 place new (subst (λ n. is_list_of n new.items ≡ true) moved is))

pub set_list : (lists : List (Vec ObjectId Global)) → are_lists 0 lists ≡ true → (byte : ℕ) (new : Vec ObjectId Global) → is_list_of byte new.items ≡ true → are_lists 0 (slice_set lists byte new) ≡ true
set_list lists are byte new is =
    let same : byte ≡ 0 + byte = omega arith in
    set_from 0 lists are byte new (subst (λ n. is_list_of n new.items ≡ true) same is)

-- a list of the same ids
pub joined_same : (lists : List (Vec ObjectId Global)) (place : ℕ) (new : Vec ObjectId Global) → ((d : Vec ObjectId Global) → new.items ≡ (slice_index_or lists place d).items) → joined (slice_set lists place new) ≡ joined lists
joined_same [] place new same = refl
joined_same (l ∷ ls) zero new same = ap (λ xs. xs ++ joined ls) (same l)
joined_same (l ∷ ls) (suc place) new same = ap (λ xs. l.items ++ xs) (joined_same ls place new same)

-- a list with one id more
pub joined_more : (lists : List (Vec ObjectId Global)) (place : ℕ) (new : Vec ObjectId Global) (x : ObjectId) (q : Id) → place < length lists
    → ((d : Vec ObjectId Global) → is_one_of new.items q ≡ (id_eq q (id_of x) || is_one_of (slice_index_or lists place d).items q))
    → is_one_of (joined (slice_set lists place new)) q ≡ (id_eq q (id_of x) || is_one_of (joined lists) q)
joined_more [] place new x q within more = absurd (omega (arith, within))
joined_more (l ∷ ls) zero new x q within more =
    one_of_both new.items (joined ls) q ∙ ap (λ b. b || is_one_of (joined ls) q) (more l)
    ∙ or_group (id_eq q (id_of x)) (is_one_of l.items q) (is_one_of (joined ls) q)
    ∙ ap (λ b. id_eq q (id_of x) || b) (sym (one_of_both l.items (joined ls) q))
joined_more (l ∷ ls) (suc place) new x q within more =
    one_of_both l.items (joined (slice_set ls place new)) q
    ∙ ap (λ b. is_one_of l.items q || b) (joined_more ls place new x q (omega (arith, within)) more)
    ∙ or_swap (is_one_of l.items q) (id_eq q (id_of x)) (is_one_of (joined ls) q)
    ∙ ap (λ b. id_eq q (id_of x) || b) (sym (one_of_both l.items (joined ls) q))

-- one empty list more
pub joined_longer : (lists : List (Vec ObjectId Global)) (new : Vec ObjectId Global) → new.items ≡ [] → joined (lists ++ new ∷ []) ≡ joined lists
joined_longer [] new none = ap (λ xs. xs ++ []) none
joined_longer (l ∷ ls) new none = ap (λ xs. l.items ++ xs) (joined_longer ls new none)

longer_from : (first : ℕ) (lists : List (Vec ObjectId Global)) → are_lists first lists ≡ true → (new : Vec ObjectId Global) → new.items ≡ [] → are_lists first (lists ++ new ∷ []) ≡ true
longer_from first [] are new none = ap (λ xs. is_list_of first xs && true) none
longer_from first (l ∷ ls) are new none = and_from _ _ (and_parts _ _ are).0 (longer_from (suc first) ls (and_parts _ _ are).1 new none)

pub longer : (lists : List (Vec ObjectId Global)) → are_lists 0 lists ≡ true → (new : Vec ObjectId Global) → new.items ≡ [] → are_lists 0 (lists ++ new ∷ []) ≡ true
longer lists are new none = longer_from 0 lists are new none

pub longer_or_same : (lists : List (Vec ObjectId Global)) → are_lists 0 lists ≡ true → (new : Vec ObjectId Global) → new.items ≡ [] → (longer_now : Bool) (after : List (Vec ObjectId Global))
    → after ≡ (if longer_now then lists ++ new ∷ [] else lists) → (are_lists 0 after ≡ true) × (joined after ≡ joined lists)
longer_or_same lists are new none true after is = (ap (are_lists 0) is ∙ longer lists are new none, ap joined is ∙ joined_longer lists new none)
longer_or_same lists are new none false after is = (ap (are_lists 0) is ∙ are, ap joined is)

-- an inserted id begins as the others
pub all_insert : (p : ObjectId → Bool) (xs : List ObjectId) (place : ℕ) (x : ObjectId) → list_all p xs ≡ true → p x ≡ true → list_all p (insert xs place x) ≡ true
all_insert p xs zero x all one = λ i. one i && all i
all_insert p [] (suc place) x all one = λ i. one i && true
all_insert p (y ∷ xs) (suc place) x all one = and_from _ _ (and_parts _ _ all).0 (all_insert p xs place x (and_parts _ _ all).1 one)

-- ---- a search in the id's own list

pub found : (ids : List ObjectId) (id : ObjectId) (r : Result ℕ ℕ) → AreInOrder ids → IsSearchInRange r (length ids) → IsBinarySearchResult (λ y. by_own_id y id) ids r → is_ok r ≡ is_one_of ids (id_of id)
found ids id (Ok place) order within at = sym (one_here ids place id within at)
found ids id (Err place) order within parts = sym (none_here ids place id (parts (rising ids id order)))

module _ (lists : List (Vec ObjectId Global)) (are : are_lists 0 lists ≡ true) (id : ObjectId) (byte : ℕ) (begins : Begins (id_of id) byte) (list : Vec ObjectId Global) (within : byte < length lists)
    (is : list ≡ slice_index_or lists byte list) (ids : List ObjectId) (same : ids ≡ list.items) where
  own_ids : ids ≡ (slice_index_or lists byte list).items
  own_ids = same ∙ ap (λ (l : Vec ObjectId Global). l.items) is

  of_byte : is_list_of byte ids ≡ true
  of_byte = subst (λ xs. is_list_of byte xs ≡ true) (sym own_ids) (list_at lists are byte list within)

  pub contains_found : (r : Result ℕ ℕ) → IsSearchInRange r (length ids) → IsBinarySearchResult (λ y. by_own_id y id) ids r → (b : Bool) → b ≡ is_ok r → b ≡ contains_key (set_of (joined lists)) (id_of id)
  contains_found r inside position b told =
      told ∙ found ids id r (and_parts _ _ of_byte).1 inside position ∙ ap (λ xs. is_one_of xs (id_of id)) own_ids
      ∙ sym (own_list lists are byte list within (id_of id) begins) ∙ sym (contains-set_of (joined lists) (id_of id))

  pub listed_again : (r : Result ℕ ℕ) → IsSearchInRange r (length ids) → IsBinarySearchResult (λ y. by_own_id y id) ids r → is_ok r ≡ true → (new : Vec ObjectId Global) → new ≡ list
      → set_of (joined (slice_set lists byte new)) ≡ with_id (set_of (joined lists)) (id_of id)
  listed_again r inside position ok new stays = one_set _ _ (λ q.
      ap (λ xs. contains_key (set_of xs) q) (joined_same lists byte new (λ d. ap (λ (l : Vec ObjectId Global). l.items) (stays ∙ is ∙ any_default d)))
      ∙ absorbed q (contains_found r inside position true (sym ok)) ∙ sym (has_with (set_of (joined lists)) (id_of id) q))
    where
      any_default : (d : Vec ObjectId Global) → slice_index_or lists byte list ≡ slice_index_or lists byte d
      any_default d = default_beyond lists byte list d within

      absorbed : (q : Id) → true ≡ contains_key (set_of (joined lists)) (id_of id) → contains_key (set_of (joined lists)) q ≡ (id_eq q (id_of id) || contains_key (set_of (joined lists)) q)
      absorbed q has = by_test (id_eq q (id_of id)) refl
        where
          by_test : (b : Bool) → id_eq q (id_of id) ≡ b → contains_key (set_of (joined lists)) q ≡ (b || contains_key (set_of (joined lists)) q)
          by_test true one = ap (contains_key (set_of (joined lists))) (one_id q (id_of id) one) ∙ sym has
          by_test false other = refl

  module _ (place : ℕ) (fits : place ≤ length ids) (told : IsNonDecreasingBy (λ y. ordering_index (by_own_id y id)) ids → BelongsAt ids place id) (new : Vec ObjectId Global) (put_in : new.items ≡ insert ids place id) where
    pub still_lists : is_whole id ≡ true → are_lists 0 (slice_set lists byte new) ≡ true
    still_lists whole = set_list lists are byte new (subst (λ xs. is_list_of byte xs ≡ true) (sym put_in)
        (and_from _ _ (all_insert (belongs_to byte) ids place id (and_parts _ _ of_byte).0 (belongs_told byte id begins whole)) (insert_in_order ids place id (and_parts _ _ of_byte).1 fits (told (rising ids id (and_parts _ _ of_byte).1)))))

    pub listed_new : set_of (joined (slice_set lists byte new)) ≡ with_id (set_of (joined lists)) (id_of id)
    listed_new = one_set _ _ (λ q.
        contains-set_of (joined (slice_set lists byte new)) q
        ∙ joined_more lists byte new id q within (λ d. ap (λ xs. is_one_of xs q) put_in ∙ one_of_insert ids place id q ∙ ap (λ xs. id_eq q (id_of id) || is_one_of xs q) (own_ids ∙ ap (λ (l : Vec ObjectId Global). l.items) (default_beyond lists byte list d within)))
        ∙ ap (λ b. id_eq q (id_of id) || b) (sym (contains-set_of (joined lists) q))
        ∙ sym (has_with (set_of (joined lists)) (id_of id) q))
