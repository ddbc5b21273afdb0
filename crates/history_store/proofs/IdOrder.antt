-- Lists of ids by their first bytes, read one after another, ascend.
use Rattle.std.proofs.Common.{◌≡◌, ℕ, suc, ◌/◌, ◌%◌, ◌<◌, true, List, [], ◌∷◌, ◌++◌, take, sym, ◌∙◌, ap, nat_cmp, arith}
use Rattle.std.specs.Prelude.{Vec}
use Rattle.std.specs.declared.alloc.Global.{Global}
use Rattle.std.specs.List.{AllByRecursion, list_all}
use Rattle.std.specs.Ordering.{ordering_then}
use Rattle.std.specs.declared.cmp.Ordering.TheVariants.{Less, Equal}
use Rattle.std.specs.FinMap.Entries.{below_all}
use Rattle.std.proofs.lemmas.Bool.Decides.{nat_tests}
use Rattle.gix_hash.specs.Kind.{kind_number}
use Rattle.gix_hash.specs.Id.{id_of}
use Rattle.gix_hash.specs.Order.{digits_cmp}
use Rattle.gix_hash.specs.declared.object_id.ObjectId.{ObjectId}
use Rattle.history_model.specs.Bytes.{Bytes}
use Rattle.history_model.specs.Objects.{by_id}
use Rattle.history_store.specs.Ids.{are_lists, belongs_to, joined, marked, ComesBefore, IsAscending}
use Rattle.history_store.proofs.IdSets.{by_own_id, AreInOrder}
use Rattle.history_store.proofs.IdLists.{told_byte}
use Rattle.std.proofs.lemmas.Bool.{and_parts}
use Rattle.gix_ref_file.proofs.Below.{when_lt}

-- ---- within one list

same_number : (n : ℕ) → nat_cmp n n ≡ Equal
same_number n = grind (arith, nat_tests)

pub before_in_kind : (x y : ObjectId) → by_own_id x y ≡ Less → ComesBefore x y
before_in_kind x y is one_kind =
    sym (ap (λ r. ordering_then r (digits_cmp (id_of x).digits (id_of y).digits)) (ap (λ k. nat_cmp (kind_number (id_of x).kind) (kind_number k)) (sym one_kind) ∙ same_number (kind_number (id_of x).kind))) ∙ is

all_before : (x : ObjectId) (ys : List ObjectId) → below_all by_id (id_of x) (marked ys) ≡ true → AllByRecursion (ComesBefore x) ys
all_before x [] h = tt
all_before x (y ∷ ys) h = (before_in_kind x y (when_lt (by_own_id x y) (and_parts _ _ h).0), all_before x ys (and_parts _ _ h).1)

-- ---- across lists

-- the id begins with a byte that is greater than this one
abbrev BeginsLater : ℕ → ObjectId → Type 0
BeginsLater byte y = (later : ℕ) × (byte < later) × (belongs_to later y ≡ true)

abbrev rest_of : Bytes → Bytes
rest_of (a ∷ b ∷ rest) = rest
rest_of (a ∷ []) = []
rest_of [] = []

two_first : (digits : Bytes) (a b : ℕ) → take 2 digits ≡ a ∷ b ∷ [] → digits ≡ a ∷ b ∷ rest_of digits
two_first [] a b is = absurd (cc is)
two_first (x ∷ []) a b is = absurd (cc is)
two_first (x ∷ y ∷ rest) a b is = ap (λ front. front ++ rest) is

earlier : (m n : ℕ) (xs ys : Bytes) → m < n → digits_cmp (m / 16 ∷ m % 16 ∷ xs) (n / 16 ∷ n % 16 ∷ ys) ≡ Less
earlier m n xs ys lt = grind (arith, nat_tests)

before_later : (byte : ℕ) (x y : ObjectId) → belongs_to byte x ≡ true → BeginsLater byte y → ComesBefore x y
before_later byte x y begins (later, lt, theirs) _ =
    (λ i. digits_cmp (two_first (id_of x).digits (byte / 16) (byte % 16) (told_byte byte x begins) i) (two_first (id_of y).digits (later / 16) (later % 16) (told_byte later y theirs) i))
    ∙ earlier byte later (rest_of (id_of x).digits) (rest_of (id_of y).digits) lt

all_later : (byte : ℕ) (x : ObjectId) (ys : List ObjectId) → belongs_to byte x ≡ true → AllByRecursion (BeginsLater byte) ys → AllByRecursion (ComesBefore x) ys
all_later byte x [] begins later = tt
all_later byte x (y ∷ ys) begins later = (before_later byte x y begins later.0, all_later byte x ys begins later.1)

module _ {X : Type 0} (P : X → Type 0) where
  all_joined : (xs ys : List X) → AllByRecursion P xs → AllByRecursion P ys → AllByRecursion P (xs ++ ys)
  all_joined [] ys here there = there
  all_joined (x ∷ xs) ys here there = (here.0, all_joined xs ys here.1 there)

of_list : (byte first : ℕ) (xs : List ObjectId) → byte < first → list_all (belongs_to first) xs ≡ true → AllByRecursion (BeginsLater byte) xs
of_list byte first [] lt all = tt
of_list byte first (x ∷ xs) lt all = ((first, lt, (and_parts _ _ all).0), of_list byte first xs lt (and_parts _ _ all).1)

of_lists : (byte first : ℕ) (lists : List (Vec ObjectId Global)) → byte < first → are_lists first lists ≡ true → AllByRecursion (BeginsLater byte) (joined lists)
of_lists byte first [] lt are = tt
of_lists byte first (l ∷ ls) lt are =
    all_joined (BeginsLater byte) l.items (joined ls) (of_list byte first l.items lt (and_parts _ _ (and_parts _ _ are).0).0) (of_lists byte (suc first) ls (omega (arith, lt)) (and_parts _ _ are).1)

then_ascends : (byte : ℕ) (xs ys : List ObjectId) → list_all (belongs_to byte) xs ≡ true → AreInOrder xs → AllByRecursion (BeginsLater byte) ys → IsAscending ys → IsAscending (xs ++ ys)
then_ascends byte [] ys all order later ascend = ascend
then_ascends byte (x ∷ xs) ys all order later ascend = (
  all_joined (ComesBefore x) xs ys (all_before x xs (and_parts _ _ order).0) (all_later byte x ys (and_parts _ _ all).0 later),
  then_ascends byte xs ys (and_parts _ _ all).1 (and_parts _ _ order).1 later ascend,
)

pub joined_ascends : (first : ℕ) (lists : List (Vec ObjectId Global)) → are_lists first lists ≡ true → IsAscending (joined lists)
joined_ascends first [] are = tt
joined_ascends first (l ∷ ls) are =
    then_ascends first l.items (joined ls) (and_parts _ _ (and_parts _ _ are).0).0 (and_parts _ _ (and_parts _ _ are).0).1 (of_lists first (suc first) ls (omega arith) (and_parts _ _ are).1) (joined_ascends (suc first) ls (and_parts _ _ are).1)
