-- The run of the ids that a prefix begins, in a list of ids that ascends.
use Rattle.std.specs.Prelude.{ℕ, ◌≡◌, ◌<◌, ◌≤◌, ◌↔◌, ◌*◌, ◌^◌, List, length, take, false, Bool, AllPairs, All}
use Rattle.std.specs.List.{slice_index_or}
use Rattle.std.specs.declared.cmp.Ordering.{Ordering}
use Rattle.std.specs.declared.cmp.Ordering.TheVariants.{Less, Equal, Greater}
use Rattle.std.specs.Ordering.{is_gt, is_ge}
use Rattle.gix_hash.specs.declared.run.Edge.{Edge}
use Rattle.gix_hash.specs.declared.run.Edge.TheVariants.{First, Past}
use Rattle.gix_hash.specs.declared.object_id.ObjectId.{ObjectId}
use Rattle.gix_hash.specs.Id.{Id, id_of}
use Rattle.gix_hash.specs.Order.{digits_cmp}
use Rattle.gix_hash.specs.Beginnings.{IsBeginningOf}

-- the ids ascend by their digits; equal ones may follow each other
abbrev pub IsAscending : List ObjectId → Type 0
IsAscending ids =
    AllPairs
    (λ (a b : ObjectId). is_gt (digits_cmp (id_of a).digits (id_of b).digits) ≡ false) ids

-- each id has at least as many digits as the prefix
abbrev pub HasEnoughDigits : List ObjectId → Id → Type 0
HasEnoughDigits ids prefix =
    All (λ (id : ObjectId). length prefix.digits ≤ length (id_of id).digits) ids

-- the ids that the prefix begins are those from `first` on and before `past`
abbrev pub IsMatchingRun : List ObjectId → Id → ℕ → ℕ → Type 0
IsMatchingRun ids prefix first past =
    (i : ℕ) (id : ObjectId) → i < length ids → slice_index_or ids i id ≡ id
    → IsBeginningOf prefix.digits (id_of id).digits ↔ ((first ≤ i) × (i < past))

-- how the prefix compares with an id's first digits
abbrev pub against : Id → ObjectId → Ordering
against prefix id = digits_cmp prefix.digits (take (length prefix.digits) (id_of id).digits)

-- the prefix compares as greater before `first`, as equal from there up to `past`, and as less from
-- `past` on
pub record FallsAt (ids : List ObjectId) (prefix : Id) (first past : ℕ) : Type 0 where
  pub greater : (i : ℕ) (id : ObjectId) → i < first
      → against prefix (slice_index_or ids i id) ≡ Greater
  pub equal : (i : ℕ) (id : ObjectId) → first ≤ i → i < past
      → against prefix (slice_index_or ids i id) ≡ Equal
  pub less : (i : ℕ) (id : ObjectId) → past ≤ i → i < length ids
      → against prefix (slice_index_or ids i id) ≡ Less

-- the count is at most twice the number of binary digits of n: n has at most k exactly if n is
-- below 2 ^ k
abbrev pub IsWithinTwiceDigits : ℕ → ℕ → Type 0
IsWithinTwiceDigits count n = (k : ℕ) → n < 2 ^ k → count ≤ 2 * k

-- an id that compares so is before the edge
abbrev pub comes_before : Edge → Ordering → Bool
comes_before First order = is_gt order
comes_before Past order = is_ge order
