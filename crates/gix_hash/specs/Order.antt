-- Equality and order of ids and of their beginnings: by kind, then the dictionary order of digits.
use Rattle.std.specs.Prelude.{ℕ, List, Bool, nat_eq}
use Rattle.std.specs.declared.cmp.Ordering.{Ordering}
use Rattle.std.specs.Cmp.Lexicographic.{pointwise, slice_cmp}
use Rattle.std.specs.Ordering.{nat_cmp, on, then_cmp, eq_of_both}
use Rattle.gix_hash.specs.Kind.{kind_number}
use Rattle.gix_hash.specs.Id.{Id}

-- the dictionary order of digits
abbrev pub digits_cmp : List ℕ → List ℕ → Ordering
digits_cmp xs ys = slice_cmp nat_cmp xs ys

-- one kind and the same digits
abbrev pub id_eq : Id → Id → Bool
id_eq =
    eq_of_both (on (λ (a : Id). kind_number a.kind) nat_eq)
    (on (λ (a : Id). a.digits) (pointwise nat_eq))

-- the kind decides, and in one kind the digits
abbrev pub id_cmp : Id → Id → Ordering
id_cmp =
    then_cmp (on (λ (a : Id). kind_number a.kind) nat_cmp) (on (λ (a : Id). a.digits) digits_cmp)
