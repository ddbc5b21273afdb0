use Rattle.std.specs.Prelude.{ℕ, suc, Bool, true, false, not, ◌&&◌, ◌||◌, List, [], ◌∷◌, ◌++◌, Option, Some, None, ℤ, nat_lt}
use Rattle.std.specs.List.{list_any, list_all}
use Rattle.std.specs.Int.Signed.{le_z, lt_z}
use Rattle.std.specs.Ordering.{int_eq}

-- at each place one that is fit, and that comes before the others that are fit then
abbrev pub check_chosen : {I : Type 0} → (List I → I → Bool) → (List I → I → I → Bool) → List I
    → List I → Bool
check_chosen fit comes before [] = true
check_chosen fit comes before (x ∷ rest) =
    fit before x
    &&
    (list_all (λ y. not (fit before y) || comes before x y) rest
    && check_chosen fit comes (before ++ x ∷ []) rest)

abbrev pub is_open : {I : Type 0} → (I → I → Bool) → (I → List I) → List I → List I → I → Bool
is_open eq along tips before x =
    list_any (eq x) tips || list_any (λ c. list_any (eq x) (along c)) before

-- zs are the members of the set
abbrev pub is_ready : {I : Type 0} → (I → I → Bool) → (I → List I) → List I → List I → I → Bool
is_ready eq along zs before x =
    list_all (λ c. not (list_any (eq x) (along c)) || list_any (eq c) before) zs

abbrev pub newest_first : {I : Type 0} → (I → ℤ) → List I → I → I → Bool
newest_first time before x y = le_z (time y) (time x)

abbrev pub oldest_first : {I : Type 0} → (I → ℤ) → List I → I → I → Bool
oldest_first time before x y = le_z (time x) (time y)

abbrev pub after_index : Bool → Option ℕ → Option ℕ
after_index here (Some i) = Some (suc i)
after_index true None = Some 0
after_index false None = None

-- the last place of x
abbrev pub last_index : {I : Type 0} → (I → I → Bool) → I → List I → Option ℕ
last_index eq x [] = None
last_index eq x (y ∷ ys) = after_index (eq x y) (last_index eq x ys)

abbrev pub after_name : Option ℕ → Option (ℕ × ℕ) → Option (ℕ × ℕ)
after_name here (Some n) = Some (suc n.0, n.1)
after_name (Some i) None = Some (0, i)
after_name None None = None

-- the place of the last child, and the last index there
abbrev pub last_name : {I : Type 0} → (I → I → Bool) → (I → List I) → I → List I → Option (ℕ × ℕ)
last_name eq along x [] = None
last_name eq along x (c ∷ cs) = after_name (last_index eq x (along c)) (last_name eq along x cs)

abbrev pub here_or : Bool → ℕ → ℕ
here_or true i = 0
here_or false i = suc i

-- the first place of x, or the length
abbrev pub first_index : {I : Type 0} → (I → I → Bool) → I → List I → ℕ
first_index eq x [] = 0
first_index eq x (y ∷ ys) = here_or (eq x y) (first_index eq x ys)

abbrev pub outranks_by : Option (ℕ × ℕ) → Option (ℕ × ℕ) → Bool → Bool
outranks_by (Some a) (Some b) loose = nat_lt b.0 a.0 || (not (nat_lt a.0 b.0) && nat_lt b.1 a.1)
outranks_by (Some a) None loose = true
outranks_by None (Some b) loose = false
outranks_by None None loose = loose

-- of two without a child: the newer, and of one time the tip that was given later
abbrev pub outranks_alone : {I : Type 0} → (I → I → Bool) → List I → (I → ℤ) → I → I → Bool
outranks_alone eq tips time x y =
    lt_z (time y) (time x)
    ||
    (int_eq (time y) (time x)
    &&
    (list_any (eq x) tips
    && (list_any (eq y) tips && nat_lt (first_index eq y tips) (first_index eq x tips))))

abbrev pub outranks : {I : Type 0} → (I → I → Bool) → (I → List I) → List I → (I → ℤ) → List I → I
    → I → Bool
outranks eq along tips time before x y =
    outranks_by (last_name eq along x before) (last_name eq along y before)
    (outranks_alone eq tips time x y)
