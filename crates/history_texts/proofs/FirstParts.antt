-- What is above a path whose first part ends at a slash.
use Rattle.std.proofs.Common.{◌≡◌, ◌≢◌, ◌⊎◌, inl, inr, refl, sym, ◌∙◌, ap, ℕ, true, false, [], ◌∷◌, ◌++◌}
use Rattle.std.specs.Prelude.{◌==◌}
use Rattle.std.proofs.lemmas.Bool.{or_parts}
use Rattle.history_model.specs.Bytes.{Bytes, has_byte}

head_same : (x y : ℕ) (s t : Bytes) → x ∷ s ≡ y ∷ t → x ≡ y
head_same x y s t e = cc

tail_same : (x y : ℕ) (s t : Bytes) → x ∷ s ≡ y ∷ t → s ≡ t
tail_same x y s t e = cc

abbrev pub Behind : Bytes → Bytes → Bytes → Bytes → Type 0
Behind front back place rest = (place ≡ front) ⊎ ((inner : Bytes) × (place ≡ front ++ 47 ∷ inner) × (back ≡ inner ++ 47 ∷ rest))

behind_more : (f x : ℕ) (front back place rest : Bytes) → x ≡ f → Behind front back place rest → Behind (f ∷ front) back (x ∷ place) rest
behind_more f x front back place rest same (inl is) = inl (λ i. same i ∷ is i)
behind_more f x front back place rest same (inr (inner, is, left)) = inr (inner, (λ i. same i ∷ is i), left)

pub behind : (front back place rest : Bytes) → has_byte 47 front ≡ false → front ++ 47 ∷ back ≡ place ++ 47 ∷ rest → Behind front back place rest
behind [] back [] rest clear is = inl refl
behind [] back (x ∷ place) rest clear is = inr (place, ap (λ b. b ∷ place) (sym (head_same 47 x back (place ++ 47 ∷ rest) is)), tail_same 47 x back (place ++ 47 ∷ rest) is)
behind (f ∷ front) back [] rest clear is =
    let no_slash : (f == 47) ≡ false = (or_parts (f == 47) (has_byte 47 front) clear).0 in
    let slash : (f == 47) ≡ true = ap (λ b. b == 47) (head_same f 47 (front ++ 47 ∷ back) rest is) in
    let wrong : true ≡ false = sym slash ∙ no_slash in
    absurd (cc wrong)
behind (f ∷ front) back (x ∷ place) rest clear is =
    behind_more f x front back place rest (sym (head_same f x (front ++ 47 ∷ back) (place ++ 47 ∷ rest) is))
    (behind front back place rest (or_parts (f == 47) (has_byte 47 front) clear).1 (tail_same f x (front ++ 47 ∷ back) (place ++ 47 ∷ rest) is))

pub none_above : (path place rest : Bytes) → has_byte 47 path ≡ false → path ≢ place ++ 47 ∷ rest
none_above [] [] rest clear is = cc
none_above [] (x ∷ place) rest clear is = cc
none_above (p ∷ path) [] rest clear is =
    let no_slash : (p == 47) ≡ false = (or_parts (p == 47) (has_byte 47 path) clear).0 in
    let slash : (p == 47) ≡ true = ap (λ b. b == 47) (head_same p 47 path rest is) in
    let wrong : true ≡ false = sym slash ∙ no_slash in
    absurd (cc wrong)
none_above (p ∷ path) (x ∷ place) rest clear is = none_above path place rest (or_parts (p == 47) (has_byte 47 path) clear).1 (tail_same p x path (place ++ 47 ∷ rest) is)
