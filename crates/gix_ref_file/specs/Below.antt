-- Where the paths of a folder lie in the order of paths.
use Rattle.std.specs.Prelude.{◌≡◌, ◌<◌, ℕ, ⊤, List, [], ◌∷◌, ◌++◌, length, Vec}
use Rattle.std.specs.declared.alloc.Global.{Global}
use Rattle.std.specs.declared.ops.Bound.{Bound}
use Rattle.std.specs.declared.ops.Bound.TheVariants.{Included, Excluded, Unbounded}

-- where the paths below a folder begin: at `folder/`
abbrev pub IsStart : List ℕ → Bound (Vec ℕ Global) → Type 0
IsStart [] Unbounded = ⊤
IsStart (byte ∷ folder) (Included first) = first.items ≡ (byte ∷ folder) ++ 47 ∷ []
IsStart _ _ = ⊥

-- and where they end: before `folder0`, since `0` is the byte after `/`
abbrev pub IsEnd : List ℕ → Bound (Vec ℕ Global) → Type 0
IsEnd [] Unbounded = ⊤
IsEnd (byte ∷ folder) (Excluded next) = next.items ≡ (byte ∷ folder) ++ 48 ∷ []
IsEnd _ _ = ⊥

-- after a path, or after all of a folder that the path lies in and that is deeper than this one
abbrev pub IsBehind : List ℕ → List ℕ → Bound (Vec ℕ Global) → Type 0
IsBehind folder path (Excluded last) = last.items ≡ path
IsBehind folder path (Included next) =
    (sub : List ℕ) × (rest : List ℕ) × (path ≡ sub ++ 47 ∷ rest) × (next.items ≡ sub ++ 48 ∷ [])
    × (length folder < length sub)
IsBehind folder path Unbounded = ⊥
