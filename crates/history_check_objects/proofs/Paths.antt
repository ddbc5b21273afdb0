-- The components of a path.
use Rattle.std.proofs.Common.{◌≡◌, Bool, true, false, cond, List, [], ◌∷◌, ◌++◌, refl, sym, ◌∙◌, ap, ◌==◌}
use Rattle.std.specs.List.{onto_first}
use Rattle.history_model.specs.Bytes.{Bytes, has_byte}
use Rattle.history_model.specs.FileMap.{components}
use Rattle.std.proofs.lemmas.Bool.{or_parts}

some_parts : (path : Bytes) → (c : Bytes) × (cs : List Bytes) × (components path ≡ c ∷ cs)
some_parts [] = ([], [], refl)
some_parts (b ∷ path) = go (b == 47) (some_parts path)
  where
    go : (t : Bool) → ((c : Bytes) × (cs : List Bytes) × (components path ≡ c ∷ cs))
        → (c : Bytes) × (cs : List Bytes) × (cond t ([] ∷ components path) (onto_first b (components path)) ≡ c ∷ cs)
    go true rest = ([], components path, refl)
    go false (c, cs, e) = (b ∷ c, cs, ap (onto_first b) e)

-- a path without a slash is its one component
pub one_part : (path : Bytes) → has_byte 47 path ≡ false → components path ≡ path ∷ []
one_part [] h = refl
one_part (b ∷ path) h =
    let parts = or_parts (b == 47) (has_byte 47 path) h in
    ap (λ t. cond t ([] ∷ components path) (onto_first b (components path))) parts.0 ∙ ap (onto_first b) (one_part path parts.1)

-- the components of a path below a folder
pub parts_below : (folder rest : Bytes) → components (folder ++ 47 ∷ rest) ≡ components folder ++ components rest
parts_below [] rest = refl
parts_below (b ∷ folder) rest = go (b == 47) (parts_below folder rest) (some_parts folder)
  where
    go : (t : Bool) → components (folder ++ 47 ∷ rest) ≡ components folder ++ components rest → ((c : Bytes) × (cs : List Bytes) × (components folder ≡ c ∷ cs))
        → cond t ([] ∷ components (folder ++ 47 ∷ rest)) (onto_first b (components (folder ++ 47 ∷ rest))) ≡ cond t ([] ∷ components folder) (onto_first b (components folder)) ++ components rest
    go true e some = ap (λ ps. [] ∷ ps) e
    go false e (c, cs, f) =
        ap (onto_first b) (e ∙ ap (λ ps. ps ++ components rest) f)
        ∙ sym (ap (λ ps. onto_first b ps ++ components rest) f)
