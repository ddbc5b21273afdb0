-- The texts of replies, part by part.
use Rattle.std.proofs.Common.{◌≡◌, ℕ, ◌+◌, ◌<◌, List, [], ◌∷◌, ◌++◌, length, map, take, get_or, ap, sym, ◌∙◌, append_assoc}
use Rattle.std.proofs.lemmas.List.{append-nil, flat_map_more, map_more}
use Rattle.std.proofs.lemmas.List.Concat.{flat_map-append}
use Rattle.history_model.specs.Bytes.{Bytes}
use Rattle.history_model.specs.Spelling.{Part, Line, part_text, parts_text}

-- a line of the same words
pub same_line : (words others : List Bytes) (old new : Bytes) → new ≡ old ++ part_text (Line words) → words ≡ others → new ≡ old ++ part_text (Line others)
same_line words others old new is same = is ∙ ap (λ ws. old ++ part_text (Line ws)) same

-- one part more, of one item more
pub one_more : {X : Type 0} (f : X → Part) (xs : List X) (i : ℕ) (d : X) (old text new : Bytes) → i < length xs → text ≡ old ++ parts_text (map f (take i xs)) → new ≡ text ++ part_text (f (get_or xs i d)) → new ≡ old ++ parts_text (map f (take (i + 1) xs))
one_more f xs i d old text new h is_text is_new =
    is_new ∙ ap (λ t. t ++ part_text (f (get_or xs i d))) is_text ∙ flat_map_more part_text old (map f (take i xs)) (f (get_or xs i d)) ∙ ap (λ ps. old ++ parts_text ps) (sym (map_more f xs i d h))

-- three lines, the parts of three lists, and two more
pub pieces : (a b c m n : Part) (ps qs rs : List Part) (t0 t1 t2 t3 t4 t5 t6 t7 t8 : Bytes) → t0 ≡ [] → t1 ≡ t0 ++ part_text a → t2 ≡ t1 ++ part_text b → t3 ≡ t2 ++ part_text c → t4 ≡ t3 ++ parts_text ps → t5 ≡ t4 ++ parts_text qs → t6 ≡ t5 ++ parts_text rs → t7 ≡ t6 ++ part_text m → t8 ≡ t7 ++ part_text n
    → t8 ≡ parts_text (a ∷ b ∷ c ∷ ps ++ qs ++ rs ++ m ∷ n ∷ [])
pieces a b c m n ps qs rs t0 t1 t2 t3 t4 t5 t6 t7 t8 e0 e1 e2 e3 e4 e5 e6 e7 e8 =
    let start : t1 ≡ part_text a = e1 ∙ ap (λ t. t ++ part_text a) e0 in
    let text : t8 ≡ ((((((part_text a ++ part_text b) ++ part_text c) ++ parts_text ps) ++ parts_text qs) ++ parts_text rs) ++ part_text m) ++ part_text n = cc in
    let shape : ((((((part_text a ++ part_text b) ++ part_text c) ++ parts_text ps) ++ parts_text qs) ++ parts_text rs) ++ part_text m) ++ part_text n
    ≡ ((part_text a ++ (part_text b ++ (part_text c ++ parts_text ps)) ++ parts_text qs) ++ parts_text rs) ++ (part_text m ++ (part_text n ++ [])) = simp (append_assoc, append-nil) in
    let front = flat_map-append part_text (a ∷ b ∷ c ∷ ps) qs in
    let middle = flat_map-append part_text (a ∷ b ∷ c ∷ ps ++ qs) rs ∙ ap (λ t. t ++ parts_text rs) front in
    text ∙ shape ∙ sym (flat_map-append part_text (a ∷ b ∷ c ∷ ps ++ qs ++ rs) (m ∷ n ∷ []) ∙ ap (λ t. t ++ parts_text (m ∷ n ∷ [])) middle)
