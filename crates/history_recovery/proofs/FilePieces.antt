-- Files that are read in pieces.
use Rattle.std.proofs.Common.{◌≡◌, ℕ, zero, suc, ◌+◌, [], ◌∷◌, ◌++◌, length, take, drop, refl, sym, ◌∙◌, ap, arith, length-take, length-drop, Option, Some, None}
use Rattle.std.specs.Prelude.{option_map, unwrap_or}
use Rattle.std.proofs.lemmas.List.{take_at}
use Rattle.gix_ref_file.specs.Tree.{overwritten, part}
use Rattle.history_model.specs.Bytes.{Bytes}

-- ---- a piece of a file

none_there : (bytes : Bytes) (at most : ℕ) → length bytes ≡ 0 → 0 ≡ length (part bytes at most)
none_there bytes at most none = omega (arith, none, length-take most (drop at bytes), length-drop at bytes)

pub counted : (o : Option Bytes) (at most : ℕ) → unwrap_or (option_map (λ bytes. length (part bytes at most)) o) 0 ≡ length (part (unwrap_or o []) at most)
counted None at most = none_there [] at most refl
counted (Some bytes) at most = refl

-- a buffer of so many bytes that was filled at its beginning, without the bytes after that
pub piece_filled : (text : Bytes) (at room all count : ℕ) (buffer read rest piece : Bytes) → piece ≡ take count (take all (read ++ rest)) → read ≡ overwritten buffer (part text at (length buffer)) → length read ≡ all
    → count ≡ length (part text at (length buffer)) → length buffer ≡ room → piece ≡ part text at room
piece_filled text at room all count buffer read rest piece is filled long told size =
    is ∙ ap (take count) (take_at read rest all long ∙ filled)
    ∙ take_at (part text at (length buffer)) (drop (length (part text at (length buffer))) buffer) count (sym told)
    ∙ ap (part text at) size

-- ---- more of a file's first bytes

take_none : (n : ℕ) → ◌≡◌ {A = Bytes} (take n []) []
take_none zero = refl
take_none (suc n) = refl

pub take_more : (n m : ℕ) (text : Bytes) → take (n + m) text ≡ take n text ++ part text n m
take_more zero m text = ap (λ n. take n text) (let same : 0 + m ≡ m = omega arith in same)
take_more (suc n) m [] = take_none (suc n + m) ∙ sym (take_none m)
take_more (suc n) m (b ∷ text) = ap (λ n. take n (b ∷ text)) (let same : suc n + m ≡ suc (n + m) = omega arith in same) ∙ ap (λ t. b ∷ t) (take_more n m text)
