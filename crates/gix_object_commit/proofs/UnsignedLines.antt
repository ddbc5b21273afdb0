-- Headers but signatures.
use Rattle.std.proofs.Common.{◌≡◌, ◌∙◌, ap, sym, subst, ℕ, true, false, cond, List, [], ◌∷◌, ◌++◌, ◌<◌, ◌+◌, suc, length, map, take, drop, get_or, arith}
use Rattle.std.specs.Prelude.{Option, Ok, Err, not}
use Rattle.std.proofs.lemmas.List.{map-append}
use Rattle.std.proofs.lemmas.List.Elements.{filter-append}
use Rattle.std.proofs.Math.Seq.{split_at, take-suc}
use Rattle.gix_object_lines.specs.declared.write.Error.{Error}
use Rattle.gix_object_commit.specs.OwnedText.{own_field}
use Rattle.gix_object_commit.specs.Signing.{is_signature, unsigned}
use Rattle.gix_object_commit.specs.Writing.{field_piece}
use Rattle.gix_object_lines.specs.Pieces.{Piece, WritesPieces}
use Rattle.gix_object_commit.specs.declared.header.ExtraHeader.{ExtraHeader}
use Rattle.gix_object_lines.proofs.Pieces.{pieces_then, pieces_stop}

abbrev pub unsigned_lines : List ExtraHeader → List Piece
unsigned_lines headers = map field_piece (map own_field (unsigned headers))

pub unsigned_append : (xs ys : List ExtraHeader) → unsigned (xs ++ ys) ≡ unsigned xs ++ unsigned ys
unsigned_append xs ys = filter-append (λ header. not (is_signature header)) xs ys

lines_append : (xs ys : List ExtraHeader) → unsigned_lines (xs ++ ys) ≡ unsigned_lines xs ++ unsigned_lines ys
lines_append xs ys =
    ap (λ hs. map field_piece (map own_field hs)) (unsigned_append xs ys)
    ∙ ap (map field_piece) (map-append own_field (unsigned xs) (unsigned ys))
    ∙ map-append field_piece (map own_field (unsigned xs)) (map own_field (unsigned ys))

-- ---- headers in a loop, after those before it

module _ (xs : List ExtraHeader) (i : ℕ) (d : ExtraHeader) (below : i < length xs) where
  more_here : unsigned_lines (take (i + 1) xs) ≡ unsigned_lines (take i xs) ++ unsigned_lines (get_or xs i d ∷ [])
  more_here =
      let next : i + 1 ≡ suc i = omega arith in
      ap (λ n. unsigned_lines (take n xs)) next ∙ ap unsigned_lines (take-suc xs i d below) ∙ lines_append (take i xs) (get_or xs i d ∷ [])

  cut_here : unsigned_lines xs ≡ unsigned_lines (take i xs) ++ (unsigned_lines (get_or xs i d ∷ []) ++ unsigned_lines (drop (suc i) xs))
  cut_here =
      ap unsigned_lines (split_at xs i d below)
      ∙ lines_append (take i xs) (get_or xs i d ∷ drop (suc i) xs)
      ∙ ap (λ ps. unsigned_lines (take i xs) ++ ps) (lines_append (get_or xs i d ∷ []) (drop (suc i) xs))

  first_here : unsigned xs ≡ unsigned (take i xs) ++ (unsigned (get_or xs i d ∷ []) ++ unsigned (drop (suc i) xs))
  first_here =
      ap unsigned (split_at xs i d below)
      ∙ unsigned_append (take i xs) (get_or xs i d ∷ drop (suc i) xs)
      ∙ ap (λ hs. unsigned (take i xs) ++ hs) (unsigned_append (get_or xs i d ∷ []) (drop (suc i) xs))

  -- the first header that is no signature
  pub first_unsigned : unsigned (take i xs) ≡ [] → is_signature (get_or xs i d) ≡ false → unsigned xs ≡ get_or xs i d ∷ unsigned (drop (suc i) xs)
  first_unsigned none is =
      first_here
      ∙ ap (λ hs. hs ++ (unsigned (get_or xs i d ∷ []) ++ unsigned (drop (suc i) xs))) none
      ∙ ap (λ b. cond (not b) (get_or xs i d ∷ []) [] ++ unsigned (drop (suc i) xs)) is

  pub none_unsigned : unsigned (take i xs) ≡ [] → is_signature (get_or xs i d) ≡ true → unsigned (take (i + 1) xs) ≡ []
  none_unsigned none is =
      let next : i + 1 ≡ suc i = omega arith in
      ap (λ n. unsigned (take n xs)) next
      ∙ ap unsigned (take-suc xs i d below)
      ∙ unsigned_append (take i xs) (get_or xs i d ∷ [])
      ∙ ap (λ hs. hs ++ unsigned (get_or xs i d ∷ [])) none
      ∙ ap (λ b. cond (not b) (get_or xs i d ∷ []) []) is

  pub unsigned_stop : (a b c : Option (List ℕ)) (e : Error) → WritesPieces {U = Unit {0}} a b (unsigned_lines (take i xs)) (Ok tt) → WritesPieces {U = Unit {0}} b c (unsigned_lines (get_or xs i d ∷ [])) (Err e)
      → WritesPieces {U = Unit {0}} a c (unsigned_lines xs) (Err e)
  unsigned_stop a b c e w v =
      subst (λ ps. WritesPieces {U = Unit {0}} a c ps (Err e)) (sym cut_here)
      (pieces_then a b c (unsigned_lines (take i xs)) (unsigned_lines (get_or xs i d ∷ []) ++ unsigned_lines (drop (suc i) xs)) (Err e) w
      (pieces_stop b c (unsigned_lines (get_or xs i d ∷ [])) (unsigned_lines (drop (suc i) xs)) e v))

  pub unsigned_more : (a b c : Option (List ℕ)) → WritesPieces {U = Unit {0}} a b (unsigned_lines (take i xs)) (Ok tt) → WritesPieces {U = Unit {0}} b c (unsigned_lines (get_or xs i d ∷ [])) (Ok tt)
      → WritesPieces {U = Unit {0}} a c (unsigned_lines (take (i + 1) xs)) (Ok tt)
  unsigned_more a b c w v =
      subst (λ ps. WritesPieces {U = Unit {0}} a c ps (Ok tt)) (sym more_here)
      (pieces_then a b c (unsigned_lines (take i xs)) (unsigned_lines (get_or xs i d ∷ [])) (Ok tt) w v)
