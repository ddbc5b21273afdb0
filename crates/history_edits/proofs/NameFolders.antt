-- The folders that a name and its log are in are folders of names.
use Rattle.std.proofs.Common.{◌≡◌, ℕ, ◌-◌, ◌⊎◌, Bool, true, false, cond, not, ◌||◌, List, [], ◌∷◌, ◌++◌, length, take, drop, refl, sym, ◌∙◌, ap, inl, inr, codes, ◌==◌}
use Rattle.std.specs.List.{list_any, slice_split, onto_first}
use Rattle.history_model.specs.Bytes.{Bytes, begins, ends}
use Rattle.history_model.specs.FileMap.{components}
use Rattle.history_model.specs.Forms.{is_name}
use Rattle.gix_object_lines.specs.NameTest.{is_partial_name}
use Rattle.history_model.proofs.NameLemmas.{ends_cons, ends_parts, no_lock, some_or, partial_of}
use Rattle.history_model.proofs.NameTests.{components_of}
use Rattle.history_model.specs.Places.{is_name_folder, log_place}
use Rattle.gix_ref_way.specs.Ways.{IsAbove}
use Rattle.history_texts.proofs.FirstParts.{Behind, behind}
use Rattle.history_model.proofs.WholePaths.{begins_parts}
use Rattle.std.proofs.lemmas.Bool.{and_parts, or_cases}

with_byte : (b : ℕ) (back : Bytes) (parts : List Bytes) → list_any (ends back) parts ≡ true → list_any (ends back) (onto_first b parts) ≡ true
with_byte b back [] h = cc
with_byte b back (part ∷ parts) h = go (or_cases (ends back part) (list_any (ends back) parts) h)
  where
    go : (ends back part ≡ true) ⊎ (list_any (ends back) parts ≡ true) → (ends back (b ∷ part) || list_any (ends back) parts) ≡ true
    go (inl e) = some_or _ _ (inl (ends_cons b back part e))
    go (inr e) = some_or (ends back (b ∷ part)) _ (inr e)

-- what ends so before a slash is a part
part_before : (back rest front : Bytes) → list_any (ends back) (slice_split (λ b. b == 47) (back ++ 47 ∷ rest)) ≡ true → list_any (ends back) (slice_split (λ b. b == 47) (front ++ back ++ 47 ∷ rest)) ≡ true
part_before back rest [] here = here
part_before back rest (b ∷ front) here = go (part_before back rest front here) (b == 47)
  where
    go : list_any (ends back) (slice_split (λ b. b == 47) (front ++ back ++ 47 ∷ rest)) ≡ true → (c : Bool)
        → list_any (ends back) (cond c ([] ∷ slice_split (λ b. b == 47) (front ++ back ++ 47 ∷ rest)) (onto_first b (slice_split (λ b. b == 47) (front ++ back ++ 47 ∷ rest)))) ≡ true
    go later true = some_or (ends back []) _ (inr later)
    go later false = with_byte b back (slice_split (λ b. b == 47) (front ++ back ++ 47 ∷ rest)) later

no_lock_above : (name place rest : Bytes) → is_name name ≡ true → name ≡ place ++ 47 ∷ rest → ends (codes ".lock") place ≡ false
no_lock_above name place rest h is = go (ends (codes ".lock") place) refl
  where
    go : (b : Bool) → ends (codes ".lock") place ≡ b → b ≡ false
    go false e = refl
    go true e =
        let front = take (length place - 5) place in
        let whole : name ≡ front ++ codes ".lock" ++ 47 ∷ rest = is ∙ ap (λ p. p ++ 47 ∷ rest) (ends_parts (codes ".lock") place e) in
        let some : list_any (ends (codes ".lock")) (components name) ≡ true = ap (λ n. list_any (ends (codes ".lock")) (components n)) whole ∙ part_before (codes ".lock") rest front refl in
        let wrong : false ≡ true = sym (no_lock (components name) (components_of name (partial_of name h))) ∙ some in
        absurd (cc wrong)

no_lock_log : (name place rest : Bytes) → is_name name ≡ true → log_place name ≡ place ++ 47 ∷ rest → ends (codes ".lock") place ≡ false
no_lock_log name place rest h is = go (ends (codes ".lock") place) refl
  where
    go : (b : Bool) → ends (codes ".lock") place ≡ b → b ≡ false
    go false e = refl
    go true e =
        let front = take (length place - 5) place in
        let whole : log_place name ≡ front ++ codes ".lock" ++ 47 ∷ rest = is ∙ ap (λ p. p ++ 47 ∷ rest) (ends_parts (codes ".lock") place e) in
        let some : list_any (ends (codes ".lock")) (components (log_place name)) ≡ true = ap (λ n. list_any (ends (codes ".lock")) (components n)) whole ∙ part_before (codes ".lock") rest front refl in
        let wrong : false ≡ true = sym (no_lock (components name) (components_of name (partial_of name h))) ∙ some in
        absurd (cc wrong)

pub refs_of : (name : Bytes) → is_name name ≡ true → name ≡ codes "refs" ++ 47 ∷ drop 5 name
refs_of name h = begins_parts (codes "refs/") name (and_parts (is_partial_name name) (begins (codes "refs/") name) (and_parts _ _ (and_parts _ _ h).0).0).1

abbrev is_lock : Bytes → Bool
is_lock path = ends (codes ".lock") path

pub name_above : (name place : Bytes) → is_name name ≡ true → IsAbove place name → is_name_folder place ≡ true
name_above name place h (rest, is) = by_front (behind (codes "refs") (drop 5 name) place rest refl (sym (refs_of name h) ∙ is))
  where
    by_front : Behind (codes "refs") (drop 5 name) place rest → is_name_folder place ≡ true
    by_front (inl same) = ap is_name_folder same
    by_front (inr (inner, same, left)) =
        ap is_name_folder same ∙ ap not (ap is_lock (sym same) ∙ no_lock_above name place rest h is)

pub log_above : (name place : Bytes) → is_name name ≡ true → IsAbove place (log_place name) → is_name_folder place ≡ true
log_above name place h (rest, is) = by_front (behind (codes "logs") name place rest refl is)
  where
    by_front : Behind (codes "logs") name place rest → is_name_folder place ≡ true
    by_front (inl same) = ap is_name_folder same
    by_front (inr (inner, same, left)) = ap is_name_folder same ∙ ap not (ap is_lock (sym same) ∙ no_lock_log name place rest h is)
