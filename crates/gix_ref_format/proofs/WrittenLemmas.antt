-- What is written of a target is read as it.
use Rattle.std.proofs.Common.{◌≡◌, ◌∙◌, ap, refl, sym, ℕ, zero, suc, ◌-◌, Bool, true, false, cond, not, ◌&&◌, ◌||◌, List, [], ◌∷◌, ◌++◌, length, take, drop, codes, Some, None, option_map, arith, nat_eq}
use Rattle.std.specs.Prelude.{◌==◌, bytes_eq}
use Rattle.std.specs.List.{list_any, ends_with}
use Rattle.std.proofs.lemmas.List.{length-map, length-append}
use Rattle.hex.specs.Hex.{hex_digit_value}
use Rattle.gix_hash.specs.Id.{Id}
use Rattle.gix_hash.specs.Kind.{hex_len}
use Rattle.gix_hash.specs.Spelling.{hex_text, hex_character, IsHexOf}
use Rattle.gix_hash.specs.declared.kind.Kind.{Kind}
use Rattle.gix_object_lines.specs.NameTest.{is_partial_name, is_full_name, is_barred, is_capitals, has_slash, begins, ends, holds}
use Rattle.gix_ref_name.specs.Targets.{ToObject, ToName}
use Rattle.gix_ref_format.specs.Ids.{id_from_hex}
use Rattle.gix_ref_format.specs.Lines.{without_last}
use Rattle.gix_ref_format.specs.Loose.{loose_target, loose_text, without_spaces, referent, leading_id, is_symbolic, ends_word}
use Rattle.gix_ref_format.proofs.IdLemmas.{id_from_hex-reads}
use Rattle.std.proofs.lemmas.Bool.{or_parts, and_parts, not-true, eqb-true}

-- ---- the last byte

last_cut : (name : List ℕ) (byte : ℕ) → drop (length name) (name ++ byte ∷ []) ≡ byte ∷ []
last_cut [] byte = refl
last_cut (b ∷ name) byte = last_cut name byte

front_cut : (name : List ℕ) (byte : ℕ) → take (length name) (name ++ byte ∷ []) ≡ name
front_cut [] byte = refl
front_cut (b ∷ name) byte = ap (λ t. b ∷ t) (front_cut name byte)

one_less : (name : List ℕ) (byte : ℕ) → length (name ++ byte ∷ []) - 1 ≡ length name
one_less name byte = let long = length-append name (byte ∷ []) in omega (arith, long)

pub feed_cut : (name : List ℕ) → without_last 10 (name ++ 10 ∷ []) ≡ name
feed_cut name =
    let there : drop (length (name ++ 10 ∷ []) - 1) (name ++ 10 ∷ []) ≡ 10 ∷ [] = ap (λ n. drop n (name ++ 10 ∷ [])) (one_less name 10) ∙ last_cut name 10 in
    let ends : ends_with nat_eq (name ++ 10 ∷ []) (10 ∷ []) ≡ true = rw there refl in
    ap (λ (t : Bool). cond t (take (length (name ++ 10 ∷ []) - 1) (name ++ 10 ∷ [])) (name ++ 10 ∷ [])) ends
    ∙ ap (λ n. take n (name ++ 10 ∷ [])) (one_less name 10) ∙ front_cut name 10

-- ---- names hold no space and no carriage return

clash : {A : Type 0} → true ≡ false → A
clash e = absurd (go e)
  where
    go : true ≡ false → ⊥
    go e = cc

seventh : (a b c d e f g h : Bool) → (a && (b && (c && (d && (e && (f && (g && h))))))) ≡ true → g ≡ true
seventh a b c d e f g h t =
    let t1 = (and_parts a (b && (c && (d && (e && (f && (g && h)))))) t).1 in
    let t2 = (and_parts b (c && (d && (e && (f && (g && h))))) t1).1 in
    let t3 = (and_parts c (d && (e && (f && (g && h)))) t2).1 in
    let t4 = (and_parts d (e && (f && (g && h))) t3).1 in
    let t5 = (and_parts e (f && (g && h)) t4).1 in
    let t6 = (and_parts f (g && h) t5).1 in
    (and_parts g h t6).0

pub unbarred : (name : List ℕ) → is_full_name name ≡ true → list_any is_barred name ≡ false
unbarred name full =
    not-true (list_any is_barred name)
    (seventh (not (bytes_eq name [])) (not (begins (codes ".") name)) (not (holds (codes "/.") name)) (not (ends (codes ".lock") name)) (not (holds (codes ".lock/") name))
    (not (holds (codes "..") name)) (not (list_any is_barred name))
    (not (begins (codes "/") name) && (not (ends (codes "/") name) && (not (holds (codes "//") name) && (not (ends (codes ".") name) && (not (holds (codes "@{") name) && not (bytes_eq name (codes "@")))))))
    (and_parts (is_partial_name name) (has_slash name || is_capitals name) full).0)

behind_unbarred : (k : ℕ) (name : List ℕ) → list_any is_barred name ≡ false → list_any is_barred (drop k name) ≡ false
behind_unbarred zero name h = h
behind_unbarred (suc k) [] h = refl
behind_unbarred (suc k) (b ∷ name) h = behind_unbarred k name (or_parts (is_barred b) (list_any is_barred name) h).1

barred_return : (b : ℕ) → (13 == b) ≡ true → is_barred b ≡ true
barred_return b e = ap is_barred (sym (eqb-true 13 b e))

barred_space : (b : ℕ) → (b == 32) ≡ true → is_barred b ≡ true
barred_space b e = ap is_barred (eqb-true b 32 e)

tail_differs : (tail : List ℕ) → list_any is_barred tail ≡ false → bytes_eq (13 ∷ []) tail ≡ false
tail_differs [] h = refl
tail_differs (b ∷ rest) h = go (13 == b) refl
  where
    go : (t : Bool) → (13 == b) ≡ t → (t && bytes_eq [] rest) ≡ false
    go true e = clash (sym (barred_return b e) ∙ (or_parts (is_barred b) (list_any is_barred rest) h).0)
    go false e = refl

pub no_return : (name : List ℕ) → list_any is_barred name ≡ false → without_last 13 name ≡ name
no_return name h =
    ap (λ (t : Bool). cond t (take (length name - 1) name) name) (tail_differs (drop (length name - 1) name) (behind_unbarred (length name - 1) name h))

pub no_spaces : (name : List ℕ) → list_any is_barred name ≡ false → without_spaces (name ++ 10 ∷ []) ≡ name ++ 10 ∷ []
no_spaces [] h = refl
no_spaces (b ∷ rest) h = go (b == 32) refl
  where
    go : (t : Bool) → (b == 32) ≡ t → cond t (without_spaces (rest ++ 10 ∷ [])) (b ∷ (rest ++ 10 ∷ [])) ≡ b ∷ (rest ++ 10 ∷ [])
    go true e = clash (sym (barred_space b e) ∙ (or_parts (is_barred b) (list_any is_barred rest) h).0)
    go false e = refl

pub name_reads : (kind : Kind) (name : List ℕ) → is_full_name name ≡ true → loose_target kind (loose_text (ToName name)) ≡ Some (ToName name)
name_reads kind name full =
    let clean = unbarred name full in
    let told : referent (loose_text (ToName name)) ≡ name =
    ap (λ t. without_last 13 (without_last 10 t)) (no_spaces name clean) ∙ ap (without_last 13) (feed_cut name) ∙ no_return name clean in
    ap (λ n. cond (is_full_name n) (Some (ToName n)) None) told ∙ ap (λ (t : Bool). cond t (Some (ToName name)) None) full

-- ---- digits

-- no digit is an `r`
not_r : (digits : List ℕ) (rest : List ℕ) → IsHexOf (hex_text digits) digits → is_symbolic (hex_text digits ++ 10 ∷ rest) ≡ false
not_r [] rest e = refl
not_r (d ∷ digits) rest e = go (114 == hex_character d) refl
  where
    go : (t : Bool) → (114 == hex_character d) ≡ t → (t && bytes_eq (codes "ef: ") (take 4 (hex_text digits ++ 10 ∷ rest))) ≡ false
    go false is = refl
    go true is =
        let value : hex_digit_value (hex_character d) ≡ Some d = cc in
        let none : hex_digit_value (hex_character d) ≡ None = ap hex_digit_value (sym (eqb-true 114 (hex_character d) is)) in
        absurd (differ (sym none ∙ value))
      where
        differ : None ≡ Some d → ⊥
        differ e = cc

pub id_reads : (kind : Kind) (id : Id) → IsHexOf (hex_text id.digits) id.digits → length id.digits ≡ hex_len kind → id.kind ≡ kind → loose_target kind (loose_text (ToObject id)) ≡ Some (ToObject id)
id_reads kind id spelled whole of_kind =
    let text = hex_text id.digits in
    let long : length text ≡ hex_len kind = length-map id.digits hex_character ∙ whole in
    let behind : drop (hex_len kind) (text ++ 10 ∷ []) ≡ 10 ∷ [] = ap (λ n. drop n (text ++ 10 ∷ [])) (sym long) ∙ last_cut text 10 in
    let front : take (hex_len kind) (text ++ 10 ∷ []) ≡ text = ap (λ n. take n (text ++ 10 ∷ [])) (sym long) ∙ front_cut text 10 in
    let read : id_from_hex kind text ≡ Some id = id_from_hex-reads kind text id long spelled of_kind in
    let led : leading_id kind (text ++ 10 ∷ []) ≡ Some id =
    ap (λ t. cond (ends_word t) (id_from_hex kind (take (hex_len kind) (text ++ 10 ∷ []))) None) behind ∙ ap (id_from_hex kind) front ∙ read in
    ap (λ (t : Bool). cond t (cond (is_full_name (referent (text ++ 10 ∷ []))) (Some (ToName (referent (text ++ 10 ∷ [])))) None) (option_map ToObject (leading_id kind (text ++ 10 ∷ []))))
    (not_r id.digits [] spelled)
    ∙ ap (option_map ToObject) led
