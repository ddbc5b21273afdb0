-- Lines of `packed-refs`, and what they give.
use Rattle.std.proofs.Common.{◌≡◌, ◌∙◌, ap, refl, sym, ℕ, ◌+◌, Bool, true, false, cond, ◌&&◌, List, [], ◌∷◌, drop, take, codes, Option, Some, None, option_map, subst, length, ◌-◌}
use Rattle.std.specs.Prelude.{◌==◌}
use Rattle.std.specs.List.{slice_split}
use Rattle.gix_hash.specs.Id.{Id}
use Rattle.gix_hash.specs.Kind.{hex_len}
use Rattle.gix_hash.specs.declared.kind.Kind.{Kind}
use Rattle.gix_object_lines.specs.Bytes.{is_among}
use Rattle.gix_object_lines.specs.NameTest.{begins, is_full_name}
use Rattle.gix_ref_format.specs.declared.packed.Peeled.{Peeled}
use Rattle.std.proofs.lemmas.List.{length-drop}
use Rattle.std.proofs.Math.Seq.{take-length}
use Rattle.gix_ref_format.specs.Ids.{id_from_hex}
use Rattle.gix_ref_format.specs.Lines.{lines}
use Rattle.gix_ref_format.specs.Packed.{Record, Item, Good, without_peel, record_text, record_line, header_of, header_by, peeled_by, items, next_number, HasPeel}

abbrev words_in : List ℕ → List (List ℕ)
words_in text = slice_split (λ byte. byte == 32) (drop 17 text)

pub header_is : (text : List ℕ) (p : Peeled) (s : Bool) → begins (codes "# pack-refs with:") text ≡ true → p ≡ peeled_by (words_in text) → s ≡ is_among (words_in text) (codes "sorted")
    → Some (record { peeled = p; sorted = s }) ≡ header_of text
header_is text p s front is_p is_s =
    ap (λ q. Some (record { peeled = q; sorted = s })) is_p ∙ ap (λ q. Some (record { peeled = peeled_by (words_in text); sorted = q })) is_s
    ∙ sym (ap (λ (t : Bool). cond t (Some (header_by (words_in text))) None) front)

module _ (kind : Kind) (text : List ℕ) where
  abbrev name : List ℕ
  name = drop (hex_len kind + 1) text

  abbrev read : Bool → Bool → Option Id → Option Record
  read space full id = cond (space && full) (option_map (without_peel name) id) None

  abbrev space : Bool
  space = begins (32 ∷ []) (drop (hex_len kind) text)

  abbrev id : Option Id
  id = id_from_hex kind (take (hex_len kind) text)

  pub record_idless : id ≡ None → None ≡ record_text kind text
  record_idless e = sym (ap (λ t. read space (is_full_name name) t) e ∙ go (space && is_full_name name))
    where
      go : (t : Bool) → ◌≡◌ {A = Option Record} (cond t None None) None
      go true = refl
      go false = refl

  pub record_is : (whole : List ℕ) (found : Id) → space ≡ true → whole ≡ name → is_full_name name ≡ true → id ≡ Some found → Some (without_peel whole found) ≡ record_text kind text
  record_is whole found spaced same full is =
      ap (λ n. Some (without_peel n found)) same
      ∙ sym (ap (λ t. read t (is_full_name name) id) spaced ∙ ap (λ t. read true t id) full ∙ ap (λ t. read true true t) is)

-- a record, and the peeled id after it
pub good_first : (kind : Kind) (number : ℕ) (line : List ℕ) (rest : List (List ℕ)) (r : Record) (peel : Option Id) (left : List Item) → record_line kind line ≡ Some r → HasPeel kind (next_number number) rest peel left
    → items kind number false (line ∷ rest) ≡ Good (record { name = r.name; target = r.target; peeled = peel }) ∷ left
good_first kind number line [] r peel left is has = rw (is, has.0, has.1) refl
good_first kind number line (next ∷ rest) r peel left is has = rw (is, has.1, has.0) refl

pub has_moved : (k k' : Kind) (n n' : ℕ) (text text' : List ℕ) (peel : Option Id) (left : List Item) → k ≡ k' → n ≡ n' → text ≡ text' → HasPeel k n (lines text) peel left → HasPeel k' n' (lines text') peel left
has_moved k k' n n' text text' peel left a b c has =
    subst (λ t. HasPeel k' n' (lines t) peel left) c (subst (λ m. HasPeel k' m (lines text) peel left) b (subst (λ j. HasPeel j n (lines text) peel left) a has))

pub rest_is : (k : ℕ) (xs : List ℕ) → take (length xs - k) (drop k xs) ≡ drop k xs
rest_is k xs = ap (λ n. take n (drop k xs)) (sym (length-drop k xs)) ∙ take-length (drop k xs)
