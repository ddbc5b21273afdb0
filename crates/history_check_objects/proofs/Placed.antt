-- Places are those of ids of the kind, also the ids that only contents name.
use Rattle.std.proofs.Common.{◌≡◌, ℕ, zero, suc, ◌<◌, ◌≤◌, Bool, true, false, not, ◌&&◌, List, [], ◌∷◌, ◌++◌, map, length, take, drop, refl, sym, ◌∙◌, ap, subst, arith, tests, nat_lt, ◌==◌, codes, slice_index, inl, inr}
use Rattle.std.specs.List.{list_all}
use Rattle.gix_hash.specs.Id.{Id}
use Rattle.gix_hash.specs.Kind.{byte_len, hex_len}
use Rattle.gix_hash.specs.Spelling.{hex_character, hex_text}
use Rattle.gix_hash.specs.declared.kind.Kind.{Kind}
use Rattle.gix_hash.specs.declared.kind.Kind.TheVariants as digests
use Rattle.gix_object_tree.specs.Entry.{Item, SpellsEntries}
use Rattle.gix_object_lines.specs.declared.kind.Kind.{Kind as ObjectKind}
use Rattle.gix_object_lines.specs.declared.kind.Kind.TheVariants as kinds
use Rattle.gix_ref_file.specs.Tree.{Tree}
use Rattle.history_model.specs.Bytes.{Bytes, is_empty}
use Rattle.history_model.specs.Forms.{is_actor, is_id, is_tag_name}
use Rattle.history_model.specs.Objects.{hex}
use Rattle.history_model.specs.Places.{object_place}
use Rattle.history_model.proofs.IdLemmas.{are_digits, has_kind, hex_tells, id_digits, kind_has, length-hex, low_digit}
use Rattle.history_model.proofs.PartLemmas.{head_same, tail_same}
use Rattle.history_model.proofs.WholeLists.{In, all_pass, of_map}
use Rattle.history_model.proofs.WholeSteps.{contains_in}
use Rattle.history_texts.specs.Written.{NamesObjects, Naming, named_by_item}
use Rattle.history_texts.proofs.CommitTexts.{value_forms}
use Rattle.history_check_objects.specs.Flaws.{Names}
use Rattle.std.proofs.lemmas.Bool.{and_from, and_parts}

-- ---- digits

past : (table : Bytes) (d : ℕ) → length table ≤ d → slice_index table d ≡ 0
past [] d less = refl
past (c ∷ table) zero less = absurd (omega arith)
past (c ∷ table) (suc d) less = past table d (omega arith)

not_zero : (table : Bytes) → list_all (λ c. not (c == 0)) table ≡ true → (e : ℕ) → e < length table → slice_index table e ≡ 0 → ⊥
not_zero [] are e less same = absurd (omega arith)
not_zero (c ∷ table) are zero less same = nonzero c (and_parts (not (c == 0)) (list_all (λ c. not (c == 0)) table) are).0 same
  where
    nonzero : (c : ℕ) → not (c == 0) ≡ true → c ≡ 0 → ⊥
    nonzero c h e = grind (arith, tests)
not_zero (c ∷ table) are (suc e) less same = not_zero table (and_parts (not (c == 0)) (list_all (λ c. not (c == 0)) table) are).1 e (omega arith) same

-- a character that is a digit's is no other number's
low_too : (d e : ℕ) → hex_character d ≡ hex_character e → nat_lt e 16 ≡ true → nat_lt d 16 ≡ true
low_too d e same low = go (nat_lt d 16) refl
  where
    go : (b : Bool) → nat_lt d 16 ≡ b → b ≡ true
    go true h = refl
    go false h = absurd (not_zero (codes "0123456789abcdef") refl e (low_digit e low) (sym same ∙ past (codes "0123456789abcdef") d (high d h)))
      where
        high : (d : ℕ) → nat_lt d 16 ≡ false → 16 ≤ d
        high d h = grind (arith, tests)

all_low : (ds es : List ℕ) → hex_text ds ≡ hex_text es → list_all (λ d. nat_lt d 16) es ≡ true → list_all (λ d. nat_lt d 16) ds ≡ true
all_low [] es same low = refl
all_low (d ∷ ds) [] same low = cc
all_low (d ∷ ds) (e ∷ es) same low =
    let parts = and_parts (nat_lt e 16) (list_all (λ d. nat_lt d 16) es) low in
    and_from (nat_lt d 16) (list_all (λ d. nat_lt d 16) ds) (low_too d e (head_same same) parts.0) (all_low ds es (tail_same same) parts.1)

-- ---- places

parted_length : (s : Bytes) → length (take 2 s ++ 47 ∷ drop 2 s) ≡ suc (length s)
parted_length [] = refl
parted_length (a ∷ []) = refl
parted_length (a ∷ b ∷ s) = refl

told : (s t : Bytes) → take 2 s ++ 47 ∷ drop 2 s ≡ take 2 t ++ 47 ∷ drop 2 t → length s ≡ length t → s ≡ t
told [] [] e n = refl
told [] (b ∷ t) e n = absurd (omega arith)
told (a ∷ s) [] e n = absurd (omega arith)
told (a ∷ []) (b ∷ []) e n = λ i. head_same e i ∷ []
told (a ∷ []) (b ∷ d ∷ t) e n = absurd (omega arith)
told (a ∷ c ∷ s) (b ∷ []) e n = absurd (omega arith)
told (a ∷ c ∷ s) (b ∷ d ∷ t) e n = λ i. head_same e i ∷ head_same (tail_same e) i ∷ tail_same (tail_same (tail_same e)) i

pub place_tells : (kind : Kind) (a b : Id) → a.kind ≡ kind → is_id kind b ≡ true → object_place a ≡ object_place b → a ≡ b
place_tells kind a b own formed same = hex_tells kind a b a_formed formed hexes
  where
    behind : take 2 (hex a) ++ 47 ∷ drop 2 (hex a) ≡ take 2 (hex b) ++ 47 ∷ drop 2 (hex b)
    behind = ap (λ (text : Bytes). drop 8 text) same

    lengths : length (hex a) ≡ length (hex b)
    lengths = let l = sym (parted_length (hex a)) ∙ ap length behind ∙ parted_length (hex b) in omega arith

    hexes : hex a ≡ hex b
    hexes = told (hex a) (hex b) behind lengths

    whole : length a.digits ≡ hex_len kind
    whole = sym (length-hex a) ∙ lengths ∙ length-hex b ∙ (has_kind kind b formed).whole

    a_formed : is_id kind a ≡ true
    a_formed = kind_has kind a (record { of_kind = own; whole = whole; digits = are_digits a.digits (all_low a.digits b.digits hexes (id_digits kind b formed)) })

-- ---- what objects name is of their kind

byte_len_tells : (a b : Kind) → byte_len a ≡ byte_len b → a ≡ b
byte_len_tells digests.Sha1 digests.Sha1 e = refl
byte_len_tells digests.Sha1 digests.Sha256 e = absurd (omega arith)
byte_len_tells digests.Sha256 digests.Sha1 e = absurd (omega arith)
byte_len_tells digests.Sha256 digests.Sha256 e = refl

item_of_kind : (kind : Kind) (content rest : List ℕ) (items : List Item) → SpellsEntries kind content items rest → (item : Item) → In item items → (item.id).kind ≡ kind
item_of_kind kind content rest [] spelled item i = absurd i
item_of_kind kind content rest (x ∷ items) (after, spelled, others) item (inl e) = ap (λ (y : Item). (y.id).kind) e ∙ byte_len_tells (x.id).kind kind (sym (spelled.id).whole ∙ spelled.whole)
item_of_kind kind content rest (x ∷ items) (after, spelled, others) item (inr i) = item_of_kind kind after rest items others item i

kind_told : (kind : Kind) (id : Id) → is_id kind id ≡ true → id.kind ≡ kind
kind_told kind id formed = (has_kind kind id formed).of_kind

named_kind : (kind : Kind) (object : ObjectKind) (content : Bytes) (named : List Naming) → NamesObjects kind object content named → (naming : Naming) → In naming named → (naming.0).kind ≡ kind
named_kind kind kinds.Blob content named is naming i = absurd (subst (In naming) is i)
named_kind kind kinds.Tree content named is naming i =
    let from = of_map named_by_item naming is.items (subst (In naming) is.named_are i) in
    ap (λ (n : Naming). (n.0).kind) from.2 ∙ item_of_kind kind content [] is.items (is.written).0 from.0 from.1
named_kind kind kinds.Commit content named is naming i = go (subst (In naming) (is.names).named_are i)
  where
    go : In naming (((is.names).tree, kinds.Tree) ∷ map (λ parent. (parent, kinds.Commit)) ((is.names).value).parents) → (naming.0).kind ≡ kind
    go (inl e) = ap (λ (n : Naming). (n.0).kind) e ∙ kind_told kind (is.names).tree ((is.names).parts_are).tree_is
    go (inr j) =
        let from = of_map (λ parent. (parent, kinds.Commit)) naming ((is.names).value).parents j in
        ap (λ (n : Naming). (n.0).kind) from.2 ∙ kind_told kind from.0 (all_pass (is_id kind) ((is.names).value).parents (value_forms kind (is.names).value ((is.names).parts_are).form).parents from.0 from.1)
named_kind kind kinds.Tag content named is naming i = go (subst (In naming) is.named_are i)
  where
    target : is_id kind (is.tag).target ≡ true
    target = (and_parts (is_id kind (is.tag).target) (is_tag_name (is.tag).name) (and_parts (is_id kind (is.tag).target && is_tag_name (is.tag).name) (is_actor (is.tag).tagger)
        (and_parts (is_id kind (is.tag).target && is_tag_name (is.tag).name && is_actor (is.tag).tagger) (not (is_empty (is.tag).message)) (and_parts _ _ is.form).0).0).0).0

    go : In naming (((is.tag).target, kinds.Commit) ∷ []) → (naming.0).kind ≡ kind
    go (inl e) = ap (λ (n : Naming). (n.0).kind) e ∙ kind_told kind (is.tag).target target
    go (inr j) = absurd j

pub named_of_kind : (kind : Kind) (tree : Tree) (by id : Id) (as_kind : ObjectKind) → Names kind tree by id as_kind → id.kind ≡ kind
named_of_kind kind tree by id as_kind is = named_kind kind is.object is.content is.named is.names (id, as_kind) (contains_in is.named (id, as_kind) is.among)
