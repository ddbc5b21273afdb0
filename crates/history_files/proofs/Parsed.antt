-- What a content spells, read from it: so a table has a table of its trees.
use Rattle.std.proofs.Common.{◌≡◌, ◌∙◌, ap, refl, sym, ℕ, zero, suc, ◌≤◌, Bool, false, cond, ◌&&◌, List, [], ◌∷◌, ◌++◌, length, length-append, take, drop, arith, ◌==◌, Some, option_map}
use Rattle.std.proofs.Math.Seq.{take-append_seam, drop-append_seam}
use Rattle.std.specs.Prelude.{slice_index}
use Rattle.std.specs.Str.Parse.{digits_value}
use Rattle.gix_hash.specs.Id.{Id, digits_of}
use Rattle.gix_hash.specs.Kind.{byte_len}
use Rattle.gix_hash.specs.declared.kind.Kind.{Kind}
use Rattle.gix_object_tree.specs.Entry.{Item, SpellsEntry, SpellsTree}
use Rattle.gix_object_tree.specs.ModeText.{Mode, text_before}
use Rattle.gix_object_tree.proofs.Octals.{before_cut}
use Rattle.gix_object_tree.proofs.Spelled.{lacks_space}
use Rattle.gix_object_lookup.specs.Table.{Object, Table}
use Rattle.gix_object_editor.specs.Stored.{HasStored}
use Rattle.gix_object_nodes.specs.Files.{Trees}
use Rattle.history_model.specs.Bytes.{is_empty}
use Rattle.gix_hash.proofs.KindLemmas.{byte_len-injective}

abbrev told_mode : List ℕ → Mode
told_mode text = record { value = digits_value 8 text; padded = (slice_index text 0 == 48) && (digits_value 8 text == 16384) }

abbrev told_id : Kind → List ℕ → Id
told_id ids tail = record { kind = ids; digits = digits_of (take (byte_len ids) tail) }

-- the entry that begins the input, in which these parts are cut off
abbrev told_item : Kind → (text name tail : List ℕ) → Item
told_item ids text name tail = record { mode = told_mode text; name = name; id = told_id ids tail }

abbrev after_text : List ℕ → List ℕ → List ℕ
after_text text input = drop (suc (length text)) input

abbrev told : Kind → (List ℕ → List Item) → (text name tail : List ℕ) → List Item
told ids rest text name tail = told_item ids text name tail ∷ rest (drop (byte_len ids) tail)

abbrev told_after : Kind → (List ℕ → List Item) → (text after : List ℕ) → List Item
told_after ids rest text after = told ids rest text (text_before 0 after) (after_text (text_before 0 after) after)

pub parsed : ℕ → Kind → List ℕ → List Item
parsed zero ids input = []
parsed (suc n) ids input = cond (is_empty input) [] (told_after ids (parsed n ids) (text_before 32 input) (after_text (text_before 32 input) input))

drop_past : (text : List ℕ) (byte : ℕ) (rest : List ℕ) → drop (suc (length text)) (text ++ byte ∷ rest) ≡ rest
drop_past [] byte rest = refl
drop_past (b ∷ text) byte rest = drop_past text byte rest

some_text : (text : List ℕ) (byte : ℕ) (rest : List ℕ) → is_empty (text ++ byte ∷ rest) ≡ false
some_text [] byte rest = refl
some_text (b ∷ text) byte rest = refl

-- the entry that begins the input is read from it
same_item : (ids : Kind) (input : List ℕ) (item : Item) (rest : List ℕ) (is : SpellsEntry ids input item rest) → told_item ids is.text item.name (is.bytes ++ rest) ≡ item
same_item ids input item rest is =
    let make : ℕ → Bool → Mode = λ value padded. record { value = value; padded = padded } in
    let mode : told_mode is.text ≡ item.mode =
    ap (λ n. make n ((slice_index is.text 0 == 48) && (n == 16384))) is.mode.value ∙ ap (make item.mode.value) (sym is.mode.padded) in
    let kind : ids ≡ item.id.kind = sym (byte_len-injective item.id.kind ids (sym is.id.whole ∙ is.whole)) in
    let front : take (byte_len ids) (is.bytes ++ rest) ≡ is.bytes = ap (λ n. take n (is.bytes ++ rest)) (sym is.whole) ∙ take-append_seam is.bytes rest in
    let digits : digits_of (take (byte_len ids) (is.bytes ++ rest)) ≡ item.id.digits = ap digits_of front ∙ is.id.digits in
    λ i. record { mode = mode i; name = item.name; id = record { kind = kind i; digits = digits i } }

pub parsed_whole : (ids : Kind) (n : ℕ) (input : List ℕ) (items : List Item) → SpellsTree ids input items → length input ≤ n → parsed n ids input ≡ items
unfolding parsed
parsed_whole ids zero input [] is short = refl
parsed_whole ids (suc n) input [] is short = ap (λ (t : List ℕ). cond (is_empty t) [] (told_after ids (parsed n ids) (text_before 32 t) (after_text (text_before 32 t) t))) is
parsed_whole ids zero input (item ∷ items) (rest, is, more) short =
    let long = ap length is.spelled in
    let len = length-append is.text (32 ∷ (item.name ++ 0 ∷ (is.bytes ++ rest))) in
    absurd (omega arith)
parsed_whole ids (suc n) input (item ∷ items) (rest, is, more) short =
    ap (λ (t : List ℕ). cond (is_empty t) [] (told_after ids (parsed n ids) (text_before 32 t) (after_text (text_before 32 t) t))) is.spelled
    ∙ ap (λ b. cond b [] (told_after ids (parsed n ids) (text_before 32 whole) (after_text (text_before 32 whole) whole))) (some_text is.text 32 after)
    ∙ ap (λ t. told_after ids (parsed n ids) t (after_text t whole)) (before_cut 32 is.text after (lacks_space is.text is.mode.numeral.1))
    ∙ ap (told_after ids (parsed n ids) is.text) (drop_past is.text 32 after)
    ∙ ap (λ t. told ids (parsed n ids) is.text t (after_text t after)) (before_cut 0 item.name (is.bytes ++ rest) is.name)
    ∙ ap (told ids (parsed n ids) is.text item.name) (drop_past item.name 0 (is.bytes ++ rest))
    ∙ ap (λ t. told_item ids is.text item.name (is.bytes ++ rest) ∷ parsed n ids t) behind
    ∙ (λ i. same_item ids input item rest is i ∷ parsed_whole ids n rest items more fewer i)
  where
    after : List ℕ
    after = item.name ++ 0 ∷ (is.bytes ++ rest)

    whole : List ℕ
    whole = is.text ++ 32 ∷ after

    behind : drop (byte_len ids) (is.bytes ++ rest) ≡ rest
    behind = ap (λ k. drop k (is.bytes ++ rest)) (sym is.whole) ∙ drop-append_seam is.bytes rest

    fewer : length rest ≤ n
    fewer =
        let long = ap length is.spelled in
        let one = length-append is.text (32 ∷ (item.name ++ 0 ∷ (is.bytes ++ rest))) in
        let two = length-append item.name (0 ∷ (is.bytes ++ rest)) in
        let three = length-append is.bytes rest in
        omega arith

-- the trees of a table
pub trees_in : Table → Trees
trees_in table id = option_map (λ (object : Object). parsed (length object.content) id.kind object.content) (table id)

pub has_stored : (table : Table) → HasStored table (trees_in table)
unfolding trees_in
has_stored table id content items stands spelled =
    ap (λ o. option_map (λ (object : Object). parsed (length object.content) id.kind object.content) o) stands
    ∙ ap (λ found. Some found) (parsed_whole id.kind (length content) content items spelled (omega arith))
