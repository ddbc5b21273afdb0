-- Trees are determined by their bytes, and their bytes by them.
use Rattle.std.proofs.Common.{◌≡◌, ◌∙◌, ap, refl, sym, subst, ℕ, suc, zero, ◌<◌, ◌≤◌, Bool, true, false, ◌||◌, List, [], ◌∷◌, ◌++◌, length, map, None, append_assoc, eqb-true, codes, if◌then◌else◌, arith}
use Rattle.std.specs.Prelude.{IsTrue, ◌==◌, ◌&&◌, slice_index}
use Rattle.std.specs.Str.Parse.{IsNumeral}
use Rattle.std.specs.Fmt.{digits}
use Rattle.std.specs.List.{All, list_any}
use Rattle.std.proofs.lemmas.Fmt.{digits_is_IsNumeral}
use Rattle.std.proofs.lemmas.List.Elements.{All-head, All-tail}
use Rattle.gix_hash.specs.Id.{raw_bytes}
use Rattle.gix_hash.specs.Kind.{byte_len}
use Rattle.gix_hash.specs.declared.kind.Kind.{Kind}
use Rattle.gix_object_tree.specs.Entry.{Item, item_of, SpellsEntries, SpellsTree}
use Rattle.gix_object_tree.specs.ModeText.{Mode, SpellsMode, mode_text}
use Rattle.gix_object_tree.specs.Reading.{Place, Gives, start}
use Rattle.gix_object_tree.specs.WellFormed.{IsFilename, IsWellFormed}
use Rattle.gix_object_tree.specs.Writing.{entry_text, tree_text, has_zero, tree_refusal, HasIds, IsToldAgain, SpellsAsWritten}
use Rattle.gix_object_tree.specs.declared.tree.entry.EntryRef.{EntryRef}
use Rattle.gix_object_tree.proofs.Octals.{padded_text}
use Rattle.gix_object_tree.proofs.Spelled.{read_first, none_left, append_none}
use Rattle.gix_object_tree.proofs.Written.{no_refusal, refused, raw_of}
use Rattle.gix_hash.proofs.KindLemmas.{byte_len-injective}

pub one_tree : (ids : Kind) (content : List ℕ) (one other : List Item) → SpellsTree ids content one → SpellsTree ids content other → one ≡ other
one_tree ids content one other is also =
    let later = read_first ids content one [] other is also in
    sym (later.1 ∙ ap (λ t. one ++ t) (none_left ids later.0 later.2) ∙ append_none one)

all_cons : (P : Item → Type 0) (item : Item) (items : List Item) → P item → All P items → All P (item ∷ items)
all_cons P item items first rest zero d within = first
all_cons P item items first rest (suc k) d within = rest k d (omega arith)

pub has_ids : (ids : Kind) (input : List ℕ) (items : List Item) (rest : List ℕ) → SpellsEntries ids input items rest → HasIds ids items
has_ids ids input [] rest is = λ k d within. absurd (omega arith)
has_ids ids input (item ∷ items) rest is =
    all_cons (λ (i : Item). i.id.kind ≡ ids) item items (byte_len-injective item.id.kind ids (sym is.1.id.whole ∙ is.1.whole)) (has_ids ids is.0 items rest is.2)

plain_names : (ids : Kind) (input : List ℕ) (items : List Item) (rest : List ℕ) → SpellsEntries ids input items rest → list_any has_zero items ≡ false
plain_names ids input [] rest is = refl
plain_names ids input (item ∷ items) rest is = ap (λ b. b || list_any has_zero items) is.1.name ∙ plain_names ids is.0 items rest is.2

pub not_refused : (ids : Kind) (content : List ℕ) (items : List Item) → SpellsTree ids content items → tree_refusal items ≡ None
not_refused ids content items is = no_refusal items (plain_names ids content items [] is)

fine_names : (items : List Item) → All (λ (item : Item). IsFilename item.name) items → list_any has_zero items ≡ false
fine_names [] all = refl
fine_names (item ∷ items) all =
    let first = All-head (λ (i : Item). IsFilename i.name) item items all in
    ap (λ b. b || list_any has_zero items) first.endless ∙ fine_names items (All-tail (λ (i : Item). IsFilename i.name) item items all)

pub well_formed_written : (items : List Item) → IsWellFormed items → tree_refusal items ≡ None
well_formed_written items is = no_refusal items (fine_names items is.names)

regroup : (mode name raw rest : List ℕ) → (mode ++ 32 ∷ (name ++ 0 ∷ raw)) ++ rest ≡ mode ++ 32 ∷ (name ++ 0 ∷ (raw ++ rest))
regroup mode name raw rest = append_assoc mode (32 ∷ (name ++ 0 ∷ raw)) rest ∙ ap (λ t. mode ++ 32 ∷ t) (append_assoc name (0 ∷ raw) rest)

pub written_again : (ids : Kind) (content : List ℕ) (items : List Item) → SpellsAsWritten ids content items → tree_text items ≡ content
written_again ids content [] is = sym is
written_again ids content (item ∷ items) (rest, is, plain, more) =
    ap (λ t. entry_text item ++ t) (written_again ids rest items more)
    ∙ regroup (mode_text item.mode) item.name (raw_bytes item.id) rest
    ∙ ap (λ t. mode_text item.mode ++ 32 ∷ (item.name ++ 0 ∷ (t ++ rest))) (sym (raw_of is.bytes item.id is.id))
    ∙ ap (λ t. t ++ 32 ∷ (item.name ++ 0 ∷ (is.bytes ++ rest))) (sym plain)
    ∙ sym is.spelled

spelled_back : (ids : Kind) (items : List Item) → All IsToldAgain items → list_any has_zero items ≡ false → HasIds ids items → SpellsTree ids (tree_text items) items
spelled_back ids [] told fine ids_are = refl
spelled_back ids (item ∷ items) told fine ids_are =
    let first = All-head IsToldAgain item items told in
    let kind = All-head (λ (i : Item). i.id.kind ≡ ids) item items ids_are in
    let names = both_false (has_zero item) (list_any has_zero items) fine in (
      tree_text items,
      record {
        text = mode_text item.mode;
        bytes = raw_bytes item.id;
        mode = first.mode;
        name = names.0;
        id = first.id;
        whole = first.id.whole ∙ ap byte_len kind;
        spelled = regroup (mode_text item.mode) item.name (raw_bytes item.id) (tree_text items);
      },
      spelled_back ids items (All-tail IsToldAgain item items told) names.1 (All-tail (λ (i : Item). i.id.kind ≡ ids) item items ids_are),
    )
  where
    both_false : (a b : Bool) → (a || b) ≡ false → (a ≡ false) × (b ≡ false)
    both_false true b e = absurd cc
    both_false false b e = (refl, e)

accepted_by : (items : List Item) (b : Bool) → list_any has_zero items ≡ b → tree_refusal items ≡ None → list_any has_zero items ≡ false
accepted_by items true is none = let bad = refused items is in absurd cc
accepted_by items false is none = is

pub tree_back : (ids : Kind) (items : List Item) → All IsToldAgain items → tree_refusal items ≡ None → HasIds ids items → SpellsTree ids (tree_text items) items
tree_back ids items told none = spelled_back ids items told (accepted_by items (list_any has_zero items) refl none)

-- ---- modes

and_false : (b : Bool) → (b && false) ≡ false
and_false true = refl
and_false false = refl

tree_digits : ((slice_index (digits 8 false 16384) 0 == 48) && (16384 == 16384)) ≡ false
unfolding digits
tree_digits = refl

-- a tree's digits don't begin with a zero
plain_by : (value : ℕ) (b : Bool) → (value == 16384) ≡ b → false ≡ ((slice_index (digits 8 false value) 0 == 48) && (value == 16384))
plain_by value false is = sym (ap (λ c. (slice_index (digits 8 false value) 0 == 48) && c) is ∙ and_false (slice_index (digits 8 false value) 0 == 48))
plain_by value true is = let same = eqb-true value 16384 is in sym (ap (λ n. (slice_index (digits 8 false n) 0 == 48) && (n == 16384)) same ∙ tree_digits)

plain_back : (mode : Mode) → mode.padded ≡ false → mode.value < 65536 → length (digits 8 false mode.value) ≤ 6 → SpellsMode (digits 8 false mode.value) mode
plain_back mode plain fits short =
    let told = digits_is_IsNumeral 8 false (omega arith) (omega arith) mode.value (omega arith) in
    record {
      numeral = told.0;
      short = omega arith;
      value = told.1;
      fits = fits;
      padded = plain ∙ plain_by mode.value (mode.value == 16384) refl;
    }

padded_numeral : IsNumeral 8 (codes "040000")
padded_numeral = (omega arith, (omega arith, (omega arith, (omega arith, (omega arith, (omega arith, (omega arith, tt)))))))

mode_by : (mode : Mode) (b : Bool) → mode.padded ≡ b → mode.value < 65536 → (IsTrue mode.padded → mode.value ≡ 16384) → length (mode_text mode) ≤ 6 → SpellsMode (mode_text mode) mode
mode_by mode false is fits alone short =
    let text : mode_text mode ≡ digits 8 false mode.value = ap (λ b. if b then 48 ∷ digits 8 false mode.value else digits 8 false mode.value) is in
    subst (λ t. SpellsMode t mode) (sym text) (plain_back mode is fits (subst (λ t. length t ≤ 6) text short))
mode_by mode true is fits alone short =
    let value = alone is in
    let text = padded_text mode is value in
    let told = digits_is_IsNumeral 8 false (omega arith) (omega arith) mode.value (omega arith) in
    subst (λ t. SpellsMode t mode) (sym text)
    (record {
      numeral = padded_numeral;
      short = omega arith;
      value = sym value;
      fits = fits;
      padded = is ∙ ap (λ n. (slice_index (codes "040000") 0 == 48) && (n == 16384)) (sym value);
    })

pub mode_back : (mode : Mode) → mode.value < 65536 → (IsTrue mode.padded → mode.value ≡ 16384) → length (mode_text mode) ≤ 6 → SpellsMode (mode_text mode) mode
mode_back mode fits alone short = mode_by mode mode.padded refl fits alone short

-- ---- the reader

pub gives : (ids : Kind) (content : List ℕ) (entries : List EntryRef) → SpellsTree ids content (map item_of entries) → Gives (start ids content) entries (start ids [])
gives ids content [] is = ap (λ t. start ids t) (sym is)
gives ids content (entry ∷ entries) (rest, is, more) = (start ids rest, (refl, is), gives ids rest entries more)

pub gives_only : (ids : Kind) (content : List ℕ) (entries : List EntryRef) → Gives (start ids content) entries (start ids []) → SpellsTree ids content (map item_of entries)
gives_only ids content [] is = sym (ap (λ (p : Place). p.input) is)
gives_only ids content (entry ∷ entries) (next, step, more) =
    let there : next ≡ start ids next.input = ap (λ k. record { kind = k; input = next.input }) step.0 in
    (next.input, step.1, gives_only ids next.input entries (subst (λ p. Gives p entries (start ids [])) there more))
