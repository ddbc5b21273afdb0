-- Bytes spell one entry at most, and one list of entries.
use Rattle.std.proofs.Common.{◌≡◌, ◌∙◌, ap, refl, sym, subst, ℕ, ◌<◌, Bool, ◌&&◌, List, [], ◌∷◌, ◌++◌, length, length-append, arith}
use Rattle.std.specs.Prelude.{◌==◌, slice_index}
use Rattle.std.specs.Str.Parse.{AllDigits}
use Rattle.std.specs.Char.{digit_value}
use Rattle.gix_hash.specs.Id.{Id}
use Rattle.gix_hash.specs.Kind.{byte_len}
use Rattle.gix_hash.specs.Views.{IsBytesOf}
use Rattle.gix_hash.specs.declared.kind.Kind.{Kind}
use Rattle.gix_hash.specs.declared.kind.Kind.TheVariants.{Sha1, Sha256}
use Rattle.gix_object_lines.specs.Bytes.{Lacks}
use Rattle.gix_object_lines.proofs.Cuts.{cut_once, lacks_not}
use Rattle.gix_object_lines.proofs.CutLemmas.{lacks_cons}
use Rattle.gix_object_tree.specs.ModeText.{Mode, SpellsMode}
use Rattle.gix_object_tree.specs.Entry.{Item, SpellsEntry, SpellsEntries, SpellsTree, SpellsNoEntry, LacksMode, LacksNameEnd, LacksId}
use Rattle.gix_hash.proofs.KindLemmas.{byte_len-injective}

-- octal digits are no spaces
pub lacks_space : (text : List ℕ) → AllDigits 8 text → Lacks 32 text
lacks_space [] h = refl
lacks_space (c ∷ text) h =
    let P : ℕ → Type 0 = λ d. digit_value d < 8 in
    lacks_cons 32 c text (λ is. let big : P 32 = subst P is h.0 in absurd (omega arith)) (lacks_space text h.1)

pub one_mode : (text : List ℕ) (a b : Mode) → SpellsMode text a → SpellsMode text b → a ≡ b
one_mode text a b one other =
    let make : ℕ → Bool → Mode = λ value padded. record { value = value; padded = padded } in
    let values : a.value ≡ b.value = sym one.value ∙ other.value in
    let zeros = one.padded ∙ ap (λ n. (slice_index text 0 == 48) && (n == 16384)) values ∙ sym other.padded in
    ap (λ n. make n a.padded) values ∙ ap (make b.value) zeros

one_id : (bytes : List ℕ) (a b : Id) → IsBytesOf bytes a → IsBytesOf bytes b → a ≡ b
one_id bytes a b one other =
    let make : Kind → List ℕ → Id = λ kind digits. record { kind = kind; digits = digits } in
    ap (λ k. make k a.digits) (byte_len-injective a.kind b.kind (sym one.whole ∙ other.whole)) ∙ ap (make b.kind) (sym one.digits ∙ other.digits)

-- two cuts after as many bytes
one_front : (a b c d : List ℕ) → length a ≡ length c → a ++ b ≡ c ++ d → (a ≡ c) × (b ≡ d)
one_front [] b [] d long e = (refl, e)
one_front [] b (y ∷ c) d long e = absurd (omega arith)
one_front (x ∷ a) b [] d long e = absurd (omega arith)
one_front (x ∷ a) b (y ∷ c) d long e =
    let heads : x ≡ y = cc in
    let tails : a ++ b ≡ c ++ d = cc in
    let rest = one_front a b c d (omega arith) tails in
    (ap (λ z. z ∷ a) heads ∙ ap (λ t. y ∷ t) rest.0, rest.1)

-- ---- entries

pub same_mode : (text rest text' rest' : List ℕ) (mode : Mode) → Lacks 32 text → SpellsMode text' mode → text ++ 32 ∷ rest ≡ text' ++ 32 ∷ rest' → (text ≡ text') × (rest ≡ rest')
same_mode text rest text' rest' mode lacks is e = cut_once 32 text rest text' rest' lacks (lacks_space text' is.numeral.1) e

pub one_entry : (ids : Kind) (input : List ℕ) (a b : Item) (rest other : List ℕ) → SpellsEntry ids input a rest → SpellsEntry ids input b other → (a ≡ b) × (rest ≡ other)
one_entry ids input a b rest other one two =
    let make : Mode → List ℕ → Id → Item = λ mode name id. record { mode = mode; name = name; id = id } in
    let texts = same_mode one.text _ two.text _ b.mode (lacks_space one.text one.mode.numeral.1) two.mode (sym one.spelled ∙ two.spelled) in
    let names = cut_once 0 a.name _ b.name _ one.name two.name texts.1 in
    let ids_are = one_front one.bytes rest two.bytes other (one.whole ∙ sym two.whole) names.1 in
    let modes = one_mode two.text a.mode b.mode (subst (λ t. SpellsMode t a.mode) texts.0 one.mode) two.mode in
    let same_ids = one_id two.bytes a.id b.id (subst (λ t. IsBytesOf t a.id) ids_are.0 one.id) two.id in
    (ap (λ m. make m a.name a.id) modes ∙ ap (λ n. make b.mode n a.id) names.0 ∙ ap (make b.mode b.name) same_ids, ids_are.1)

-- ---- no entry

pub no_mode : (ids : Kind) (input : List ℕ) → LacksMode input → SpellsNoEntry ids input
no_mode ids input lacks item rest is = lacks is.text _ (lacks_space is.text is.mode.numeral.1) is.spelled item.mode is.mode

pub no_end : (ids : Kind) (input : List ℕ) → LacksNameEnd input → SpellsNoEntry ids input
no_end ids input lacks item rest is =
    let mode = lacks.mode in
    let texts = same_mode is.text _ lacks.text _ mode.0 (lacks_space is.text is.mode.numeral.1) mode.1 (sym is.spelled ∙ lacks.spelled) in
    lacks_not 0 item.name (is.bytes ++ rest) (subst (Lacks 0) (sym texts.1) lacks.endless)

pub no_id : (ids : Kind) (input : List ℕ) → LacksId ids input → SpellsNoEntry ids input
no_id ids input lacks item rest is =
    let mode = lacks.mode in
    let texts = same_mode is.text _ lacks.text _ mode.0 (lacks_space is.text is.mode.numeral.1) mode.1 (sym is.spelled ∙ lacks.spelled) in
    let names = cut_once 0 item.name _ lacks.name _ is.name lacks.named texts.1 in
    let total = ap (λ (t : List ℕ). length t) names.1 in
    let sum = length-append is.bytes rest in
    let whole = is.whole in
    let short = lacks.short in
    absurd (omega arith)

-- ---- lists of entries

pub entries_more : (ids : Kind) (input : List ℕ) (items : List Item) (mid : List ℕ) (item : Item) (rest : List ℕ) → SpellsEntries ids input items mid → SpellsEntry ids mid item rest → SpellsEntries ids input (items ++ item ∷ []) rest
entries_more ids input [] mid item rest front is = (rest, subst (λ t. SpellsEntry ids t item rest) (sym front) is, refl)
entries_more ids input (first ∷ items) mid item rest front is = (front.0, front.1, entries_more ids front.0 items mid item rest front.2 is)

-- what is read first is in every reading
pub read_first : (ids : Kind) (input : List ℕ) (items : List Item) (rest : List ℕ) (all : List Item) → SpellsEntries ids input items rest → SpellsTree ids input all
    → (more : List Item) × (all ≡ items ++ more) × SpellsTree ids rest more
read_first ids input [] rest all front whole = (all, refl, subst (λ t. SpellsTree ids t all) front whole)
read_first ids input (item ∷ items) rest [] front whole = absurd (not_empty front.1)
  where
    not_empty : SpellsEntry ids input item front.0 → ⊥
    not_empty is = let long = ap (λ (t : List ℕ). length t) (sym whole ∙ is.spelled) in let sum = length-append is.text (32 ∷ (item.name ++ 0 ∷ (is.bytes ++ front.0))) in omega arith
read_first ids input (item ∷ items) rest (other ∷ all) front whole =
    let same = one_entry ids input item other front.0 whole.0 front.1 whole.1 in
    let later = read_first ids front.0 items rest all front.2 (subst (λ t. SpellsTree ids t all) (sym same.1) whole.2) in
    (later.0, ap (λ i. i ∷ all) (sym same.0) ∙ ap (λ l. item ∷ l) later.1, later.2)

-- nothing is spelled by no bytes
pub none_left : (ids : Kind) (all : List Item) → SpellsTree ids [] all → all ≡ []
none_left ids [] whole = refl
none_left ids (item ∷ all) whole = absurd (too_short whole.1)
  where
    too_short : SpellsEntry ids [] item whole.0 → ⊥
    too_short is = let long = ap (λ (t : List ℕ). length t) is.spelled in let sum = length-append is.text (32 ∷ (item.name ++ 0 ∷ (is.bytes ++ whole.0))) in omega arith

-- where bytes are left and spell no entry, no list of entries is spelled
pub must_be : (ids : Kind) (rest : List ℕ) (more : List Item) → (rest ≡ [] → ⊥) → SpellsTree ids rest more → SpellsNoEntry ids rest → ⊥
must_be ids rest [] left whole none = left whole
must_be ids rest (item ∷ more) left whole none = none item whole.0 whole.1

pub empty_of : (xs : List ℕ) → length xs ≡ 0 → xs ≡ []
empty_of [] e = refl
empty_of (x ∷ xs) e = absurd (omega arith)

pub append_none : (items : List Item) → items ++ [] ≡ items
append_none [] = refl
append_none (item ∷ items) = ap (λ t. item ∷ t) (append_none items)
