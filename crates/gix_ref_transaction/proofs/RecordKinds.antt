-- The hash function of packed records: of those that are read, of those that edits say, and so of
-- those that are written.
use Rattle.std.proofs.Common.{◌≡◌, refl, sym, ◌∙◌, ap, subst, arith, ℕ, ◌+◌, Bool, true, false, cond, ◌&&◌, take, drop, codes, List, [], ◌∷◌, ◌++◌, bytes_eq, Option, Some, None, option_map}
use Rattle.std.specs.Prelude.{IfSome, is_some, option_and_then}
use Rattle.std.specs.Option.{option_to_list}
use Rattle.std.specs.List.{AllByRecursion}
use Rattle.std.specs.Ordering.{is_eq, nat_cmp}
use Rattle.std.specs.Cmp.Lexicographic.{slice_cmp}
use Rattle.std.specs.declared.cmp.Ordering.TheVariants.{Less}
use Rattle.std.proofs.lemmas.Map.Text.{is_eq-slice_cmp}
use Rattle.std.proofs.lemmas.Slice.Eq.{bytes_eq-Decides}
use Rattle.gix_hash.specs.Id.{Id}
use Rattle.gix_hash.specs.Kind.{hex_len}
use Rattle.gix_hash.specs.declared.kind.Kind.{Kind}
use Rattle.gix_hash.specs.declared.kind.Kind.TheVariants as kinds
use Rattle.gix_object_lines.specs.NameTest.{begins, is_full_name}
use Rattle.gix_object_lookup.specs.Table.{Table}
use Rattle.gix_ref_name.specs.Targets.{Points, ToObject, ToName, target_view}
use Rattle.gix_ref_edit.specs.declared.change.Change.{Change}
use Rattle.gix_ref_edit.specs.declared.change.Change.TheVariants.{Update, Delete}
use Rattle.gix_ref_edit.specs.declared.change.RefEdit.{RefEdit}
use Rattle.gix_ref_edit.specs.declared.log.RefLog.{RefLog}
use Rattle.gix_ref_edit.specs.declared.log.RefLog.TheVariants.{AndReference, Only}
use Rattle.gix_ref_format.specs.Ids.{id_from_hex}
use Rattle.gix_ref_format.specs.Lines.{lines as lines_of, cut_line}
use Rattle.gix_ref_format.specs.Lookup.{packed_key}
use Rattle.gix_ref_format.specs.Packed.{Record, Item, Good, Bad, BadHeader, items, item_of, items_behind_header, header_line, is_headed, next_number, packed_items, packed_records, peel_behind, peel_line, peel_text, record_line, record_text, all_good, without_peel}
use Rattle.gix_ref_format.specs.PackedBuffer.{KeepsFile, hit}
use Rattle.gix_ref_format.specs.PackedKept.{kept}
use Rattle.gix_ref_format.specs.declared.packed.Header.{Header}
use Rattle.gix_ref_format.specs.declared.packed.buffer.Buffer.{Buffer}
use Rattle.gix_ref_format.proofs.IdLemmas.{id_from_hex-tells}
use Rattle.gix_ref_format.specs.Edited.{Line, line_at, under, Ascend, ComesBefore, IsEdited}
use Rattle.gix_ref_format.specs.Written.{AllHaveKind, HasKind}
use Rattle.gix_ref_store.specs.Peels.{TagNames, LeadsOver}
use Rattle.gix_ref_lock.specs.Records.{records_in}
use Rattle.gix_ref_way.specs.Ways.{Bytes}
use Rattle.gix_ref_transaction.specs.Reads.{AllGiveKind, GivesKind, IsOfKind}
use Rattle.gix_ref_transaction.specs.Repacking.{SaysOfRecord, SaysByKey, SayOfRecords, UpdatesRecord, TellsPeeled}

inner : {A : Type 0} {r s : A} → Some r ≡ Some s → r ≡ s
inner e = cc

-- ---- of records and lines that are found

abbrev pub HitsHaveKind : Kind → List Record → Type 0
HitsHaveKind kind rs = (name : Bytes) (r : Record) → hit rs name ≡ Some r → HasKind kind r

all_hits : (kind : Kind) (rs : List Record) → AllHaveKind kind rs → HitsHaveKind kind rs
all_hits kind [] all name r e = cc
all_hits kind (x ∷ xs) (h, all) name r e = go (all_hits kind xs all name r) (bytes_eq x.name name) refl
  where
    go : (hit xs name ≡ Some r → HasKind kind r) → (b : Bool) → bytes_eq x.name name ≡ b → HasKind kind r
    go later true is = subst (HasKind kind) (inner (sym (ap (λ b. cond b (Some x) (hit xs name)) is) ∙ e)) h
    go later false is = later (sym (ap (λ b. cond b (Some x) (hit xs name)) is) ∙ e)

abbrev LineHasKind : Kind → Line → Type 0
LineHasKind kind line = IfSome line.says (HasKind kind)

all_lines : (kind : Kind) (ls : List Line) → AllByRecursion (LineHasKind kind) ls → (name : Bytes) (line : Line) → line_at ls name ≡ Some line → LineHasKind kind line
all_lines kind [] all name line e = cc
all_lines kind (x ∷ xs) (h, all) name line e = go (all_lines kind xs all name line) (bytes_eq x.name name) refl
  where
    go : (line_at xs name ≡ Some line → LineHasKind kind line) → (b : Bool) → bytes_eq x.name name ≡ b → LineHasKind kind line
    go later true is = subst (LineHasKind kind) (inner (sym (ap (λ b. cond b (Some x) (line_at xs name)) is) ∙ e)) h
    go later false is = later (sym (ap (λ b. cond b (Some x) (line_at xs name)) is) ∙ e)

-- ---- of records that are read

abbrev ItemHasKind : Kind → Item → Type 0
ItemHasKind kind (Good r) = HasKind kind r
ItemHasKind kind (Bad number line) = Unit {0}
ItemHasKind kind (BadHeader line) = Unit {0}

good_kinds : (kind : Kind) (all : List Item) (rs : List Record) → AllByRecursion (ItemHasKind kind) all → all_good all ≡ Some rs → AllHaveKind kind rs
good_kinds kind [] rs held e = subst (AllHaveKind kind) (inner e) tt
good_kinds kind (Bad number line ∷ rest) rs held e = cc
good_kinds kind (BadHeader line ∷ rest) rs held e = cc
good_kinds kind (Good r ∷ rest) rs (h, held) e = go (λ more. good_kinds kind rest more held) (all_good rest) refl
  where
    go : ((more : List Record) → all_good rest ≡ Some more → AllHaveKind kind more) → (o : Option (List Record)) → all_good rest ≡ o → AllHaveKind kind rs
    go later None is = let wrong : None ≡ Some rs = sym (ap (option_map (λ more. r ∷ more)) is) ∙ e in cc
    go later (Some more) is = subst (AllHaveKind kind) (inner (sym (ap (option_map (λ more. r ∷ more)) is) ∙ e)) (h, later more is)

hex_kind : (kind : Kind) (text : List ℕ) (id : Id) → id_from_hex kind text ≡ Some id → id.kind ≡ kind
hex_kind kind text id e = (id_from_hex-tells kind text id e).2

peel_kind : (kind : Kind) (line : List ℕ) (id : Id) → peel_line kind line ≡ Some id → id.kind ≡ kind
peel_kind kind line id e = go (cut_line line) refl
  where
    by_text : (text : List ℕ) → peel_text kind text ≡ Some id → (b : Bool) → begins (codes "^") text ≡ b → id.kind ≡ kind
    by_text text told true is = hex_kind kind (drop 1 text) id (sym (ap (λ b. cond b (id_from_hex kind (drop 1 text)) None) is) ∙ told)
    by_text text told false is = let wrong : None ≡ Some id = sym (ap (λ b. cond b (id_from_hex kind (drop 1 text)) None) is) ∙ told in cc

    go : (o : Option (List ℕ)) → cut_line line ≡ o → id.kind ≡ kind
    go None is = let wrong : None ≡ Some id = sym (ap (option_and_then (peel_text kind)) is) ∙ e in cc
    go (Some text) is = by_text text (sym (ap (option_and_then (peel_text kind)) is) ∙ e) (begins (codes "^") text) refl

target_kind : (kind : Kind) (line : List ℕ) (r : Record) → record_line kind line ≡ Some r → r.target.kind ≡ kind
target_kind kind line r e = go (cut_line line) refl
  where
    by_id : (name text : List ℕ) → option_map (without_peel name) (id_from_hex kind text) ≡ Some r → (o : Option Id) → id_from_hex kind text ≡ o → r.target.kind ≡ kind
    by_id name text told None is = let wrong : None ≡ Some r = sym (ap (option_map (without_peel name)) is) ∙ told in cc
    by_id name text told (Some id) is =
        subst (λ (x : Record). x.target.kind ≡ kind) (inner (sym (ap (option_map (without_peel name)) is) ∙ told)) (hex_kind kind text id is)

    by_text : (text : List ℕ) → record_text kind text ≡ Some r
        → (b : Bool) → (begins (32 ∷ []) (drop (hex_len kind) text) && is_full_name (drop (hex_len kind + 1) text)) ≡ b → r.target.kind ≡ kind
    by_text text told true is =
        by_id (drop (hex_len kind + 1) text) (take (hex_len kind) text)
        (sym (ap (λ b. cond b (option_map (without_peel (drop (hex_len kind + 1) text)) (id_from_hex kind (take (hex_len kind) text))) None) is) ∙ told)
        (id_from_hex kind (take (hex_len kind) text)) refl
    by_text text told false is =
        let wrong : None ≡ Some r = sym (ap (λ b. cond b (option_map (without_peel (drop (hex_len kind + 1) text)) (id_from_hex kind (take (hex_len kind) text))) None) is) ∙ told in cc

    go : (o : Option (List ℕ)) → cut_line line ≡ o → r.target.kind ≡ kind
    go None is = let wrong : None ≡ Some r = sym (ap (option_and_then (record_text kind)) is) ∙ e in cc
    go (Some text) is =
        by_text text (sym (ap (option_and_then (record_text kind)) is) ∙ e) (begins (32 ∷ []) (drop (hex_len kind) text) && is_full_name (drop (hex_len kind + 1) text)) refl

behind_kind : (kind : Kind) (found : Option Record) (rest : List (List ℕ)) → IfSome (peel_behind kind found rest) (λ id. id.kind ≡ kind)
behind_kind kind None rest = tt
behind_kind kind (Some r) [] = tt
behind_kind kind (Some r) (line ∷ rest) = go (peel_line kind line) refl
  where
    go : (o : Option Id) → peel_line kind line ≡ o → IfSome (peel_line kind line) (λ id. id.kind ≡ kind)
    go None is = subst (λ (o : Option Id). IfSome o (λ id. id.kind ≡ kind)) (sym is) tt
    go (Some id) is = subst (λ (o : Option Id). IfSome o (λ id. id.kind ≡ kind)) (sym is) (peel_kind kind line id is)

item_kind : (kind : Kind) (number : ℕ) (line : List ℕ) (rest : List (List ℕ)) → ItemHasKind kind (item_of number line (peel_behind kind (record_line kind line) rest) (record_line kind line))
item_kind kind number line rest = go (record_line kind line) refl
  where
    go : (o : Option Record) → record_line kind line ≡ o → ItemHasKind kind (item_of number line (peel_behind kind (record_line kind line) rest) (record_line kind line))
    go None is = subst (λ (o : Option Record). ItemHasKind kind (item_of number line (peel_behind kind o rest) o)) (sym is) tt
    go (Some r) is = subst (λ (o : Option Record). ItemHasKind kind (item_of number line (peel_behind kind o rest) o)) (sym is)
        (record { target = target_kind kind line r is; peeled = behind_kind kind (Some r) rest })

items_kinds : (kind : Kind) (number : ℕ) (taken : Bool) (ls : List (List ℕ)) → AllByRecursion (ItemHasKind kind) (items kind number taken ls)
items_kinds kind number true [] = tt
items_kinds kind number false [] = tt
items_kinds kind number true (line ∷ rest) = items_kinds kind (next_number number) false rest
items_kinds kind number false (line ∷ rest) =
    (item_kind kind number line rest, items_kinds kind (next_number number) (is_some (peel_behind kind (record_line kind line) rest)) rest)

headed_kinds : (kind : Kind) (ls : List (List ℕ)) (all : List Item) → items_behind_header kind ls ≡ Some all → AllByRecursion (ItemHasKind kind) all
headed_kinds kind [] all e = cc
headed_kinds kind (first ∷ rest) all e = go (header_line first) refl
  where
    behind : List Item
    behind = items kind 2 false rest

    go : (o : Option Header) → header_line first ≡ o → AllByRecursion (ItemHasKind kind) all
    go None is = let wrong : None ≡ Some all = sym (ap (option_map (λ _. behind)) is) ∙ e in cc
    go (Some header) is = subst (λ (is : List Item). AllByRecursion (ItemHasKind kind) is) (inner (sym (ap (option_map (λ _. behind)) is) ∙ e)) (items_kinds kind 2 false rest)

file_kinds : (kind : Kind) (text : List ℕ) (all : List Item) → packed_items kind text ≡ Some all → AllByRecursion (ItemHasKind kind) all
file_kinds kind text all e = go (is_headed text) refl
  where
    chosen : Bool → Option (List Item)
    chosen b = cond b (items_behind_header kind (lines_of text)) (Some (items kind 1 false (lines_of text)))

    go : (b : Bool) → is_headed text ≡ b → AllByRecursion (ItemHasKind kind) all
    go true is = headed_kinds kind (lines_of text) all (sym (ap chosen is) ∙ e)
    go false is = subst (λ (is : List Item). AllByRecursion (ItemHasKind kind) is) (inner (sym (ap chosen is) ∙ e)) (items_kinds kind 1 false (lines_of text))

pub read_kinds : (kind : Kind) (text : List ℕ) (rs : List Record) → packed_records kind text ≡ Some rs → AllHaveKind kind rs
read_kinds kind text rs e = go (packed_items kind text) refl
  where
    go : (o : Option (List Item)) → packed_items kind text ≡ o → AllHaveKind kind rs
    go None is = let wrong : None ≡ Some rs = sym (ap (option_and_then all_good) is) ∙ e in cc
    go (Some all) is = good_kinds kind all rs (file_kinds kind text all is) (sym (ap (option_and_then all_good) is) ∙ e)

pub kept_kinds : (kind : Kind) (file : Option (List ℕ)) (buffer : Option Buffer) → KeepsFile kind file (option_map kept buffer) → HitsHaveKind kind (records_in buffer)
kept_kinds kind file None keeps name r e = cc
kept_kinds kind None (Some buffer) keeps name r e = absurd keeps
kept_kinds kind (Some text) (Some buffer) (records, read, holds) name r e = all_hits kind records (read_kinds kind text records read) name r (sym (holds.first name) ∙ e)

-- ---- of records that edits say

same_kind : (a b : Kind) → hex_len a ≡ hex_len b → a ≡ b
same_kind kinds.Sha1 kinds.Sha1 e = refl
same_kind kinds.Sha256 kinds.Sha256 e = refl
same_kind kinds.Sha1 kinds.Sha256 e = absurd (omega (arith, e))
same_kind kinds.Sha256 kinds.Sha1 e = absurd (omega (arith, e))

named_kind : (table : Table) (id target : Id) → TagNames table id target → target.kind ≡ id.kind
named_kind table id target (content, digits, after, stands, spells, hex) = same_kind target.kind id.kind (sym hex.whole ∙ spells.hex.0)

leads_kind : (table : Table) (id : Id) (tags : List Id) (end : Id) → LeadsOver table id tags end → end.kind ≡ id.kind
leads_kind table id [] end leads = ap (λ (i : Id). i.kind) (sym leads)
leads_kind table id (tag ∷ tags) end (is, (next, names, more)) = leads_kind table next tags end more ∙ named_kind table id next names

told_kind : (kind : Kind) (table : Table) (id : Id) (peeled : Option Id) → id.kind ≡ kind → TellsPeeled table id peeled → IfSome peeled (λ i. i.kind ≡ kind)
told_kind kind table id None same tells = tt
told_kind kind table id (Some end) same ((tags, leads, plain), other) = leads_kind table id tags end leads ∙ same

updated_kind : (kind : Kind) (packs : Option Table) (mode : RefLog) (new : Points) (k : Bytes) (line : Line) → IsOfKind kind new → UpdatesRecord packs mode new k (Some line) → LineHasKind kind line
updated_kind kind None mode new k line of_kind says = cc
updated_kind kind (Some table) Only new k line of_kind says = cc
updated_kind kind (Some table) AndReference (ToName name) k line of_kind says = cc
updated_kind kind (Some table) AndReference (ToObject id) k line of_kind (peeled, tells, is) =
    subst (LineHasKind kind) (sym (inner is)) (record { target = of_kind; peeled = told_kind kind table id peeled of_kind tells })

said_kind : (kind : Kind) (packs : Option Table) (change : Change) (key : Option Bytes) (line : Line) → GivesKind kind change → SaysByKey packs change key (Some line) → LineHasKind kind line
said_kind kind packs change None line gives says = cc
said_kind kind packs (Delete expected AndReference) (Some k) line gives says = subst (LineHasKind kind) (sym (inner says)) tt
said_kind kind packs (Delete expected Only) (Some k) line gives says = cc
said_kind kind packs (Update log expected new) (Some k) line gives says = updated_kind kind packs log.mode (target_view new) k line gives says

joined_lines : (kind : Kind) (own : Option Line) (rest : List Line) → IfSome own (LineHasKind kind) → AllByRecursion (LineHasKind kind) rest → AllByRecursion (LineHasKind kind) (option_to_list own ++ rest)
joined_lines kind None rest held all = all
joined_lines kind (Some line) rest held all = (held, all)

pub said_kinds : (kind : Kind) (packs : Option Table) (edits : List RefEdit) (ls : List Line) → AllGiveKind kind edits → SayOfRecords packs edits ls → AllByRecursion (LineHasKind kind) ls
said_kinds kind packs [] ls give say = subst (λ (l : List Line). AllByRecursion (LineHasKind kind) l) (sym say) tt
said_kinds kind packs (edit ∷ edits) ls (gives, give) (own, rest, says, later, is) =
    subst (λ (l : List Line). AllByRecursion (LineHasKind kind) l) (sym is) (joined_lines kind own rest (by_line own says) (said_kinds kind packs edits rest give later))
  where
    by_line : (o : Option Line) → SaysOfRecord packs edit o → IfSome o (LineHasKind kind)
    by_line None said = tt
    by_line (Some line) said = said_kind kind packs edit.change (packed_key edit.name) line gives said

-- ---- of records under edits

apart_names : (a b : Bytes) → slice_cmp nat_cmp a b ≡ Less → bytes_eq a b ≡ false
apart_names a b less = sym (is_eq-slice_cmp a b) ∙ ap is_eq less

found_behind : (name other : Bytes) (rest : List Record) (r : Record) → ComesBefore name rest → hit rest other ≡ Some r → bytes_eq name other ≡ false
found_behind name other [] r before e = cc
found_behind name other (x ∷ xs) r (less, before) e = go (found_behind name other xs r before) (bytes_eq x.name other) refl
  where
    go : (hit xs other ≡ Some r → bytes_eq name other ≡ false) → (b : Bool) → bytes_eq x.name other ≡ b → bytes_eq name other ≡ false
    go later true is = ap (bytes_eq name) (sym ((bytes_eq-Decides x.name other).0 is)) ∙ apart_names name x.name less
    go later false is = later (sym (ap (λ b. cond b (Some x) (hit xs other)) is) ∙ e)

all_of_hits : (kind : Kind) (rs : List Record) → Ascend rs → HitsHaveKind kind rs → AllHaveKind kind rs
all_of_hits kind [] ascend hits = tt
all_of_hits kind (r ∷ rs) (before, ascend) hits = (
  hits r.name r (ap (λ b. cond b (Some r) (hit rs r.name)) ((bytes_eq-Decides r.name r.name).1 refl)),
  all_of_hits kind rs ascend (λ name x e. hits name x (ap (λ b. cond b (Some r) (hit rs name)) (found_behind r.name name rs x before e) ∙ e)),
)

pub edited_kinds : (kind : Kind) (records : List Record) (ls : List Line) (after : List Record) → HitsHaveKind kind records → AllByRecursion (LineHasKind kind) ls → IsEdited records ls after → AllHaveKind kind after
edited_kinds kind records ls after hits said edited = all_of_hits kind after edited.ascend each
  where
    by_line : (name : Bytes) (r : Record) (o : Option Line) → line_at ls name ≡ o → under o (hit records name) ≡ Some r → HasKind kind r
    by_line name r None is e = hits name r e
    by_line name r (Some line) is e = subst (λ (s : Option Record). IfSome s (HasKind kind)) e (all_lines kind ls said name line is)

    each : HitsHaveKind kind after
    each name r e = by_line name r (line_at ls name) refl (sym (edited.each name) ∙ e)
