-- What edits say of packed records.
use Rattle.std.proofs.Common.{◌≡◌, ◌≢◌, refl, sym, ◌∙◌, ap, subst, Bool, true, false, List, [], ◌∷◌, ◌++◌, append_assoc, append-nil, length, map, ◌||◌, arith, Option, Some, None}
use Rattle.std.specs.Prelude.{IfSome, is_some, option_map, option_and_then}
use Rattle.std.proofs.lemmas.Option.{same_Some}
use Rattle.std.specs.List.{list_any}
use Rattle.std.specs.Option.{option_to_list}
use Rattle.gix_hash.specs.Id.{Id, id_of}
use Rattle.gix_hash.specs.declared.object_id.ObjectId.{ObjectId}
use Rattle.gix_hash.specs.declared.kind.Kind.{Kind}
use Rattle.gix_object_lookup.specs.Table.{Table}
use Rattle.gix_ref_file.specs.Tree.{Tree, bytes_of, node_at}
use Rattle.gix_ref_name.specs.Targets.{ToObject, target_view}
use Rattle.gix_ref_edit.specs.declared.change.RefEdit.{RefEdit}
use Rattle.std.specs.Borrow.{Bor}
use Rattle.gix_ref_format.specs.Lookup.{packed_key}
use Rattle.gix_ref_format.specs.Packed.{Record}
use Rattle.gix_ref_format.specs.PackedBuffer.{Keeps, KeepsFile, Holds, hit}
use Rattle.gix_ref_format.specs.PackedKept.{IsKnownOf, kept, text_of}
use Rattle.gix_ref_format.specs.declared.packed.buffer.Buffer.{Buffer}
use Rattle.gix_ref_format.specs.Edited.{Line}
use Rattle.gix_ref_store.specs.Follows.{Ends, follow, follow_from}
use Rattle.gix_ref_store.specs.Peels.{IsPeeled, PeelsBy, PeelsTo}
use Rattle.gix_ref_store.specs.Places.{Base, packed_place}
use Rattle.gix_ref_store.specs.Finds as finds
use Rattle.gix_ref_store.specs.RefStates.{RefState, Stands, packed_text_in, records_of}
use Rattle.gix_ref_store.specs.declared.reference.Reference.{Reference}
use Rattle.gix_ref_lock.specs.RecordEdits.{line_in}
use Rattle.gix_ref_lock.specs.declared.packed.RecordEdit.{RecordEdit}
use Rattle.gix_ref_lock.specs.PackedEdits.{IsBegun, lock_path_of}
use Rattle.gix_ref_lock.specs.Locks.{lock_of}
use Rattle.gix_ref_lock.specs.Records.{records_in, IsTextOf, HoldsEdited}
use Rattle.gix_ref_lock.specs.declared.lock.Lock.{Lock}
use Rattle.gix_ref_lock.specs.declared.packed.Transaction.{Transaction}
use Rattle.gix_ref_way.specs.Ways.{Bytes, file_at}
use Rattle.gix_ref_transaction.specs.Repacking.{SaysOfRecord, SayOfRecords, changes_record, changes_records, HoldsRecords, AreRepacked}

-- ---- one edit
-- ---- one after another: what is said so far, before whatever the rest says
abbrev pub SaidSoFar : Option Table → List RefEdit → List RefEdit → List Line → Type 0
SaidSoFar packs edits rest lines = (after : List Line) → SayOfRecords packs rest after → SayOfRecords packs edits (lines ++ after)

pub said_none : (packs : Option Table) (edits : List RefEdit) (lines : List Line) → lines ≡ [] → SaidSoFar packs edits edits lines
said_none packs edits lines none after says = subst (λ ls. SayOfRecords packs edits (ls ++ after)) (sym none) says

pub said_more : (packs : Option Table) (edits rest others : List RefEdit) (edit : RefEdit) (lines new : List Line) (own : Option Line) → rest ≡ edit ∷ others → SaidSoFar packs edits rest lines → SaysOfRecord packs edit own → new ≡ lines ++ option_to_list own → SaidSoFar packs edits others new
said_more packs edits rest others edit lines new own cut so_far says added after later =
    subst (SayOfRecords packs edits) (sym (append_assoc lines (option_to_list own) after) ∙ ap (λ ls. ls ++ after) (sym added))
    (so_far (option_to_list own ++ after) (subst (λ r. SayOfRecords packs r (option_to_list own ++ after)) (sym cut) (own, after, says, later, refl)))

pub all_said : (packs : Option Table) (edits rest : List RefEdit) (lines : List Line) → length rest ≡ 0 → SaidSoFar packs edits rest lines → SayOfRecords packs edits lines
all_said packs edits (e ∷ rest) lines none so_far = absurd (omega (arith, none))
all_said packs edits [] lines none so_far = subst (SayOfRecords packs edits) (append-nil lines) (so_far [] refl)

-- ---- whether records change
pub some_change : (records : List Record) (lines : List Line) → list_any (changes_record records) lines ≡ true → lines ≢ []
some_change records lines changes none = let wrong : true ≡ false = sym changes ∙ ap (list_any (changes_record records)) none in cc

pub none_hit : (key : Option Bytes) → is_some (option_and_then (hit []) key) ≡ false
none_hit None = refl
none_hit (Some key) = refl

same_hit : (records kept : List Record) (key : Option Bytes) → Holds records kept → option_and_then (hit records) key ≡ option_and_then (hit kept) key
same_hit records kept None holds = refl
same_hit records kept (Some key) holds = sym (holds.first key)

same_changes : (records kept : List Record) (lines : List Line) → Holds records kept → list_any (changes_record records) lines ≡ list_any (changes_record kept) lines
same_changes records kept [] holds = refl
same_changes records kept (line ∷ lines) holds =
    let one = same_hit records kept (packed_key line.name) holds in
    let rest = same_changes records kept lines holds in
    λ i. (is_some line.says || is_some (one i)) || rest i

-- what was read determines whether the records of the tree change
pub known_changes : (kind : Kind) (text : Option Bytes) (lent : Option (Bor Buffer)) (lines : List Line) → KeepsFile kind text (option_map (λ (buffer : Bor Buffer). kept buffer.now) lent)
    → changes_records (records_of kind text) lines ≡ list_any (changes_record (finds.records_in lent)) lines
known_changes kind None None lines keeps = refl
known_changes kind (Some text) None lines keeps = absurd keeps
known_changes kind None (Some buffer) lines keeps = absurd keeps
known_changes kind (Some text) (Some buffer) lines (records, reads, holds) = ap (λ rs. changes_records rs lines) reads ∙ same_changes records (kept buffer.now) lines holds

-- what has the file's records is known of it
pub known_of : (kind : Kind) (file : Option Bytes) (lent : Option (Bor Buffer)) → KeepsFile kind file (option_map (λ (buffer : Bor Buffer). kept buffer.now) lent) → IfSome lent (λ buffer. IsKnownOf kind file buffer.now)
known_of kind file None keeps = tt
known_of kind None (Some buffer) keeps = absurd keeps
known_of kind (Some text) (Some buffer) keeps = λ same. subst (λ t. Keeps kind t (kept buffer.now)) (same_Some text (text_of buffer.now) same) keeps

-- ---- the lock of packed records
pub holds_records : (kind : Kind) (place : Bytes) (old mid new : Tree) (lines : List Line) (begun t : Transaction) → IsBegun kind place old mid begun → KeepsFile kind (file_at old place) (option_map kept begun.buffer) → t.lock ≡ begun.lock → t.buffer ≡ begun.buffer → t.is_written ≡ true
    → HoldsEdited begun.kind (records_in begun.buffer) lines (lock_path_of begun) new → HoldsRecords kind place old new lines t
holds_records kind place old mid new lines begun t is records lock buffer written held = record {
  here = ap (λ (l : Lock). l.place.items) lock ∙ is.here;
  free = ap (λ (l : Lock). node_at old l.path.items) lock ∙ ap (node_at old) begun.lock.beside ∙ ap (λ (p : Bytes). node_at old (lock_of p)) is.here ∙ is.taken.free;
  written = written;
  keeps = subst (λ (b : Option Buffer). KeepsFile kind (file_at old place) (option_map kept b)) (sym buffer) records;
  text = held.text;
  holds = ap (λ (l : Lock). file_at new l.path.items) lock ∙ ap bytes_of held.here;
  told = subst (λ (b : Option Buffer). IsTextOf kind (records_in b) lines held.text) (sym buffer) (subst (λ (k : Kind). IsTextOf k (records_in begun.buffer) lines held.text) is.of_kind held.told);
}

pub changed_records : (b : Base) (packs : Option Table) (kind : Kind) (place : Bytes) (lent : Option (Bor Buffer)) (old new : Tree) (edits : List RefEdit) (lines : List Line) (t : Transaction)
    → KeepsFile b.kind (packed_text_in b old) (option_map (λ (buffer : Bor Buffer). kept buffer.now) lent) → list_any (changes_record (finds.records_in lent)) lines ≡ true → kind ≡ b.kind → place ≡ packed_place b
    → SayOfRecords packs edits lines → HoldsRecords kind place old new lines t → AreRepacked b packs old new edits (Some t)
changed_records b packs kind place lent old new edits lines t known changes of_kind here say holds = (
  lines,
  say,
  (
    known_changes b.kind (packed_text_in b old) lent lines known ∙ changes,
    subst (λ (k : Kind). HoldsRecords k (packed_place b) old new lines t) of_kind (subst (λ (p : Bytes). HoldsRecords kind p old new lines t) here holds),
  ),
)

pub unchanged_records : (b : Base) (packs : Option Table) (lent : Option (Bor Buffer)) (old new : Tree) (edits : List RefEdit) (lines : List Line)
    → KeepsFile b.kind (packed_text_in b old) (option_map (λ (buffer : Bor Buffer). kept buffer.now) lent) → list_any (changes_record (finds.records_in lent)) lines ≡ false → SayOfRecords packs edits lines → AreRepacked b packs old new edits None
unchanged_records b packs lent old new edits lines known changes say = (lines, say, known_changes b.kind (packed_text_in b old) lent lines known ∙ changes)

pub any_line : (p : Line → Bool) (edits : List RecordEdit) → list_any (λ edit. p (line_in edit)) edits ≡ list_any p (map line_in edits)
any_line p [] = refl
any_line p (edit ∷ edits) = ap (λ b. p (line_in edit) || b) (any_line p edits)

-- ---- the object that an id leads to
pub ends_id : {n m : Bytes} {i j : Id} {p q : Option Id} → Ends n i p ≡ Ends m j q → i ≡ j
ends_id e = cc

pub peels_own : (read : Bytes → RefState) (table : Table) (r : Reference) (id end : Id) → target_view r.target ≡ ToObject id → r.peeled ≡ None → IsPeeled read table r end → PeelsTo table id end
peels_own read table r id end to none told =
    let found = subst (λ (o : Option ObjectId). PeelsBy (follow_from read r) table r.name (option_map id_of o) told.0 end) none told.1 in
    let is : Ends r.name id (option_map id_of r.peeled) ≡ Ends told.0 found.0 found.1 = sym (ap (λ p. follow read 5 [] r.name (Stands p (option_map id_of r.peeled))) to) ∙ found.2 in
    subst (λ (i : Id). PeelsTo table i end) (sym (ends_id is)) found.3
