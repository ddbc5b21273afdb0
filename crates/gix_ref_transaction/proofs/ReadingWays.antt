-- What all names read as while a transaction is committed, and afterwards.
use Rattle.std.proofs.Common.{◌≡◌, ◌≢◌, ◌⊎◌, inl, inr, ⊎_elim, refl, sym, ◌∙◌, ap, subst, Bool, true, false, cond, List, [], ◌∷◌, Option, Some, None}
use Rattle.std.specs.Prelude.{IsSome, unwrap_or}
use Rattle.std.specs.List.{AllByRecursion}
use Rattle.gix_object_lookup.specs.Table.{Table}
use Rattle.gix_object_lines.specs.NameTest.{is_full_name}
use Rattle.gix_ref_file.specs.Tree.{Tree}
use Rattle.gix_ref_edit.specs.declared.change.RefEdit.{RefEdit}
use Rattle.gix_ref_format.specs.Lookup.{packed_key}
use Rattle.gix_ref_format.specs.Edited.{Line}
use Rattle.gix_ref_store.specs.Places.{Base, place, packed_place}
use Rattle.gix_ref_store.specs.RefStates.{Absent, ref_state, read_by, told_by, records_of, packed_text_in}
use Rattle.gix_ref_lock.specs.PackedEdits.{place_of as packed_place_of, lock_path_of as packed_lock_of}
use Rattle.gix_ref_lock.specs.declared.packed.Transaction.{Transaction as Packed}
use Rattle.gix_ref_way.specs.Ways.{Bytes, file_at}
use Rattle.gix_ref_lock.specs.Contents.{contents, place_of, lock_path_of, moved, IsBetween}
use Rattle.gix_ref_lock.specs.Committing.{commit_paths, PackedStays, PackedIsNew, Shows, StaysYet, FileStays, OnTheWay, IsCommitted}
use Rattle.gix_ref_lock.specs.Moments.{SameButLocks}
use Rattle.gix_ref_lock.specs.Moves.{IsNone, Once, all_paths}
use Rattle.gix_ref_lock.specs.declared.act.Move.{Move}
use Rattle.gix_ref_lock.proofs.OnWays.{once_moves}
use Rattle.gix_ref_lock.proofs.PathLists.{all_weaker, all_both}
use Rattle.gix_ref_transaction.specs.Plans.{AllHold, AllPlanned, HoldsText, IsPlanOf}
use Rattle.gix_ref_transaction.specs.Reads.{Prepared, IsReadBack, AreReadBack, IsAsPrepared, IsOther, ReadsChanged, ReadsEdited, ReadsOnWay}
use Rattle.gix_ref_transaction.specs.Repacking.{HoldsIf, SaysOfRecord}
use Rattle.gix_ref_transaction.proofs.KeyLines.{IsSaid, PlacesApart, SaidOf, all_said_of, no_line}
use Rattle.gix_ref_transaction.proofs.PathEnds.{place_free, packed_place_free}
use Rattle.gix_ref_transaction.proofs.Readings.{NewTold, OneEdit, told, same, new_told, none_told, reads_end, reads_on_way, no_key}

-- ---- packed records, before and after they are replaced
pub record Packing (b : Base) (before old x : Tree) (lines : List Line) (t : Option Packed) : Type 0 where
  pub stays : PackedStays t old x → packed_text_in b x ≡ packed_text_in b before
  pub news : PackedIsNew t old x → (name : Bytes) (own : Option Line) → IsSaid lines (packed_key name) own → NewTold own (told b before name) (told b x name)

pub packing : (b : Base) (before old x : Tree) (lines : List Line) (t : Option Packed) (holds : HoldsIf b before old lines t) → AreReadBack b before old lines t holds → SameButLocks before old
    → (t ≡ None → file_at x (packed_place b) ≡ file_at old (packed_place b)) → Packing b before old x lines t
packing b before old x lines None holds reads locks unmoved = record {
  stays = λ stays. here;
  news = λ new name own said. none_told b before x name lines own holds here said;
}
  where
    here : packed_text_in b x ≡ packed_text_in b before
    here = unmoved refl ∙ locks (packed_place b) (packed_place_free b)
packing b before old x lines (Some t) (changes, holds) reads locks unmoved = record {
  stays = λ stays. ap (file_at x) (sym holds.here) ∙ stays ∙ ap (file_at old) holds.here ∙ locks (packed_place b) (packed_place_free b);
  news = λ new name own said. new_told b before old x name lines own t holds reads
      (ap (file_at x) (sym holds.here) ∙ new ∙ ap (λ w. cond w (Some (unwrap_or (file_at old (packed_lock_of t)) [])) (file_at old (packed_place_of t))) holds.written ∙ ap (λ f. Some (unwrap_or f [])) holds.holds) said;
}

-- ---- places that occur once
none_places : (b : Base) (removes : Bool) (p : Bytes) (edits : List RefEdit) (moves : List Move) → AllPlanned b removes edits moves → IsNone p (all_paths moves) → AllByRecursion (λ other. p ≢ place b other.name) edits
none_places b removes p [] moves plans none = tt
none_places b removes p (edit ∷ edits) [] plans none = absurd plans
none_places b removes p (edit ∷ edits) (m ∷ moves) plans none = (λ e. none.0 (e ∙ sym plans.0.file), none_places b removes p edits moves plans.1 none.1.1.1)

pub places_apart : (b : Base) (removes : Bool) (edits : List RefEdit) (moves : List Move) → AllPlanned b removes edits moves → Once (all_paths moves) → PlacesApart b edits
places_apart b removes [] moves plans once = tt
places_apart b removes (edit ∷ edits) [] plans once = absurd plans
places_apart b removes (edit ∷ edits) (m ∷ moves) plans once = (
  subst (λ (p : Bytes). AllByRecursion (λ other. p ≢ place b other.name) edits) plans.0.file (none_places b removes (place_of m) edits moves plans.1 once.0.1.1),
  places_apart b removes edits moves plans.1 once.1.1.1,
)

-- ---- one name after another
abbrev OnWay : Base → Option Table → Bool → Tree → Tree → RefEdit → Type 0
OnWay b packs removes before x edit =
    (ref_state b x edit.name ≡ ref_state b before edit.name) ⊎ ReadsChanged packs removes edit.name edit.change (ref_state b before edit.name) (ref_state b x edit.name)

record AtMoment (t : Option Packed) (old x : Tree) (m : Move) : Type 0 where
  pub between : IsBetween m.act (contents m old) (contents m x)
  pub order : (StaysYet m.act (contents m old) (contents m x) × PackedStays t old x) ⊎ Shows m.act (contents m old) (contents m x)
  pub records : FileStays m.act (contents m old) (contents m x) ⊎ PackedIsNew t old x

module _ (b : Base) (packs : Option Table) (removes : Bool) (fits : removes ≡ true → IsSome packs) (before old x : Tree) (locks : SameButLocks before old) (lines : List Line) (t : Option Packed) (packed : Packing b before old x lines t) where
  one_edit : (edit : RefEdit) (m : Move) (own : Option Line) → IsPlanOf b removes edit m → HoldsText edit.change m.act (lock_path_of m) old → IsReadBack b.kind edit.change → SaysOfRecord packs edit own → OneEdit b packs removes before old edit m own
  one_edit edit m own plan text back says = record {
    full = plan.full;
    fits = fits;
    file = locks (place b edit.name) (place_free b edit.name plan.full);
    plan = plan;
    text = text;
    back = back;
    says = says;
  }

  still_told : (name : Bytes) → PackedStays t old x → told b x name ≡ told b before name
  still_told name stays = ap (λ o. told_by (records_of b.kind o) name) (packed.stays stays)

  all_on_way : PackedStays t old x ⊎ PackedIsNew t old x → (edits : List RefEdit) (moves : List Move) → AllPlanned b removes edits moves → AllHold old edits moves → AllByRecursion (λ edit. IsReadBack b.kind edit.change) edits
      → AllByRecursion (SaidOf packs lines) edits → AllByRecursion (AtMoment t old x) moves → AllByRecursion (OnWay b packs removes before x) edits
  all_on_way either [] moves plans texts backs said moments = tt
  all_on_way either (edit ∷ edits) [] plans texts backs said moments = absurd plans
  all_on_way either (edit ∷ edits) (m ∷ moves) plans texts backs ((own, says, is), said) moments =
      let now = moments.0 in
      let new = λ (n : PackedIsNew t old x). packed.news n edit.name own is in (
        reads_on_way b packs removes before old x edit m own (one_edit edit m own plans.0 texts.0 backs.0 says) edit.change m.act refl refl plans.0.act now.between
            (⊎_elim (λ first. inl (first.0, still_told edit.name first.1)) inr now.order) (⊎_elim inl (λ n. inr (new n)) now.records) (⊎_elim (λ s. inl (still_told edit.name s)) (λ n. inr (new n)) either),
        all_on_way either edits moves plans.1 texts.1 backs.1 said moments.1,
      )

  all_at_end : PackedIsNew t old x → (edits : List RefEdit) (moves : List Move) → AllPlanned b removes edits moves → AllHold old edits moves → AllByRecursion (λ edit. IsReadBack b.kind edit.change) edits
      → AllByRecursion (SaidOf packs lines) edits → AllByRecursion (λ m. contents m x ≡ moved m.act (contents m old)) moves
      → AllByRecursion (λ edit. ReadsChanged packs removes edit.name edit.change (ref_state b before edit.name) (ref_state b x edit.name)) edits
  all_at_end new [] moves plans texts backs said ends = tt
  all_at_end new (edit ∷ edits) [] plans texts backs said ends = absurd plans
  all_at_end new (edit ∷ edits) (m ∷ moves) plans texts backs ((own, says, is), said) ends = (
    reads_end b packs removes before old x edit m own (one_edit edit m own plans.0 texts.0 backs.0 says) edit.change m.act refl refl plans.0.act (ap (λ c. c.file) ends.0) (packed.news new edit.name own is),
    all_at_end new edits moves plans.1 texts.1 backs.1 said ends.1,
  )

  -- ---- names of no edit
  other_name : PackedStays t old x ⊎ PackedIsNew t old x → (name : Bytes) → file_at x (place b name) ≡ file_at old (place b name) → ((k : Bytes) → packed_key name ≡ Some k → IsSaid lines (Some k) None) → ref_state b x name ≡ ref_state b before name
  other_name either name file unsaid = by_full (is_full_name name) refl
    where
      by_key : (key : Option Bytes) → packed_key name ≡ key → told b x name ≡ told b before name
      by_key None is = no_key (records_of b.kind (packed_text_in b x)) name is ∙ sym (no_key (records_of b.kind (packed_text_in b before)) name is)
      by_key (Some k) is = ⊎_elim (still_told name) (λ n. packed.news n name None (subst (λ (key : Option Bytes). IsSaid lines key None) (sym is) (unsaid k is))) either

      by_full : (full : Bool) → is_full_name name ≡ full → ref_state b x name ≡ ref_state b before name
      by_full true is = same b before x name is (file ∙ locks (place b name) (place_free b name is)) (by_key (packed_key name) refl)
      by_full false is = ap (λ c. cond c (read_by b.kind (file_at x (place b name)) (told b x name)) Absent) is ∙ sym (ap (λ c. cond c (read_by b.kind (file_at before (place b name)) (told b before name)) Absent) is)

-- ---- a whole transaction
module _ (b : Base) (packs : Option Table) (removes : Bool) (before old : Tree) (t : Prepared) (once : Once (commit_paths t.packed t.moves)) (ready : IsAsPrepared b packs removes before old t) where
  abbrev edits : List RefEdit
  edits = t.edits

  abbrev moves : List Move
  moves = t.moves

  said : AllByRecursion (SaidOf packs ready.lines) edits
  said = all_said_of b packs edits ready.lines (places_apart b removes edits moves ready.planned (once_moves t.packed moves once)) ready.say

  module _ (x : Tree) (others : (path : Bytes) → IsNone path (commit_paths t.packed moves) → file_at x path ≡ file_at old path) where
    unmoved : (p : Option Packed) → t.packed ≡ p → p ≡ None → file_at x (packed_place b) ≡ file_at old (packed_place b)
    unmoved p is none = others (packed_place b) (subst (λ (q : Option Packed). IsNone (packed_place b) (commit_paths q moves)) (sym (is ∙ none)) ready.apart)

    packed_now : Packing b before old x ready.lines t.packed
    packed_now = packing b before old x ready.lines t.packed ready.holds ready.records ready.locks (λ none. unmoved t.packed refl none)

    each_other : PackedStays t.packed old x ⊎ PackedIsNew t.packed old x → (name : Bytes) → IsOther b t name → ref_state b x name ≡ ref_state b before name
    each_other either name other =
        other_name b packs removes ready.mode before old x ready.locks ready.lines t.packed packed_now either name (others (place b name) other.place_apart) (λ k key. no_line packs edits ready.lines k ready.say (other.key_apart k key))

  pub on_way : (x : Tree) → OnTheWay t.packed moves old x → ReadsOnWay b packs removes before t x
  on_way x way = record {
    own = all_on_way b packs removes ready.mode before old x ready.locks ready.lines t.packed (packed_now x way.others) way.packed edits moves ready.planned ready.texts ready.files said moments;
    others = each_other x way.others way.packed;
  }
    where
      orders : AllByRecursion (λ m. (StaysYet m.act (contents m old) (contents m x) × PackedStays t.packed old x) ⊎ Shows m.act (contents m old) (contents m x)) moves
      orders = ⊎_elim (λ first. all_weaker (λ m. StaysYet m.act (contents m old) (contents m x)) _ moves (λ m s. inl (s, first.1)) first.0) (λ shows. all_weaker (λ m. Shows m.act (contents m old) (contents m x)) _ moves (λ m s. inr s) shows) way.order

      files : AllByRecursion (λ m. FileStays m.act (contents m old) (contents m x) ⊎ PackedIsNew t.packed old x) moves
      files = ⊎_elim (λ stay. all_weaker (λ m. FileStays m.act (contents m old) (contents m x)) _ moves (λ m s. inl s) stay) (λ new. all_weaker (λ m. IsBetween m.act (contents m old) (contents m x)) _ moves (λ m s. inr new) way.each) way.records

      moments : AllByRecursion (AtMoment t.packed old x) moves
      moments = all_both _ _ _ moves (λ m bo r. record { between = bo.0; order = bo.1; records = r })
          (all_both (λ m. IsBetween m.act (contents m old) (contents m x)) _ (λ m. IsBetween m.act (contents m old) (contents m x) × ((StaysYet m.act (contents m old) (contents m x) × PackedStays t.packed old x) ⊎ Shows m.act (contents m old) (contents m x))) moves (λ m i o. (i, o)) way.each orders) files

  pub at_end : (x : Tree) → IsCommitted t.packed moves old x → ReadsEdited b packs removes before t x
  at_end x done = record {
    own = all_at_end b packs removes ready.mode before old x ready.locks ready.lines t.packed (packed_now x done.others) done.packed edits moves ready.planned ready.texts ready.files said done.each;
    others = each_other x done.others (inr done.packed);
  }
