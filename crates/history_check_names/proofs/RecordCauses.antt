-- What is reported of a record of `packed-refs`: that it is sound, or why it isn't.
use Rattle.std.proofs.Common.{◌≡◌, ℕ, zero, suc, ◌+◌, ◌<◌, Bool, true, false, ◌||◌, List, [], ◌∷◌, map, length, take, get_or, refl, sym, ◌∙◌, ap, subst, bytes_eq, arith, Vec, Result}
use Rattle.std.specs.Prelude.{IsTrue, IfErr}
use Rattle.std.specs.List.{AllByRecursion, Contains, list_all, list_any}
use Rattle.std.specs.declared.alloc.Global.{Global}
use Rattle.std.proofs.lemmas.Bool.{and_parts}
use Rattle.gix_hash.specs.Id.{id_of}
use Rattle.gix_hash.specs.declared.kind.Kind.{Kind}
use Rattle.gix_hash.specs.declared.object_id.ObjectId.{ObjectId}
use Rattle.gix_ref_file.specs.Changes.{is_file_at}
use Rattle.gix_ref_file.specs.Tree.{Tree, bytes_at}
use Rattle.gix_ref_format.specs.Packed.{Record, record_of}
use Rattle.gix_ref_format.specs.declared.packed.Reference.{Reference}
use Rattle.history_model.specs.Forms.{is_name, is_private}
use Rattle.history_model.specs.NameStates as states
use Rattle.history_model.specs.NameStates.{name_state}
use Rattle.history_model.specs.Places.{packed_place}
use Rattle.history_model.proofs.PlaceLemmas.{text_itself}
use Rattle.history_check_names.specs.Causes.{HasCause, IsCollision, IsUnheld}
use Rattle.history_check_names.specs.Packed.{has_record, record_names, records_at}
use Rattle.history_check_names.specs.PackedRead.{ReadsPacked}
use Rattle.history_check_objects.specs.Stored.{Facts, kind_in}
use Rattle.history_texts.specs.declared.open_error.OpenError.{OpenError}
use Rattle.history_check_names.specs.declared.packed.Packed.{Packed}
use Rattle.history_check_names.proofs.GoodNames.{good_parts}
use Rattle.history_check_names.proofs.PackedReads.{all_of, file_of, record_read}
use Rattle.history_check_names.proofs.Told.{collision_cause, record_there, unheld_causes}

-- ---- lists of records

name_among : (records : List Record) (e : Record) → Contains records e → list_any (bytes_eq e.name) (record_names records) ≡ true
name_among [] e (k, below, at) = absurd (omega (arith, below))
name_among (r ∷ records) e (zero, below, at) = ap (λ b. b || list_any (bytes_eq e.name) (record_names records)) (ap (λ (x : Record). bytes_eq e.name x.name) at ∙ text_itself e.name)
name_among (r ∷ records) e (suc k, below, at) = right (bytes_eq e.name r.name) (name_among records e (k, omega (arith, below), at))
  where
    right : (a : Bool) {b : Bool} → b ≡ true → (a || b) ≡ true
    right true h = refl
    right false h = h

each_named : (records : List Record) → list_all is_name (record_names records) ≡ true → AllByRecursion (λ (r : Record). is_name r.name ≡ true) records
each_named [] all = tt
each_named (r ∷ records) all = let parts = and_parts (is_name r.name) (list_all is_name (record_names records)) all in (parts.0, each_named records parts.1)

-- one more of them is as those before it
pub one_more_sound : (P : Reference → Type 0) (entries : List Reference) (k : ℕ) (entry : Reference) → k < length entries → entry ≡ get_or entries k entry → AllByRecursion P (take k entries) → P entry → AllByRecursion P (take (k + 1) entries)
one_more_sound P [] k entry below is all here = absurd (omega (arith, below))
one_more_sound P (x ∷ entries) zero entry below is all here = (subst P is here, tt)
one_more_sound P (x ∷ entries) (suc k) entry below is all here =
    let n : suc k + 1 ≡ suc (k + 1) = omega arith in
    subst (λ m. AllByRecursion P (take m (x ∷ entries))) (sym n) (all.0, one_more_sound P entries k entry (omega (arith, below)) is all.1 here)

pub all_sound : (P : Record → Type 0) (entries : List Reference) (records : List Record) (k : ℕ) → map record_of entries ≡ records → take k entries ≡ entries → AllByRecursion (λ (r : Reference). P (record_of r)) (take k entries) → AllByRecursion P records
all_sound P entries records k are whole all = subst (AllByRecursion P) are (go entries (subst (AllByRecursion (λ (r : Reference). P (record_of r))) whole all))
  where
    go : (xs : List Reference) → AllByRecursion (λ (r : Reference). P (record_of r)) xs → AllByRecursion P (map record_of xs)
    go [] all = tt
    go (x ∷ xs) all = (all.0, go xs all.1)

-- ---- one record

module _ (kind : Kind) (facts : Facts) (tree : Tree) (packed : Packed) (reads : ReadsPacked kind packed tree) (e : Record) (among : Contains (map record_of packed.records.items) e) where
  there : Contains (records_at kind tree) e
  there = subst (λ rs. Contains rs e) reads.records among

  has : has_record kind tree e.name ≡ true
  has = name_among (records_at kind tree) e there

  named : is_name e.name ≡ true
  named =
      let f = file_of kind (bytes_at tree packed_place) reads.good in
      all_of (λ (r : Record). is_name r.name ≡ true) f.packed.records (each_named f.packed.records (good_parts f.packed.sorted (record_names f.packed.records) f.good).all) e (subst (λ rs. Contains rs e) f.records there)

  pub private_record : (name : Vec ℕ Global) → name.items ≡ e.name → is_private e.name ≡ true → IsTrue (is_file_at tree name.items || has_record kind tree name.items) × IsTrue (is_private name.items)
  private_record name is private = (either (is_file_at tree name.items) (ap (has_record kind tree) is ∙ has), ap is_private is ∙ private)
    where
      either : (a : Bool) {b : Bool} → b ≡ true → (a || b) ≡ true
      either true h = refl
      either false h = h

  pub collides : (A : Type 0) (error : OpenError) → is_private e.name ≡ false → IsCollision A kind tree e.name error → HasCause A kind facts tree error
  collides A error common h = collision_cause A kind facts tree e.name error reads.good common (sym (record_there kind tree e.name named has)) h

  pub unheld : {T : Type 0} (A : Type 0) (id : ObjectId) (name : Vec ℕ Global) (r : Result T OpenError) → is_private e.name ≡ false → is_file_at tree e.name ≡ false → name.items ≡ e.name → id_of id ≡ e.target
      → IfErr r (IsUnheld (kind_in facts (id_of id)) id name) → IfErr r (HasCause A kind facts tree)
  unheld A id name r common bare is id_is h =
      unheld_causes A kind facts tree id name r (ap (name_state kind tree) is ∙ record_read kind tree e reads.good common bare there ∙ ap states.Holds (sym id_is)) h
