-- A put of the object of a content, in the words of the content.
use Rattle.std.proofs.Common.{◌≡◌, ◌∙◌, ◌⊎◌, inl, inr, sym, ap, subst, length, ◌<◌, ◌^◌}
use Rattle.std.specs.Prelude.{IsTrue, Some}
use Rattle.std.specs.FinMap.{contains_key}
use Rattle.gix_hash.specs.Id.{Id, id_of}
use Rattle.gix_hash.specs.declared.kind.Kind.{Kind}
use Rattle.gix_ref_file.specs.Tree.{Tree}
use Rattle.gix_ref_file.specs.History.{History, Adds}
use Rattle.gix_ref_file.proofs.Rooted.{adds_now}
use Rattle.gix_object_lines.specs.declared.kind.Kind.{Kind as ObjectKind}
use Rattle.gix_object_write.specs.Keeping.{IsAsBefore, Puts}
use Rattle.history_model.specs.Bytes.{Bytes}
use Rattle.history_model.specs.Objects.{object_text}
use Rattle.history_model.specs.Places.{file_at, object_place}
use Rattle.history_store.specs.Ids.{IdSet, with_id}
use Rattle.history_store.specs.KnownObjects.{object_at}
use Rattle.history_texts.specs.ObjectTexts.{object_id}
use Rattle.history_store.specs.Stores.{HoldsFile, IsIdTaken, IsTaken, MayHold, MayStand, place_of, text_of}
use Rattle.history_texts.specs.declared.object.NewObject.{NewObject}
use Rattle.history_store.proofs.Maps.{Knows, StaysAt, comes, knows_more, object_stays, stands_there, stays_when_put, stays_when_stood, still_knows, table_in, table_stays}

-- the object is that of the content
pub record IsObject (digests : Kind) (kind : ObjectKind) (content : Bytes) (object : NewObject) : Type 0 where
  pub id : id_of object.id ≡ object_id digests kind content
  pub of_kind : object.kind ≡ kind
  pub bytes : object.content.items ≡ content

-- at the end the files are as they may be while the text is put
pub may_at_end : (place text : Bytes) (old new : History) → Adds (MayHold place text old.tree) old new → MayStand place text old.tree new.tree
may_at_end place text old new adds = by_case (adds_now _ old new adds)
  where
    by_case : (new.tree ≡ old.tree) ⊎ MayHold place text old.tree new.tree → MayStand place text old.tree new.tree
    by_case (inl same) = inl (λ path apart. ap (λ tree. file_at tree path) same)
    by_case (inr holds) = holds.files

module _ (digests : Kind) (kind : ObjectKind) (content : Bytes) (object : NewObject) (is : IsObject digests kind content object) where
  abbrev own_id : Id
  own_id = object_id digests kind content

  abbrev place : Bytes
  place = object_place own_id

  abbrev text : Bytes
  text = object_text kind content

  place_is : place_of object ≡ place
  place_is = ap object_place is.id

  text_is : text_of object ≡ text
  text_is = λ i. object_text (is.of_kind i) (is.bytes i)

  pub told : (P : Bytes → Bytes → Type 0) → P (place_of object) (text_of object) → P place text
  told P x = subst (λ t. P place t) text_is (subst (λ p. P p (text_of object)) place_is x)

  pub told_back : (P : Bytes → Bytes → Type 0) → P place text → P (place_of object) (text_of object)
  told_back P x = subst (λ t. P (place_of object) t) (sym text_is) (subst (λ p. P p text) (sym place_is) x)

  pub taken_told : (tree : Tree) → IsTaken object tree → IsIdTaken own_id kind content tree
  taken_told tree taken = subst (λ (t : Type 0). t) (λ i. IsIdTaken (is.id i) (is.of_kind i) (is.bytes i) tree) taken

  pub taken_back : (tree : Tree) → IsIdTaken own_id kind content tree → IsTaken object tree
  taken_back tree taken = subst (λ (t : Type 0). t) (sym (λ i. IsIdTaken (is.id i) (is.of_kind i) (is.bytes i) tree)) taken

  -- ---- if it was put
  module _ (old new : Tree) (ids : IdSet) (knows : Knows ids old) (stored : HoldsFile (place_of object) (text_of object) old new) (free : ¬ IsTaken object old) where
    holds : HoldsFile place text old new
    holds = told (λ p t. HoldsFile p t old new) stored

    stays : StaysAt place old new
    stays = stays_when_put own_id kind content old new holds.here (λ taken. free (taken_back old taken))

    pub gains : length content < 2 ^ 64 → Puts (table_in ids old) (table_in (with_id ids own_id) new) own_id (record { kind = kind; content = content })
    gains fits = comes place text old new (inr holds) stays ids knows own_id kind content holds.here fits

    -- an object that was known under the id was this one
    pub had : length content < 2 ^ 64 → IsTrue (contains_key ids own_id) → object_at old own_id ≡ Some (record { kind = kind; content = content })
    had fits known =
        sym (object_stays place text old new (inr holds) stays ids knows own_id known) ∙ stands_there place text old new (inr holds) stays ids knows own_id kind content holds.here fits

    pub gains_known : length content < 2 ^ 64 → Knows (with_id ids own_id) new
    gains_known fits = knows_more place text old new (inr holds) stays ids knows own_id kind content holds.here fits

  -- ---- if it wasn't
  module _ (old new : History) (ids : IdSet) (knows : Knows ids old.tree) (moments : Adds (MayHold (place_of object) (text_of object) old.tree) old new) (once : file_at old.tree (place_of object) ≡ Some (text_of object) → new.tree ≡ old.tree) (untouched : IsTaken object old.tree → new.tree ≡ old.tree) where
    may : MayStand place text old.tree new.tree
    may = may_at_end place text old new (told (λ p t. Adds (MayHold p t old.tree) old new) moments)

    stays_too : StaysAt place old.tree new.tree
    stays_too =
        stays_when_stood own_id kind content old.tree new.tree (λ at. once (told_back (λ p t. file_at old.tree p ≡ Some t) at))
        (λ taken. untouched (taken_back old.tree taken))

    pub keeps : IsAsBefore (table_in ids old.tree) (table_in ids new.tree)
    keeps = table_stays place text old.tree new.tree may stays_too ids knows

    pub keeps_known : Knows ids new.tree
    keeps_known = still_knows place text old.tree new.tree may stays_too ids knows
