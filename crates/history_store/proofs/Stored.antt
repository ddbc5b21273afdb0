-- What the changes of a put leave of the files.
use Rattle.std.proofs.Common.{◌≡◌, ◌≢◌, inl, inr, refl, sym, ◌∙◌, ap, subst, Bool, true, false, cond, ◌&&◌, [], ◌∷◌, ◌++◌}
use Rattle.std.specs.Prelude.{IsTrue, Option, Some, None, is_some, unwrap_or, Result, Ok, Err, OnErr}
use Rattle.std.specs.Bool.{Decides}
use Rattle.std.proofs.lemmas.List.{append_cancel_left}
use Rattle.std.specs.FinMap.{get, insert, remove}
use Rattle.gix_ref_file.specs.Tree.{Tree, file, node_at, bytes_of, bytes_at}
use Rattle.gix_ref_file.specs.Changes.{to_write, to_rename, allows, after, may_hold_file, is_file_at, MayLeave}
use Rattle.gix_ref_file.specs.History.{History, Adds}
use Rattle.gix_ref_file.proofs.Histories.{adds_both, adds_joined, adds_weaker}
use Rattle.gix_ref_file.proofs.Trees.{get-removed, get_inserted, same_path_itself}
use Rattle.history_model.specs.Bytes.{Bytes}
use Rattle.gix_hash.specs.Id.{id_of}
use Rattle.history_model.specs.Places.{file_at, unfinished_place}
use Rattle.history_texts.specs.ObjectTexts.{is_reserved}
use Rattle.gix_ref_way.specs.Ways.{ChangesOneFile, FoldersAbove, KeepsFolders, SameFiles}
use Rattle.history_store.specs.Stores.{KeepsFiles, HoldsFile, MayHold, MayStand, IsTaken, place_of, text_of}
use Rattle.history_texts.specs.declared.object.NewObject.{NewObject}
use Rattle.gix_ref_way.proofs.OneFile.{one_files, one_now}
use Rattle.gix_ref_way.proofs.Stored.{apart_from_inserted, apart_from_removed, now_same}

-- ---- one after another
pub same_keeps : (old new : Tree) → SameFiles old new → KeepsFiles old new
same_keeps old new same = λ path apart. same path

pub keeps_then_keeps : (old mid new : Tree) → KeepsFiles old mid → KeepsFiles mid new → KeepsFiles old new
keeps_then_keeps old mid new first second = λ path apart. second path apart ∙ first path apart

pub keeps_then_may : (place text : Bytes) (old mid new : Tree) → KeepsFiles old mid → MayStand place text mid new → MayStand place text old new
keeps_then_may place text old mid new first (inl second) = inl (keeps_then_keeps old mid new first second)
keeps_then_may place text old mid new first (inr second) = inr (record { here = second.here; others = λ path apart other. second.others path apart other ∙ first path apart })

-- ---- one change
pub one_keeps : (t x : Tree) → ChangesOneFile unfinished_place t x → KeepsFiles t x
one_keeps t x one = one_files unfinished_place t x one

-- the root is no file's place
not_root : (t : Tree) (place : Bytes) → IsTrue (may_hold_file t place) → (u : Tree) → node_at u place ≡ get u place
not_root t [] may u = cc
not_root t (b ∷ place) may u = refl

from_and_2 : (a b : Bool) → IsTrue (a && b) → IsTrue b
from_and_2 true b h = h
from_and_2 false b h = absurd (cc h)

renamed : (place text : Bytes) (t : Tree) → IsTrue (may_hold_file t place) → bytes_at t unfinished_place ≡ text → HoldsFile place text t (insert (remove t unfinished_place) place (file (bytes_at t unfinished_place)))
renamed place text t may is = record {
  here = ap bytes_of (not_root t place may (insert (remove t unfinished_place) place (file (bytes_at t unfinished_place))) ∙ get_inserted (remove t unfinished_place) place (file (bytes_at t unfinished_place))) ∙ ap Some is;
  others = λ q apart other. apart_from_inserted (remove t unfinished_place) place _ q other ∙ apart_from_removed t unfinished_place q apart;
}

pub while_renamed : (place text : Bytes) (t x : Tree) → bytes_at t unfinished_place ≡ text → MayLeave (to_rename unfinished_place place) t x → MayStand place text t x
while_renamed place text t x is (inl same) = inl (λ q apart. ap (λ y. file_at y q) same)
while_renamed place text t x is (inr (n, may, made)) = inr (subst (HoldsFile place text t) (sym made) (renamed place text t (from_and_2 _ _ may) is))

pub after_rename : (place text : Bytes) (t x : Tree) → bytes_at t unfinished_place ≡ text → IsTrue (allows t (to_rename unfinished_place place)) → x ≡ after (to_rename unfinished_place place) t → HoldsFile place text t x
after_rename place text t x is may made = subst (HoldsFile place text t) (sym made) (renamed place text t (from_and_2 _ _ may) is)

-- what is written is there
file_inserted : (t : Tree) (bytes : Bytes) → bytes_at (insert t unfinished_place (file bytes)) unfinished_place ≡ bytes
file_inserted t bytes = ap (λ node. unwrap_or (bytes_of node) []) (get_inserted t unfinished_place (file bytes))

-- ---- histories
-- the histories of a put: folders are made, the text written, the file renamed
module _ (place text : Bytes) (old made written new : History) where
  pub may_from_same : Adds (SameFiles old.tree) old made → Adds (MayStand place text old.tree) old made
  may_from_same first = adds_weaker old made first (λ x same. inl (same_keeps old.tree x same))

  pub may_from_write : Adds (SameFiles old.tree) old made → Adds (ChangesOneFile unfinished_place made.tree) made written → Adds (MayStand place text old.tree) old written
  may_from_write first second =
      adds_joined old made written (may_from_same first)
      (adds_weaker made written second (λ x one. inl (keeps_then_keeps old.tree made.tree x (same_keeps old.tree made.tree (now_same old made first)) (one_keeps made.tree x one))))

  pub kept_when_written : Adds (SameFiles old.tree) old made → Adds (ChangesOneFile unfinished_place made.tree) made written → KeepsFiles old.tree written.tree
  kept_when_written first second =
      keeps_then_keeps old.tree made.tree written.tree (same_keeps old.tree made.tree (now_same old made first)) (one_keeps made.tree written.tree (one_now unfinished_place made written second))

  text_written : written.tree ≡ after (to_write unfinished_place text) made.tree → bytes_at written.tree unfinished_place ≡ text
  text_written is = ap (λ y. bytes_at y unfinished_place) is ∙ file_inserted made.tree text

  pub may_from_rename : Adds (SameFiles old.tree) old made → Adds (ChangesOneFile unfinished_place made.tree) made written → written.tree ≡ after (to_write unfinished_place text) made.tree
      → Adds (MayLeave (to_rename unfinished_place place) written.tree) written new → Adds (MayStand place text old.tree) old new
  may_from_rename first second is_written third =
      adds_joined old written new (may_from_write first second)
      (adds_weaker written new third (λ x left. keeps_then_may place text old.tree written.tree x (kept_when_written first second) (while_renamed place text written.tree x (text_written is_written) left)))

  pub stored : Adds (SameFiles old.tree) old made → Adds (ChangesOneFile unfinished_place made.tree) made written → written.tree ≡ after (to_write unfinished_place text) made.tree
      → IsTrue (allows written.tree (to_rename unfinished_place place)) → new.tree ≡ after (to_rename unfinished_place place) written.tree → HoldsFile place text old.tree new.tree
  stored first second is_written may is_new =
      let last = after_rename place text written.tree new.tree (text_written is_written) may is_new in
      record { here = last.here; others = λ q apart other. last.others q apart other ∙ kept_when_written first second q apart }

-- a text is a front and a content exactly if it begins so and the rest is the content
pub same_text : (text read front rest content : Bytes) (b : Bool) → text ≡ read → read ≡ front ++ rest → Decides b (rest ≡ content) → (b ≡ true → text ≡ front ++ content) × (text ≡ front ++ content → b ≡ true)
same_text bytes read front rest content b is_read begins decides = (
  λ same. is_read ∙ begins ∙ ap (λ r. front ++ r) (decides.0 same),
  λ is. decides.1 (append_cancel_left front rest content (sym begins ∙ sym is_read ∙ is)),
)

-- if a file of other bytes is there
pub taken_by_other : (tree : Tree) (stands place header content bytes : Bytes) → stands ≡ place → is_file_at tree stands ≡ true → (bytes_at tree stands ≡ header ++ content → false ≡ true) → bytes ≡ header ++ content
    → (other : Bytes) × (file_at tree place ≡ Some other) × (other ≢ bytes)
taken_by_other tree stands place header content bytes same is_file differs is =
    (bytes_at tree stands, ap (file_at tree) (sym same) ∙ file_of (file_at tree stands) is_file, λ equal. absurd (cc (differs (equal ∙ is))))
  where
    file_of : (o : Option Bytes) → is_some o ≡ true → o ≡ Some (unwrap_or o [])
    file_of (Some b) h = refl
    file_of None h = cc

-- A file of the bytes themselves, or none, is no file of others.
pub none_other : (tree : Tree) (stands place bytes : Bytes) → stands ≡ place → is_file_at tree stands ≡ false → (other : Bytes) × (file_at tree place ≡ Some other) × (other ≢ bytes) → ⊥
none_other tree stands place bytes same none (other, at, unlike) = absurd (cc (sym none ∙ ap (is_file_at tree) same ∙ ap is_some at))

pub same_other : (tree : Tree) (stands place header content bytes : Bytes) → stands ≡ place → bytes_at tree stands ≡ header ++ content → bytes ≡ header ++ content
    → (other : Bytes) × (file_at tree place ≡ Some other) × (other ≢ bytes) → ⊥
same_other tree stands place header content bytes same text is (other, at, unlike) = unlike (sym (ap (λ o. unwrap_or o []) at) ∙ ap (bytes_at tree) (sym same) ∙ text ∙ sym is)

-- What is not reserved and has no file of other bytes at its place is not taken.
pub untaken : (object : NewObject) (tree : Tree) (reserved : Bool) → reserved ≡ is_reserved (id_of object.id) object.kind object.content.items → reserved ≡ false
    → ((other : Bytes) × (file_at tree (place_of object) ≡ Some other) × (other ≢ text_of object) → ⊥) → IsTaken object tree → ⊥
untaken object tree reserved told free alone (inl taken) = absurd (cc (sym free ∙ told ∙ taken))
untaken object tree reserved told free alone (inr other) = alone other

-- ---- if a failed change changes nothing

pub on_err_weaker : {T E P Q : Type 0} (r : Result T E) → (P → Q) → OnErr r P → OnErr r Q
on_err_weaker (Ok x) f p = tt
on_err_weaker (Err e) f p = f p

-- ---- the unfinished file
pub gone : (place : Bytes) (t new : Tree) → place ≢ unfinished_place → new ≡ after (to_rename unfinished_place place) t → file_at new unfinished_place ≡ None
gone place t new apart is_new =
    ap (λ y. file_at y unfinished_place) is_new
    ∙ apart_from_inserted (remove t unfinished_place) place (file (bytes_at t unfinished_place)) unfinished_place (λ same. apart (sym same))
    ∙ ap bytes_of (get-removed t unfinished_place unfinished_place ∙ ap (λ b. cond b None (get t unfinished_place)) (same_path_itself unfinished_place))

-- ---- files and folders together
pub may_hold : (place text : Bytes) (old new : History) → Adds (MayStand place text old.tree) old new → Adds (FoldersAbove place old.tree) old new → Adds (KeepsFolders old.tree) old new
    → Adds (MayHold place text old.tree) old new
may_hold place text old new may above stay =
    adds_weaker old new (adds_both old new may (adds_both old new above stay)) (λ tree both. record { files = both.0; above = both.1.0; stay = both.1.1 })
