-- Why no object is found of an id.
use Rattle.std.proofs.Common.{◌≡◌, refl, sym, ◌∙◌, ap, subst, List, [], ◌∷◌, ◌++◌, append_assoc, arith, option_map, Option}
use Rattle.std.proofs.lemmas.List.Elements.{Contains-append_right}
use Rattle.std.specs.Prelude.{Contains}
use Rattle.gix_hash.specs.Id.{Id, id_of}
use Rattle.gix_object_lookup.specs.Table.{Table}
use Rattle.gix_ref_name.specs.Targets.{ToObject, target_view}
use Rattle.gix_ref_edit.specs.declared.change.RefEdit.{RefEdit}
use Rattle.gix_ref_store.specs.Follows.{Ends, Followed, FollowFault, IsGiven, follow}
use Rattle.gix_ref_store.specs.Follows as follows
use Rattle.gix_ref_store.specs.Peels.{PeelFault, MayTell, IsLost}
use Rattle.gix_ref_store.specs.RefStates.{RefState, Stands}
use Rattle.gix_ref_store.specs.declared.reference.Reference.{Reference}
use Rattle.gix_ref_store.specs.declared.store.file.find.Error.TheVariants as find
use Rattle.gix_ref_store.specs.declared.store.file.find.ExistingError.TheVariants as existing
use Rattle.gix_ref_store.specs.declared.store.file.follow.Error.{Error as FollowError}
use Rattle.gix_ref_store.specs.declared.store.file.follow.Error.TheVariants as follow_case
use Rattle.gix_ref_store.specs.declared.store.file.peel.Error.{Error}
use Rattle.gix_ref_store.specs.declared.store.file.peel.Error.TheVariants.{FollowToObject, Find, NotFound, Memory}
use Rattle.gix_ref_way.specs.Ways.{Bytes}
use Rattle.gix_ref_transaction.specs.RecordsRollback.{IsEarly}
use Rattle.gix_ref_transaction.specs.Resolving.{GivesUp, ResolveFault, IfUnresolved}
use Rattle.gix_ref_transaction.specs.declared.repacking.error.RepackError.{RepackError}
use Rattle.gix_ref_transaction.specs.declared.repacking.error.RepackError.TheVariants as repack
use Rattle.gix_ref_transaction.proofs.RecordLines.{ends_id}

gives_up : (R : Type 0) (name : Bytes) (id : Id) (told : Option Id) (error : FollowError) → FollowFault IsGiven (Ends name id told) error → follows.MayTell R error → GivesUp R error
gives_up R name id told (follow_case.Follow existing.NotFound) fault may = absurd (cc fault)
gives_up R name id told (follow_case.Follow (existing.Find (find.ReferenceCreation e))) fault may = absurd (cc fault)
gives_up R name id told (follow_case.Follow (existing.Find (find.PackedOpen e))) fault may = absurd fault
gives_up R name id told (follow_case.Follow (existing.Find find.ReadFileContents)) fault may = may
gives_up R name id told (follow_case.Follow (existing.Find find.Memory)) fault may = tt
gives_up R name id told follow_case.Cycle fault may = absurd (cc fault)
gives_up R name id told follow_case.DepthLimitExceeded fault may = absurd (cc fault)
gives_up R name id told follow_case.Memory fault may = tt

pub lost_own : (R M : Type 0) (read : Bytes → RefState) (table : Table) (r : Reference) (id : Id) → target_view r.target ≡ ToObject id → (error : Error) → PeelFault IsGiven read table r error → MayTell R M error → ResolveFault R M table id error
lost_own R M read table r id to (FollowToObject e) fault may =
    gives_up R r.name id (option_map id_of r.peeled) e (subst (λ (f : Followed). FollowFault IsGiven f e) (ap (λ p. follow read 5 [] r.name (Stands p (option_map id_of r.peeled))) to) fault) may
lost_own R M read table r id to (Find e) fault may = may
lost_own R M read table r id to (NotFound oid) (none, lost) may =
    let is : Ends r.name id (option_map id_of r.peeled) ≡ Ends lost.1.0 lost.0 lost.1.1 = sym (ap (λ p. follow read 5 [] r.name (Stands p (option_map id_of r.peeled))) to) ∙ lost.1.2 in
    subst (λ (i : Id). IsLost table i (id_of oid)) (sym (ends_id is)) lost.2
lost_own R M read table r id to Memory fault may = tt

-- an error that isn't `Resolve` has any cause
pub anyhow : (Why : Error → Type 0) (error : RepackError) → IfUnresolved (λ _. ⊥) error → IfUnresolved Why error
anyhow Why (repack.Resolve e) h = absurd h
anyhow Why (repack.PackedTransactionAcquire e) h = tt
anyhow Why (repack.PackedTransactionPrepare e) h = tt
anyhow Why repack.Memory h = tt

-- nor is one that isn't early
pub unearly : (Why : Error → Type 0) (error : RepackError) → ¬ IsEarly error → IfUnresolved Why error
unearly Why (repack.Resolve e) late = absurd (late tt)
unearly Why (repack.PackedTransactionAcquire e) late = tt
unearly Why (repack.PackedTransactionPrepare e) late = tt
unearly Why repack.Memory late = tt

pub by_reason : (P Q : Error → Type 0) (error : RepackError) → ((e : Error) → P e → Q e) → IfUnresolved P error → IfUnresolved Q error
by_reason P Q (repack.Resolve e) f h = f e h
by_reason P Q (repack.PackedTransactionAcquire e) f h = tt
by_reason P Q (repack.PackedTransactionPrepare e) f h = tt
by_reason P Q repack.Memory f h = tt

-- the rest of a list, and what comes before it
abbrev pub IsSplit : List RefEdit → List RefEdit → Type 0
IsSplit edits rest = (done : List RefEdit) × (edits ≡ done ++ rest)

pub one_off : (edits rest others : List RefEdit) (edit : RefEdit) → rest ≡ edit ∷ others → IsSplit edits rest → IsSplit edits others
one_off edits rest others edit cut (done, split) = (done ++ edit ∷ [], split ∙ ap (λ r. done ++ r) cut ∙ sym (append_assoc done (edit ∷ []) others))

pub is_among : (edits rest others : List RefEdit) (edit : RefEdit) → rest ≡ edit ∷ others → IsSplit edits rest → Contains edits edit
is_among edits rest others edit cut (done, split) =
    subst (λ es. Contains es edit) (sym (split ∙ ap (λ r. done ++ r) cut)) (Contains-append_right done (edit ∷ others) edit (0, omega arith, refl))
