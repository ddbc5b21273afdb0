-- One step along symbolic references.
use Rattle.std.proofs.Common.{◌≡◌, ◌∙◌, refl, sym, ap, subst, ℕ, zero, suc, ◌-◌, true, false, List, [], ◌∷◌, ◌++◌, Option, arith}
use Rattle.std.specs.Prelude.{Result, Ok, Err, MatchResult, if◌then◌else◌}
use Rattle.gix_hash.specs.Id.{Id}
use Rattle.gix_hash.specs.declared.object_id.ObjectId.{ObjectId}
use Rattle.gix_ref_file.specs.Tree.{Tree}
use Rattle.gix_object_lines.specs.Bytes.{is_among}
use Rattle.gix_ref_name.specs.Targets.{ToName}
use Rattle.gix_ref_store.specs.Places.{Base}
use Rattle.gix_ref_store.specs.RefStates.{RefState, Stands, Absent, Faulty}
use Rattle.gix_ref_store.specs.Finds.{OnExisting, state_of}
use Rattle.gix_ref_store.specs.Follows.{Followed, Cycles, TooDeep, follow, EndsBy, ReadFault, FollowFault, IsGiven, CantOpen}
use Rattle.gix_ref_store.specs.declared.reference.Reference.{Reference}
use Rattle.gix_ref_store.specs.declared.store.file.find.Error.TheVariants as find
use Rattle.gix_ref_store.specs.declared.store.file.find.ExistingError.{ExistingError}
use Rattle.gix_ref_store.specs.declared.store.file.find.ExistingError.TheVariants as existing
use Rattle.gix_ref_store.specs.declared.store.file.follow.Error.TheVariants.{Follow}

module _ (read : List ℕ → RefState) (seen : List (List ℕ)) (from name : List ℕ) (peeled : Option Id) where
  pub met_again : (left : ℕ) (r : RefState) → r ≡ Stands (ToName name) peeled → is_among seen name ≡ true → follow read left seen from r ≡ Cycles
  met_again zero r is among = ap (follow read zero seen from) is ∙ ap (λ b. if b then Cycles else TooDeep) among
  met_again (suc left) r is among =
      ap (follow read (suc left) seen from) is ∙ ap (λ b. if b then Cycles else follow read left (seen ++ name ∷ []) name (read name)) among

  pub goes_on : (left : ℕ) (r : RefState) → r ≡ Stands (ToName name) peeled → is_among seen name ≡ false → (left ≡ 0 → ⊥) → follow read left seen from r ≡ follow read (left - 1) (seen ++ name ∷ []) name (read name)
  goes_on zero r is among some = absurd (some refl)
  goes_on (suc left) r is among some =
      let less : left ≡ suc left - 1 = omega arith in
      ap (follow read (suc left) seen from) is ∙ ap (λ b. if b then Cycles else follow read left (seen ++ name ∷ []) name (read name)) among
      ∙ ap (λ n. follow read n (seen ++ name ∷ []) name (read name)) less

  pub not_read : (left : ℕ) (r : RefState) (error : ExistingError) → r ≡ Stands (ToName name) peeled → is_among seen name ≡ false → (left ≡ 0 → ⊥)
      → OnExisting (read name ≡ Absent) (ReadFault IsGiven (λ why. read name ≡ Faulty why)) error → FollowFault IsGiven (follow read left seen from r) (Follow error)
  not_read left r existing.NotFound is among some absent = goes_on left r is among some ∙ ap (follow read (left - 1) (seen ++ name ∷ []) name) absent
  not_read left r (existing.Find (find.ReferenceCreation e)) is among some faulty = goes_on left r is among some ∙ ap (follow read (left - 1) (seen ++ name ∷ []) name) faulty
  not_read left r (existing.Find (find.PackedOpen e)) is among some told = told
  not_read left r (existing.Find find.ReadFileContents) is among some told = tt
  not_read left r (existing.Find find.Memory) is among some told = tt

  pub next_is : (left : ℕ) (r : RefState) (next : Reference) (after : List (List ℕ)) → r ≡ Stands (ToName name) peeled → is_among seen name ≡ false → (left ≡ 0 → ⊥)
      → next.name ≡ name → read name ≡ state_of next → after ≡ seen ++ name ∷ [] → follow read (left - 1) after next.name (state_of next) ≡ follow read left seen from r
  next_is left r next after is among some named reads after_is =
      sym (goes_on left r is among some ∙ (λ i. follow read (left - 1) (sym after_is i) (sym named i) (reads i)))

-- the result is the same with packed references that were opened
pub opened_told : (b : Base) (tree : Tree) (name : List ℕ) (one other : RefState) (result : Result Reference ExistingError) → one ≡ other
    → MatchResult result (λ r. (r.name ≡ name) × (one ≡ state_of r)) (OnExisting (one ≡ Absent) (ReadFault IsGiven (λ why. one ≡ Faulty why)))
    → MatchResult result (λ r. (r.name ≡ name) × (other ≡ state_of r)) (OnExisting (other ≡ Absent) (ReadFault (CantOpen b tree) (λ why. other ≡ Faulty why)))
opened_told b tree name one other (Ok r) same (named, reads) = (named, sym same ∙ reads)
opened_told b tree name one other (Err existing.NotFound) same absent = sym same ∙ absent
opened_told b tree name one other (Err (existing.Find (find.ReferenceCreation e))) same faulty = sym same ∙ faulty
opened_told b tree name one other (Err (existing.Find (find.PackedOpen e))) same told = absurd told
opened_told b tree name one other (Err (existing.Find find.ReadFileContents)) same told = tt
opened_told b tree name one other (Err (existing.Find find.Memory)) same told = tt

pub ends_on : (r last : Reference) (id : ObjectId) (one other : Followed) → r ≡ last → one ≡ other → EndsBy last id one → EndsBy r id other
ends_on r last id one other is same (target, ends) = subst (λ (x : Reference). EndsBy x id other) (sym is) (target, sym same ∙ ends)
