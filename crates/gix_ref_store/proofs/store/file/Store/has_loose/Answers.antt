use Rattle.std.proofs.Common.{◌∙◌, ap, subst, [], Some, None, refl}
use Rattle.gix_ref_store.specs.Items.{left_in, GivesNext}
use Rattle.gix_ref_store.specs.Listings.{all_names}
use Rattle.gix_ref_store.specs.RefStates.{state_among}
use Rattle.gix_ref_store.specs.Searches.{reads_in}
use Rattle.gix_ref_store.specs.Stores.{base_of}
use Rattle.gix_ref_store.proofs.PristineLemmas.{passed_on, one_stands, none_stands}
use Rattle.gix_ref_store.proofs.store.file.Store.has_loose.Goals as goal

pub returns-in-Ok-clause-told : goal.returns-in-Ok-clause-told
returns-in-Ok-clause-told g c = λ honest.
    let self = c.args.self.now in
    let tree = (g.F.Files.history self.files).tree in
    let read = state_among (base_of self) tree [] in
    let out = left_in tree c.in_ok-references.references in
    let at = c.loop-item.references in
    let same = ap (λ s. s.store.now) c.loop-item.invariant.2 ∙ c.in_ok-references.ensures.store in
    let gives = subst (λ s. g.F.Files.is_honest s.files → GivesNext (reads_in (g.F.Files.history s.files).tree at.search) (left_in (g.F.Files.history s.files).tree at) (Some c.in-Some.item) (left_in (g.F.Files.history s.files).tree c.next.new.self)) same c.in-Some.ensures.steps.1 honest in
    (λ so. one_stands read (all_names self) out (left_in tree at) (left_in tree c.next.new.self) _ (c.in_ok-references.ensures.listed honest) (c.loop-item.invariant.3 honest) (rw c.in-Ok.is at gives), λ there. refl)

pub loop-item-preserved-in-Err-ReferenceCreation : goal.loop-item-preserved-in-Err-ReferenceCreation
loop-item-preserved-in-Err-ReferenceCreation g c =
    let self = c.args.self.now in
    let tree = (g.F.Files.history self.files).tree in
    let read = state_among (base_of self) tree [] in
    let out = left_in tree c.in_ok-references.references in
    let at = c.loop-item.references in
    let same = ap (λ s. s.store.now) c.loop-item.invariant.2 ∙ c.in_ok-references.ensures.store in (
      tt,
      tt,
      c.in-Some.ensures.steps.0 ∙ c.loop-item.invariant.2,
      λ honest.
          let gives = subst (λ s. g.F.Files.is_honest s.files → GivesNext (reads_in (g.F.Files.history s.files).tree at.search) (left_in (g.F.Files.history s.files).tree at) (Some c.in-Some.item) (left_in (g.F.Files.history s.files).tree c.next.new.self)) same c.in-Some.ensures.steps.1 honest in
          passed_on out (left_in tree at) (left_in tree c.next.new.self) _ _ (c.loop-item.invariant.3 honest) (rw c.in-Err-ReferenceCreation.field-0-is at (rw c.in-Err-ReferenceCreation.is at gives)),
    )

pub returns-clause-told : goal.returns-clause-told
returns-clause-told g c = λ honest.
    let self = c.args.self.now in
    let tree = (g.F.Files.history self.files).tree in
    let read = state_among (base_of self) tree [] in
    let out = left_in tree c.in_ok-references.references in
    let at = c.loop-item.references in
    let same = ap (λ s. s.store.now) c.loop-item.invariant.2 ∙ c.in_ok-references.ensures.store in
    let gives = subst (λ s. g.F.Files.is_honest s.files → GivesNext (reads_in (g.F.Files.history s.files).tree at.search) (left_in (g.F.Files.history s.files).tree at) None (left_in (g.F.Files.history s.files).tree c.next.new.self)) same c.in_default.ensures.steps.1 honest in
    (λ so. let z : ⊥ = cc in absurd z, λ some. absurd (none_stands read (all_names self) out (left_in tree at) (c.in_ok-references.ensures.listed honest) (c.loop-item.invariant.3 honest) gives.0 some))
