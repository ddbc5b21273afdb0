use Rattle.std.proofs.Common.{◌≡◌, ◌∙◌, ap, option_map, refl, sym, subst, MatchOption, None, Option, Some}
use Rattle.std.specs.Prelude.{⊤}
use Rattle.std.proofs.lemmas.Option.{same_Some}
use Rattle.history_model.specs.Objects.{StoredCommit}
use Rattle.history_repository.specs.Meant.{HasRoot, peeled_id}
use Rattle.history_repository.specs.declared.stored.PeeledCommit.{PeeledCommit}
use Rattle.history_repository.proofs.Befores.{held_commit}
use Rattle.history_repository.proofs.HeldLemmas.{peeled_commit}
use Rattle.history_repository.proofs.ReadingFaults.{fault_told}
use Rattle.history_repository.proofs.stored.rooted.Goals as goal

pub returns-then-is_some : goal.returns-then-is_some
returns-then-is_some g c = λ r h holds has known. ((refl, has), known)

pub returns-in_err-peeled : goal.returns-in_err-peeled
returns-in_err-peeled g c = λ r h holds has known.
    let held = held_commit r h.whole.whole.store (peeled_id c.args.commit) holds in
    fault_told g.F.Files.reading_may_fail _ c.from_residual.result _ c.from_residual.ensures.1 (c.in_err-peeled.ensures r (StoredCommit held.0) h held.1 known)

pub returns-in_err-ok_or : goal.returns-in_err-ok_or
returns-in_err-ok_or g c = λ r h holds has known.
    let held = held_commit r h.whole.whole.store (peeled_id c.args.commit) holds in
    let read = c.in_ok-peeled.ensures r (StoredCommit held.0) h held.1 known in
    let none : None ≡ Some (peeled_id c.args.commit) = sym (ap (option_map peeled_id) c.in_err-ok_or.ensures.ok_part) ∙ read.0.peels ∙ peeled_commit r (peeled_id c.args.commit) (StoredCommit held.0) held.1 refl in
    absurd (cc none)

pub returns : goal.returns
returns g c = λ r h holds has known.
    let held = held_commit r h.whole.whole.store (peeled_id c.args.commit) holds in
    let read = c.in_ok-peeled.ensures r (StoredCommit held.0) h held.1 known in
    let commit = c.in_ok-ok_or.field-0 in
    let some : Some (peeled_id commit) ≡ Some (peeled_id c.args.commit) = sym (ap (option_map peeled_id) c.in_ok-ok_or.ensures.ok_part) ∙ read.0.peels ∙ peeled_commit r (peeled_id c.args.commit) (StoredCommit held.0) held.1 refl in
    ((same_Some (peeled_id commit) (peeled_id c.args.commit) some, subst (λ (o : Option PeeledCommit). MatchOption o ⊤ (HasRoot r)) c.in_ok-ok_or.ensures.ok_part read.0.rooted), read.1)
