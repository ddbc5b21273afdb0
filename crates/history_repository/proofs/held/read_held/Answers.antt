use Rattle.std.proofs.Common.{◌≡◌, ◌∙◌, ap, option_map, sym, subst, MatchOption, Option}
use Rattle.std.specs.Prelude.{⊤}
use Rattle.gix_hash.specs.Id.{id_of}
use Rattle.history_repository.specs.Meant.{HasRoot, peeled_id}
use Rattle.history_repository.specs.declared.stored.PeeledCommit.{PeeledCommit}
use Rattle.history_repository.proofs.HeldLemmas.{held_stored, never_unpeeled, none_held, some_held}
use Rattle.history_repository.proofs.ReadingFaults.{fault_told}
use Rattle.history_repository.proofs.NameReads.{held}
use Rattle.history_repository.proofs.held.read_held.Goals as goal

pub returns-in_default : goal.returns-in_default
returns-in_default g c = λ r h known.
    let name = c.args.name.now in
    let at = held g.F.Files.is_honest g.F.Files.history c.args.repository.now r h name _ (c.in_ok-id.ensures.found h.honest_names h.records) in
    (none_held r name (sym (ap (option_map id_of) c.in_default.is) ∙ at), known)

pub returns-in_err-peeled : goal.returns-in_err-peeled
returns-in_err-peeled g c = λ r h known.
    let name = c.args.name.now in
    let at = held g.F.Files.is_honest g.F.Files.history c.args.repository.now r h name _ (c.in_ok-id.ensures.found h.honest_names h.records) in
    let stored = held_stored r h.whole.whole.names name (id_of c.in-Some.id) (sym at ∙ ap (option_map id_of) c.in-Some.is) in
    fault_told g.F.Files.reading_may_fail _ c.from_residual-in_err-peeled.result _ c.from_residual-in_err-peeled.ensures.1 (c.in_err-peeled.ensures r stored.0 h stored.1 known)

pub returns-in_err-commit : goal.returns-in_err-commit
returns-in_err-commit g c = λ r h known.
    let name = c.args.name.now in
    let at = held g.F.Files.is_honest g.F.Files.history c.args.repository.now r h name _ (c.in_ok-id.ensures.found h.honest_names h.records) in
    let there = sym at ∙ ap (option_map id_of) c.in-Some.is in
    let stored = held_stored r h.whole.whole.names name (id_of c.in-Some.id) there in
    absurd (never_unpeeled r h.whole.whole.names name (id_of c.in-Some.id) there (sym (c.in_ok-peeled.ensures r stored.0 h stored.1 known).0.peels ∙ ap (option_map peeled_id) c.in_err-commit.ensures.ok_part))

pub returns : goal.returns
returns g c = λ r h known.
    let name = c.args.name.now in
    let at = held g.F.Files.is_honest g.F.Files.history c.args.repository.now r h name _ (c.in_ok-id.ensures.found h.honest_names h.records) in
    let there = sym at ∙ ap (option_map id_of) c.in-Some.is in
    let stored = held_stored r h.whole.whole.names name (id_of c.in-Some.id) there in
    let read = c.in_ok-peeled.ensures r stored.0 h stored.1 known in (
      some_held r name c.in-Some.id c.in_ok-commit.commit (sym there) (sym (ap (option_map peeled_id) c.in_ok-commit.ensures.ok_part) ∙ read.0.peels)
          (subst (λ (o : Option PeeledCommit). MatchOption o ⊤ (HasRoot r)) c.in_ok-commit.ensures.ok_part read.0.rooted),
      read.1,
    )
