use Rattle.std.proofs.Common.{ℕ, List, map, option_map, refl, sym, subst, inr, ◌∙◌}
use Rattle.std.proofs.lemmas.Result.{err_from_is_err_and}
use Rattle.std.specs.Borrow.{Bor}
use Rattle.gix_ref_file.proofs.Histories.{adds_nothing}
use Rattle.history_store.specs.Changing.{SpellsTimeOf, moved_in}
use Rattle.history_store.proofs.EditsAsked.{asks_change}
use Rattle.history_store.proofs.Honesty.{same_honesty}
use Rattle.history_store.proofs.names.Names.make.Goals as goal

pub returns-in_err-edits-clause-keeps : goal.returns-in_err-edits-clause-keeps
returns-in_err-edits-clause-keeps g c = record { kind = refl; part = same_honesty g.F.Files _ _ _ refl }

pub returns-in_err-edits-clause-transacts : goal.returns-in_err-edits-clause-transacts
returns-in_err-edits-clause-transacts g c = λ r may.
    let p = err_from_is_err_and c.from_residual.result c.from_residual.ensures.1 in
    record {
      moments = adds_nothing (g.F.Files.history c.args.self.now.store.files);
      changed = rw p.1 tt;
      failed = λ failed. inr (c.in_err-edits.ensures.failed r may (cc (failed, p.1, p.2)));
    }

pub returns-in_err-time-clause-keeps : goal.returns-in_err-time-clause-keeps
returns-in_err-time-clause-keeps g c = record { kind = refl; part = same_honesty g.F.Files _ _ _ refl }

pub returns-in_err-time-clause-transacts : goal.returns-in_err-time-clause-transacts
returns-in_err-time-clause-transacts g c = λ r may.
    let p = err_from_is_err_and c.from_residual-in_err-time.result c.from_residual-in_err-time.ensures.1 in
    record {
      moments = adds_nothing (g.F.Files.history c.args.self.now.store.files);
      changed = rw p.1 tt;
      failed = λ failed. absurd (cc (failed, p.1, p.2));
    }

pub returns-clause-keeps : goal.returns-clause-keeps
returns-clause-keeps g c = c.transact.ensures.keeps

pub returns-clause-transacts : goal.returns-clause-transacts
returns-clause-transacts g c = λ r may.
    let names = map moved_in c.args.moved.now in
    let gone = option_map (λ (name : Bor (List ℕ)). name.now) c.args.taken in
    let spelled = subst (SpellsTimeOf names) (sym c.deref.ensures.value) c.in_ok-time.ensures in
    let asks = asks_change g.F.Files.is_honest g.F.Files.history c.args.self.now r names gone c.committer_of.result c.in_ok-edits.edits.items may c.in_ok-edits.ensures.asks c.in_ok-edits.ensures.plain (c.in_ok-edits.ensures.tests r may) (c.committer_of.ensures spelled) in
    c.transact.ensures.transacts r names gone asks
