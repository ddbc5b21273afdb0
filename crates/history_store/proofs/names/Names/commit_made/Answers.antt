use Rattle.std.proofs.Common.{inl, inr, refl, sym, ◌∙◌}
use Rattle.history_store.proofs.Honesty.{unprepared_part}
use Rattle.history_store.proofs.Transactions.{commit_failed, commit_wants}
use Rattle.history_store.proofs.names.Names.commit_made.Goals as goal

pub returns-in-Ok-clause-keeps : goal.returns-in-Ok-clause-keeps
returns-in-Ok-clause-keeps g c = record {
  kind = refl;
  part = record { honest = c.commit.ensures.keeps.honest; later = c.commit.ensures.keeps.later; unfailed = λ other. c.in-Ok.ensures.keeps.quiet tt };
}

pub returns-in-Err-clause-keeps : goal.returns-in-Err-clause-keeps
returns-in-Err-clause-keeps g c = record {
  kind = refl;
  part = unprepared_part g.F.Files c.args.self.now.store.files c.commit.new.files c.of_committing.result c.commit.ensures.keeps.honest c.commit.ensures.keeps.later
      (λ short. c.in-Err.ensures.keeps.quiet (commit_wants c.in-Err.error (sym c.of_committing.ensures ∙ short)));
}

pub returns-in-Err-clause-failed : goal.returns-in-Err-clause-failed
returns-in-Err-clause-failed g c = λ honest can failed.
    elim (c.in-Err.ensures.failed honest can) [
      | inl short ↦ absurd (commit_failed c.in-Err.error (cc (failed, c.of_committing.ensures)) short)
      | inr fault ↦ fault
    ]
