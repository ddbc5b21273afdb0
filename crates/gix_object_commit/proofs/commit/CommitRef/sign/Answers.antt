use Rattle.std.proofs.Common.{refl}
use Rattle.std.proofs.lemmas.Result.{err_from_is_err_and}
use Rattle.gix_object_commit.specs.Signing.{NotOwned, Signed, Unsigned}
use Rattle.gix_object_commit.proofs.commit.CommitRef.sign.Goals as goal

pub returns-in_err-commit-clause-signed : goal.returns-in_err-commit-clause-signed
returns-in_err-commit-clause-signed g c =
    let p = err_from_is_err_and c.from_residual.result c.from_residual.ensures.1 in
    rw (p.1, p.2) (NotOwned c.in_err-commit.field-0.0 c.in_err-commit.ensures.refused refl refl)

pub returns-in_err-sign-clause-signed : goal.returns-in_err-sign-clause-signed
returns-in_err-sign-clause-signed g c =
    let p = err_from_is_err_and c.from_residual-in_err-sign.result c.from_residual-in_err-sign.ensures.1 in
    rw (p.1, p.2) (Unsigned c.in_ok-commit.commit c.sign.new.self c.in_err-sign.field-0.0 c.in_ok-commit.ensures.own c.in_err-sign.ensures.signed refl)

pub returns-clause-signed : goal.returns-clause-signed
returns-clause-signed g c = Signed c.in_ok-commit.commit c.sign.new.self c.in_ok-commit.ensures.own c.in_ok-sign.ensures.signed refl
