use Rattle.std.proofs.Common.{subst, ◌++◌, ◌∷◌, [], Ok}
use Rattle.std.proofs.lemmas.Result.{err_from_is_err_and}
use Rattle.gix_object_commit.specs.Signing.{Asked, IsWithHeaders, unsigned}
use Rattle.gix_object_commit.proofs.SigningLemmas.{stays, header_is}
use Rattle.gix_object_commit.proofs.commit.owned.Commit.sign.Goals as goal

pub returns-in_err-signature-clause-signed : goal.returns-in_err-signature-clause-signed
returns-in_err-signature-clause-signed g c =
    let p = err_from_is_err_and c.from_residual.result c.from_residual.ensures.1 in
    rw (p.1, p.2) c.in_err-signature.ensures.refused

pub returns-in_err-header-clause-signed : goal.returns-in_err-header-clause-signed
returns-in_err-header-clause-signed g c =
    let p = err_from_is_err_and c.from_residual-in_err-header.result c.from_residual-in_err-header.ensures.1 in
    let made = c.in_ok-signature.ensures.made in
    rw p.1 (Asked made.0 (Ok c.in_ok-signature.signature) made.1 (p.2, stays c.args.self.now))

pub returns-in_err-put_signature-clause-signed : goal.returns-in_err-put_signature-clause-signed
returns-in_err-put_signature-clause-signed g c =
    let p = err_from_is_err_and c.from_residual-in_err-put_signature.result c.from_residual-in_err-put_signature.ensures.1 in
    let made = c.in_ok-signature.ensures.made in
    rw p.1 (Asked made.0 (Ok c.in_ok-signature.signature) made.1 (p.2, c.in_err-put_signature.ensures.kept))

pub returns-clause-signed : goal.returns-clause-signed
returns-clause-signed g c =
    let commit = c.args.self.now in
    let signature = c.in_ok-signature.signature in
    let made = c.in_ok-signature.ensures.made in
    let header = header_is c.in_ok-header.header commit signature c.kind.result c.kind.ensures c.in_ok-header.ensures.name c.in_ok-header.ensures.value in
    let put = subst (λ h. IsWithHeaders commit (unsigned commit.extra_headers.items ++ h ∷ []) c.put_signature.new.commit) header c.in_ok-put_signature.ensures.put in
    Asked made.0 (Ok signature) made.1 put
