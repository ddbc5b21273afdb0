use Rattle.std.proofs.Common.{◌∙◌, ap, subst}
use Rattle.std.specs.Option.{ok_or}
use Rattle.gix_hash.specs.Id.{id_of}
use Rattle.history_model.specs.Words.{word_meaning}
use Rattle.history_model.specs.declared.Cause.TheVariants.{NotACommit}
use Rattle.history_repository.specs.Meanings.{IsLookedUp, stands_for}
use Rattle.history_repository.specs.Meant.{IsMeantBy}
use Rattle.history_repository.proofs.ReadingFaults.{meant_unread}
use Rattle.history_repository.proofs.words.read_commit_of.Goals as goal

pub returns-in_err-id : goal.returns-in_err-id
returns-in_err-id g c = λ r stand.
    meant_unread g.F.Files.reading_may_fail r c.args.word.now c.from_residual.result _ c.from_residual.ensures.1 (c.in_err-id.ensures r stand)

pub returns-in_err-meant-in-Object : goal.returns-in_err-meant-in-Object
returns-in_err-meant-in-Object g c = λ r stand.
    let is = subst (IsLookedUp r (word_meaning r c.args.word.now)) c.in-Object.is (c.in_ok-id.ensures r stand) in
    meant_unread g.F.Files.reading_may_fail r c.args.word.now c.from_residual-in_err-meant-in-Object.result _ c.from_residual-in_err-meant-in-Object.ensures.1 (c.in_err-meant-in-Object.ensures r is.value stand is.stored)

pub returns-in-Some : goal.returns-in-Some
returns-in-Some g c = λ r stand.
    let is = subst (IsLookedUp r (word_meaning r c.args.word.now)) c.in-Object.is (c.in_ok-id.ensures r stand) in
    let meant = subst (IsMeantBy r (id_of c.in-Object.id)) c.in-Some.is (c.in_ok-meant-in-Object.ensures r is.value stand is.stored) in
    (ap (stands_for r) is.reads ∙ ap (λ o. ok_or o NotACommit) meant.0, meant.1)

pub returns-in-None : goal.returns-in-None
returns-in-None g c = λ r stand.
    let is = subst (IsLookedUp r (word_meaning r c.args.word.now)) c.in-Object.is (c.in_ok-id.ensures r stand) in
    ap (stands_for r) is.reads ∙ ap (λ o. ok_or o NotACommit) (subst (IsMeantBy r (id_of c.in-Object.id)) c.in-None.is (c.in_ok-meant-in-Object.ensures r is.value stand is.stored))

pub returns-in-Unborn : goal.returns-in-Unborn
returns-in-Unborn g c = λ r stand.
    ap (stands_for r) (subst (IsLookedUp r (word_meaning r c.args.word.now)) c.in-Unborn.is (c.in_ok-id.ensures r stand))

pub returns-in-Unknown : goal.returns-in-Unknown
returns-in-Unknown g c = λ r stand.
    ap (stands_for r) (subst (IsLookedUp r (word_meaning r c.args.word.now)) c.in-Unknown.is (c.in_ok-id.ensures r stand))

pub returns-in-Ambiguous : goal.returns-in-Ambiguous
returns-in-Ambiguous g c = λ r stand.
    ap (stands_for r) (subst (IsLookedUp r (word_meaning r c.args.word.now)) c.in-Ambiguous.is (c.in_ok-id.ensures r stand))
