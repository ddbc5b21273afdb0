use Rattle.std.proofs.Common.{ap, sym, subst}
use Rattle.history_model.specs.Words.{WordMeaning, word_meaning}
use Rattle.history_repository.specs.Known.{AreMeant}
use Rattle.history_repository.specs.Meanings.{IsLookedUp, IsReadAs, stands_for}
use Rattle.history_repository.specs.Reads.{GivesMeant}
use Rattle.history_repository.proofs.ReadingFaults.{fault_told}
use Rattle.history_repository.proofs.words.read_word.Goals as goal

pub returns-in_err-id : goal.returns-in_err-id
returns-in_err-id g c = λ r stand known.
    fault_told g.F.Files.reading_may_fail _ c.from_residual.result _ c.from_residual.ensures.1 (c.in_err-id.ensures r stand)

pub returns-in-Object : goal.returns-in-Object
returns-in-Object g c = λ r stand known.
    let is = subst (IsLookedUp r (word_meaning r c.args.word.now)) c.in-Object.is (c.in_ok-id.ensures r stand) in
    subst (λ (what : WordMeaning). GivesMeant g.F.Files.reading_may_fail (λ meaning. IsReadAs r what meaning × AreMeant r c.read_stored.new.read) c.read_stored.result) (sym is.reads) (c.read_stored.ensures r is.value stand is.stored known)

pub returns-in-Unborn : goal.returns-in-Unborn
returns-in-Unborn g c = λ r stand known.
    (record { means = sym (ap (stands_for r) (subst (IsLookedUp r (word_meaning r c.args.word.now)) c.in-Unborn.is (c.in_ok-id.ensures r stand))); rooted = tt }, known)

pub returns-in-Unknown : goal.returns-in-Unknown
returns-in-Unknown g c = λ r stand known.
    (record { means = sym (ap (stands_for r) (subst (IsLookedUp r (word_meaning r c.args.word.now)) c.in-Unknown.is (c.in_ok-id.ensures r stand))); rooted = tt }, known)

pub returns-in-Ambiguous : goal.returns-in-Ambiguous
returns-in-Ambiguous g c = λ r stand known.
    (record { means = sym (ap (stands_for r) (subst (IsLookedUp r (word_meaning r c.args.word.now)) c.in-Ambiguous.is (c.in_ok-id.ensures r stand))); rooted = tt }, known)
