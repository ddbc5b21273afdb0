use Rattle.std.proofs.Common.{◌≡◌, ◌∙◌, ◌++◌, ap, not, subst, sym, Err, true, false}
use Rattle.std.proofs.lemmas.Result.{err_from_is_err_and}
use Rattle.history_model.specs.Bytes.{Bytes}
use Rattle.history_model.specs.Commands.{Tag}
use Rattle.gix_hash.specs.Id.{id_of}
use Rattle.history_model.specs.declared.Cause.TheVariants.{Collides}
use Rattle.history_store.specs.AllNames.{TellsMeeting}
use Rattle.history_plans.specs.Bases.{expected_meanings}
use Rattle.history_plans.specs.CommitCauses.{held_causes, place_causes, word_causes}
use Rattle.history_repository.specs.Face.{names_part}
use Rattle.history_repository.specs.Held.{IsHeld}
use Rattle.history_repository.specs.Meanings.{commit_or_cause}
use Rattle.history_plans.specs.Tagging.{IsTagBase, target_causes}
use Rattle.history_repository.specs.declared.stopped.Stopped.TheVariants.{Refused}
use Rattle.history_plans.proofs.Collisions.{one_collides, standing_free}
use Rattle.history_repository.proofs.HeldLemmas.{held_stands}
use Rattle.history_plans.proofs.PlaceLemmas.{place_collides}
use Rattle.history_plans.proofs.TagLemmas.{all_commits, fault_based, held_so, place_so, words_so}
use Rattle.history_plans.proofs.Tested.{ends_told, none_joined, told_behind, told_in_front}
use Rattle.history_repository.proofs.WordCauses.{commit_is}
use Rattle.history_plans.proofs.tagging.tag_base.Goals as goal
use Rattle.history_plans.proofs.tagging.tag_base.Goals.{else-is_none-via-then-is_none+in_ok-collides_any+else-branch, else-is_none-via-else-is_none}

pub returns-in_err-expected : goal.returns-in_err-expected
returns-in_err-expected g c = λ r sent h name expect word named.
    let MayFail = g.F.Files.reading_may_fail in
    let stopped = err_from_is_err_and c.from_residual.result c.from_residual.ensures.1 in
    fault_based MayFail r sent c.from_residual.result c.in_err-expected.field-0.0 (stopped.1 ∙ ap Err stopped.2)
    (c.in_err-expected.ensures.reads r sent.expect h expect (c.new-read.ensures r))

pub returns-in_err-meaning : goal.returns-in_err-meaning
returns-in_err-meaning g c = λ r sent h name expect word named.
    let MayFail = g.F.Files.reading_may_fail in
    let stopped = err_from_is_err_and c.from_residual-in_err-meaning.result c.from_residual-in_err-meaning.ensures.1 in
    fault_based MayFail r sent c.from_residual-in_err-meaning.result c.in_err-meaning.field-0.0 (stopped.1 ∙ ap Err stopped.2)
    (c.in_err-meaning.ensures r h (c.in_ok-expected.ensures.kept r h (c.new-read.ensures r)))

pub returns-in_err-test_words : goal.returns-in_err-test_words
returns-in_err-test_words g c = λ r sent h name expect word named.
    let MayFail = g.F.Files.reading_may_fail in
    let known = c.new-read.ensures r in
    let expects = c.in_ok-expected.ensures.reads r sent.expect h expect known in
    let read = c.in_ok-meaning.ensures r h (c.in_ok-expected.ensures.kept r h known) in
    let reads = read.0.means ∙ ap (commit_or_cause r) word in
    let words = words_so r sent c.in_ok-expected.expected c.in_ok-meaning.meaning expects reads in
    let stopped = err_from_is_err_and c.from_residual-in_err-test_words.result c.from_residual-in_err-test_words.ensures.1 in
    let told = Refused c.in_err-test_words.field-0.0 in
    ends_told MayFail r (Tag sent) target_causes (IsTagBase r sent) c.from_residual-in_err-test_words.result told (stopped.1 ∙ ap Err stopped.2)
    (told_in_front MayFail r (Tag sent) word_causes (held_causes ++ place_causes) told (words ∙ c.in_err-test_words.ensures))

pub returns-in_err-held : goal.returns-in_err-held
returns-in_err-held g c = λ r sent h name expect word named.
    let MayFail = g.F.Files.reading_may_fail in
    let stopped = err_from_is_err_and c.from_residual-in_err-held.result c.from_residual-in_err-held.ensures.1 in
    fault_based MayFail r sent c.from_residual-in_err-held.result c.in_err-held.field-0.0 (stopped.1 ∙ ap Err stopped.2)
    (c.in_err-held.ensures r h (c.in_ok-meaning.ensures r h (c.in_ok-expected.ensures.kept r h (c.new-read.ensures r))).1)

pub returns-in_err-test : goal.returns-in_err-test
returns-in_err-test g c = λ r sent h name expect word named.
    let MayFail = g.F.Files.reading_may_fail in
    let known = c.new-read.ensures r in
    let expects = c.in_ok-expected.ensures.reads r sent.expect h expect known in
    let read = c.in_ok-meaning.ensures r h (c.in_ok-expected.ensures.kept r h known) in
    let reads = read.0.means ∙ ap (commit_or_cause r) word in
    let words = words_so r sent c.in_ok-expected.expected c.in_ok-meaning.meaning expects reads in
    let held_is = subst (λ (n : Bytes). IsHeld r n c.in_ok-held.held) name (c.in_ok-held.ensures r h read.1).0 in
    let held = held_so r sent c.in_ok-expected.expected c.in_ok-held.held c.commit_held.result expects held_is c.commit_held.ensures in
    let stopped = err_from_is_err_and c.from_residual-in_err-test.result c.from_residual-in_err-test.ensures.1 in
    let told = Refused c.in_err-test.field-0.0 in
    ends_told MayFail r (Tag sent) target_causes (IsTagBase r sent) c.from_residual-in_err-test.result told (stopped.1 ∙ ap Err stopped.2)
    (told_behind MayFail r (Tag sent) word_causes (held_causes ++ place_causes) told (words ∙ c.in_ok-test_words.ensures)
    (told_in_front MayFail r (Tag sent) held_causes place_causes told (held ∙ c.in_err-test.ensures)))

pub returns-then-branch : goal.returns-then-branch
returns-then-branch g c = λ r sent h name expect word named.
    let MayFail = g.F.Files.reading_may_fail in
    let known = c.new-read.ensures r in
    let expects = c.in_ok-expected.ensures.reads r sent.expect h expect known in
    let read = c.in_ok-meaning.ensures r h (c.in_ok-expected.ensures.kept r h known) in
    let reads = read.0.means ∙ ap (commit_or_cause r) word in
    let words = words_so r sent c.in_ok-expected.expected c.in_ok-meaning.meaning expects reads in
    let held_is = subst (λ (n : Bytes). IsHeld r n c.in_ok-held.held) name (c.in_ok-held.ensures r h read.1).0 in
    let held = held_so r sent c.in_ok-expected.expected c.in_ok-held.held c.commit_held.result expects held_is c.commit_held.ensures in
    let tree = (g.F.Files.history (names_part c.args.repository.now)).tree in
    let new = held_stands r sent.name c.in_ok-held.held held_is ∙ c.is_none.ensures ∙ ap not c.if-is_none.true in
    let found = subst (λ (n : Bytes). TellsMeeting c.args.repository.now.names.kind n tree c.in_ok-collides_any.field-0) name (c.in_ok-collides_any.ensures.found h.honest_names h.records) in
    let told = subst (λ b. TellsMeeting c.args.repository.now.names.kind sent.name tree b) c.if-branch.true found in
    told_behind MayFail r (Tag sent) word_causes (held_causes ++ place_causes) (Refused Collides) (words ∙ c.in_ok-test_words.ensures)
    (told_behind MayFail r (Tag sent) held_causes place_causes (Refused Collides) (held ∙ c.in_ok-test.ensures)
    (place_so r sent true (place_collides g.F.Files.is_honest g.F.Files.history c.args.repository.now r h sent.name named new true told)))

pub returns-in_err-commit : goal.returns-in_err-commit
returns-in_err-commit g c = λ r sent h name expect word named.
    absurd (all_commits (expected_meanings c.in_ok-expected.expected) c.in_ok-meaning.meaning c.in_err-commit.field-0.0 c.in_ok-test_words.ensures c.in_err-commit.ensures)

pub returns : goal.returns
returns g c = λ r sent h name expect word named.
    let MayFail = g.F.Files.reading_may_fail in
    let known = c.new-read.ensures r in
    let expects = c.in_ok-expected.ensures.reads r sent.expect h expect known in
    let read = c.in_ok-meaning.ensures r h (c.in_ok-expected.ensures.kept r h known) in
    let reads = read.0.means ∙ ap (commit_or_cause r) word in
    let words = words_so r sent c.in_ok-expected.expected c.in_ok-meaning.meaning expects reads in
    let held_is = subst (λ (n : Bytes). IsHeld r n c.in_ok-held.held) name (c.in_ok-held.ensures r h read.1).0 in
    let held = held_so r sent c.in_ok-expected.expected c.in_ok-held.held c.commit_held.result expects held_is c.commit_held.ensures in
    let tree = (g.F.Files.history (names_part c.args.repository.now)).tree in
    let free : one_collides r sent.name ≡ false = elim c.else-is_none.branch [
      | else-is_none-via-then-is_none+in_ok-collides_any+else-branch w ↦
          let new = held_stands r sent.name c.in_ok-held.held held_is ∙ c.is_none.ensures ∙ ap not w.if-is_none.true in
          let found = subst (λ (n : Bytes). TellsMeeting c.args.repository.now.names.kind n tree w.in_ok-collides_any.field-0) name (w.in_ok-collides_any.ensures.found h.honest_names h.records) in
          let told = subst (λ b. TellsMeeting c.args.repository.now.names.kind sent.name tree b) w.if-branch.false found in
          place_collides g.F.Files.is_honest g.F.Files.history c.args.repository.now r h sent.name named new false told
      | else-is_none-via-else-is_none w ↦ standing_free r sent.name (held_stands r sent.name c.in_ok-held.held held_is ∙ c.is_none.ensures ∙ ap not w.if-is_none.false)
    ] in (
      none_joined MayFail r (Tag sent) word_causes (held_causes ++ place_causes) (words ∙ c.in_ok-test_words.ensures)
          (none_joined MayFail r (Tag sent) held_causes place_causes (held ∙ c.in_ok-test.ensures) (place_so r sent false free)),
      record { held = held_is; commit = commit_is r sent.word (id_of c.in_ok-commit.commit) (sym reads ∙ c.in_ok-commit.ensures) },
    )
