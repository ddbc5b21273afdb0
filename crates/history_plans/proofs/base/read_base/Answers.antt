use Rattle.std.proofs.Common.{ℕ, ◌++◌, List, Option, map, sym, ◌∙◌, ap, subst, Err, option_map, option_to_list}
use Rattle.std.specs.Prelude.{Vec, ⊤, option_and_then}
use Rattle.history_word.specs.Commands.{AreEdits}
use Rattle.history_word.specs.declared.command.Edit.{Edit}
use Rattle.std.specs.List.{AllByRecursion, filter_map}
use Rattle.std.specs.declared.alloc.Global.{Global}
use Rattle.std.proofs.lemmas.Result.{err_from_is_err_and}
use Rattle.history_model.specs.Forms.{is_name}
use Rattle.history_model.specs.declared.Fault.TheVariants.{Memory}
use Rattle.gix_hash.specs.Id.{Id, id_of}
use Rattle.history_plans.specs.Bases.{IsCommitBase, IsHeldSource, IsRootedSource, expected_meanings, parents_cause}
use Rattle.history_repository.specs.Meanings.{words_cause, commit_or_cause, meaning_of, peeled_in}
use Rattle.history_repository.specs.Meant.{HasRoot, peeled_id}
use Rattle.history_repository.specs.TreesBefore.{IsTreeBefore}
use Rattle.history_repository.specs.declared.stored.PeeledCommit.{PeeledCommit}
use Rattle.history_plans.specs.CommitCauses.{IsNamed, name_causes, name_form_causes, word_causes, held_causes, place_causes, parent_causes}
use Rattle.history_model.specs.Commands.{Commit}
use Rattle.history_model.specs.Repository.{HoldsCommit}
use Rattle.history_layout.proofs.OfferedReads.{parents_are_commits}
use Rattle.history_repository.specs.Held.{IsHeld}
use Rattle.history_repository.specs.declared.stopped.Stopped.TheVariants.{Refused, Fault}
use Rattle.history_plans.proofs.BaseLemmas.{gives_told, others_meant, parent_meanings, source_ids_told, sources_rooted, words_so, held_told, ids_told, parents_rooted, parents_told, parents_so, sources_held}
use Rattle.history_plans.proofs.Tested.{told_in_front, told_behind, none_joined, stopped_by, ends_told}
use Rattle.history_plans.proofs.base.read_base.Goals as goal

pub returns-in_err-name : goal.returns-in_err-name
returns-in_err-name g c = λ r sent asked.
    let h = asked.serves in
    let is = asked.reads in
    let MayFail = g.F.Files.reading_may_fail in
    let stopped = err_from_is_err_and c.from_residual.result c.from_residual.ensures.1 in
    stopped_by MayFail r (Commit sent) name_form_causes name_causes (IsNamed r sent) (IsCommitBase r sent) c.name_of.result c.from_residual.result c.in_err-name.field-0.0 c.in_err-name.was (stopped.1 ∙ ap Err stopped.2)
    (told_in_front MayFail r (Commit sent) name_form_causes (word_causes ++ (held_causes ++ (place_causes ++ parent_causes))) c.in_err-name.field-0.0) (c.name_of.ensures r sent h (c.deref.ensures.value ∙ is.name))

pub returns-in_err-expected : goal.returns-in_err-expected
returns-in_err-expected g c = λ r sent asked.
    let h = asked.serves in
    let is = asked.reads in
    let MayFail = g.F.Files.reading_may_fail in
    let stopped = err_from_is_err_and c.from_residual-in_err-expected.result c.from_residual-in_err-expected.ensures.1 in
    ends_told MayFail r (Commit sent) name_causes (IsCommitBase r sent) c.from_residual-in_err-expected.result c.in_err-expected.field-0.0 (stopped.1 ∙ ap Err stopped.2)
    (gives_told MayFail _ name_causes r sent c.read_expected.result c.in_err-expected.field-0.0 c.in_err-expected.was (c.read_expected.ensures.reads r sent.expect h is.expect (c.new-read.ensures r)))

pub returns-in_err-words : goal.returns-in_err-words
returns-in_err-words g c = λ r sent asked.
    let h = asked.serves in
    let is = asked.reads in
    let MayFail = g.F.Files.reading_may_fail in
    let known = c.new-read.ensures r in
    let stopped = err_from_is_err_and c.from_residual-in_err-words.result c.from_residual-in_err-words.ensures.1 in
    ends_told MayFail r (Commit sent) name_causes (IsCommitBase r sent) c.from_residual-in_err-words.result c.in_err-words.field-0.0 (stopped.1 ∙ ap Err stopped.2)
    (gives_told MayFail _ name_causes r sent c.read_words.result c.in_err-words.field-0.0 c.in_err-words.was
    (c.read_words.ensures r h (c.in_ok-expected.ensures.kept r h known)))

pub returns-in_err-sources : goal.returns-in_err-sources
returns-in_err-sources g c = λ r sent asked.
    let h = asked.serves in
    let is = asked.reads in
    let MayFail = g.F.Files.reading_may_fail in
    let known = c.new-read.ensures r in
    let words_read = c.in_ok-words.ensures r h (c.in_ok-expected.ensures.kept r h known) in
    let stopped = err_from_is_err_and c.from_residual-in_err-sources.result c.from_residual-in_err-sources.ensures.1 in
    ends_told MayFail r (Commit sent) name_causes (IsCommitBase r sent) c.from_residual-in_err-sources.result c.in_err-sources.field-0.0 (stopped.1 ∙ ap Err stopped.2)
    (gives_told MayFail _ name_causes r sent c.read_sources.result
    c.in_err-sources.field-0.0 c.in_err-sources.was (c.read_sources.ensures r sent.edits h (subst (λ (es : List Edit). AreEdits es sent.edits) (sym c.deref-3.ensures.value) is.edits) words_read.1))

pub returns-in_err-all : goal.returns-in_err-all
returns-in_err-all g c = λ r sent asked.
    let MayFail = g.F.Files.reading_may_fail in
    let stopped = err_from_is_err_and c.from_residual-in_err-all.result c.from_residual-in_err-all.ensures.1 in
    ends_told MayFail r (Commit sent) name_causes (IsCommitBase r sent) c.from_residual-in_err-all.result (Fault Memory) (stopped.1 ∙ ap Err stopped.2) tt

pub returns-in_err-sources-2 : goal.returns-in_err-sources-2
returns-in_err-sources-2 g c = λ r sent asked.
    let MayFail = g.F.Files.reading_may_fail in
    let stopped = err_from_is_err_and c.from_residual-in_err-sources-2.result c.from_residual-in_err-sources-2.ensures.1 in
    ends_told MayFail r (Commit sent) name_causes (IsCommitBase r sent) c.from_residual-in_err-sources-2.result (Fault Memory) (stopped.1 ∙ ap Err stopped.2) tt

pub returns-in_err-test_words : goal.returns-in_err-test_words
returns-in_err-test_words g c = λ r sent asked.
    let h = asked.serves in
    let is = asked.reads in
    let MayFail = g.F.Files.reading_may_fail in
    let known = c.new-read.ensures r in
    let words_read = c.in_ok-words.ensures r h (c.in_ok-expected.ensures.kept r h known) in
    let sources_read = c.in_ok-sources.ensures r sent.edits h (subst (λ (es : List Edit). AreEdits es sent.edits) (sym c.deref-3.ensures.value) is.edits) words_read.1 in
    let named = c.in_ok-name.ensures r sent h (c.deref.ensures.value ∙ is.name) in
    let expects = c.in_ok-expected.ensures.reads r sent.expect h is.expect known in
    let meanings = parent_meanings r sent c.args.command.now.parents.items c.in_ok-words.words.items is.parents
    (words_read.0.0 ∙ ap (map (λ (word : Vec ℕ Global). commit_or_cause r word.items)) c.deref-2.ensures.value) in
    let told = sources_read.0.0 in
    let all_meant = others_meant r sent c.in_ok-words.words.items c.in_ok-sources.sources.items c.in_ok-all.all.items meanings told
    (c.in_ok-all.ensures ∙ (λ i. c.deref-4.ensures.value i ++ filter_map (λ source. source) (c.deref-5.ensures.value i))) in
    let words_are = words_so r sent c.in_ok-expected.expected c.in_ok-all.all.items expects all_meant ∙ ap (λ words. words_cause (expected_meanings c.in_ok-expected.expected ++ map meaning_of words)) (sym c.deref-6.ensures.value) in
    let stopped = err_from_is_err_and c.from_residual-in_err-test_words.result c.from_residual-in_err-test_words.ensures.1 in
    let cause = c.in_err-test_words.field-0.0 in
    ends_told MayFail r (Commit sent) name_causes (IsCommitBase r sent) c.from_residual-in_err-test_words.result (Refused cause) (stopped.1 ∙ ap Err stopped.2)
    (told_behind MayFail r (Commit sent) name_form_causes (word_causes ++ (held_causes ++ (place_causes ++ parent_causes))) (Refused cause) named.0
    (told_in_front MayFail r (Commit sent) word_causes (held_causes ++ (place_causes ++ parent_causes)) (Refused cause) (words_are ∙ c.in_err-test_words.ensures)))

pub returns-in_err-held : goal.returns-in_err-held
returns-in_err-held g c = λ r sent asked.
    let h = asked.serves in
    let is = asked.reads in
    let MayFail = g.F.Files.reading_may_fail in
    let known = c.new-read.ensures r in
    let words_read = c.in_ok-words.ensures r h (c.in_ok-expected.ensures.kept r h known) in
    let sources_read = c.in_ok-sources.ensures r sent.edits h (subst (λ (es : List Edit). AreEdits es sent.edits) (sym c.deref-3.ensures.value) is.edits) words_read.1 in
    let stopped = err_from_is_err_and c.from_residual-in_err-held.result c.from_residual-in_err-held.ensures.1 in
    let named = c.in_ok-name.ensures r sent h (c.deref.ensures.value ∙ is.name) in
    ends_told MayFail r (Commit sent) name_causes (IsCommitBase r sent) c.from_residual-in_err-held.result c.in_err-held.field-0.0 (stopped.1 ∙ ap Err stopped.2)
    (gives_told MayFail _ name_causes r sent c.read_held.result c.in_err-held.field-0.0 c.in_err-held.was (c.read_held.ensures r h sources_read.1))

pub returns-in_err-test : goal.returns-in_err-test
returns-in_err-test g c = λ r sent asked.
    let h = asked.serves in
    let is = asked.reads in
    let MayFail = g.F.Files.reading_may_fail in
    let known = c.new-read.ensures r in
    let words_read = c.in_ok-words.ensures r h (c.in_ok-expected.ensures.kept r h known) in
    let sources_read = c.in_ok-sources.ensures r sent.edits h (subst (λ (es : List Edit). AreEdits es sent.edits) (sym c.deref-3.ensures.value) is.edits) words_read.1 in
    let held_read = c.in_ok-held.ensures r h sources_read.1 in
    let named = c.in_ok-name.ensures r sent h (c.deref.ensures.value ∙ is.name) in
    let expects = c.in_ok-expected.ensures.reads r sent.expect h is.expect known in
    let meanings = parent_meanings r sent c.args.command.now.parents.items c.in_ok-words.words.items is.parents
    (words_read.0.0 ∙ ap (map (λ (word : Vec ℕ Global). commit_or_cause r word.items)) c.deref-2.ensures.value) in
    let told = sources_read.0.0 in
    let all_meant = others_meant r sent c.in_ok-words.words.items c.in_ok-sources.sources.items c.in_ok-all.all.items meanings told
    (c.in_ok-all.ensures ∙ (λ i. c.deref-4.ensures.value i ++ filter_map (λ source. source) (c.deref-5.ensures.value i))) in
    let words_are = words_so r sent c.in_ok-expected.expected c.in_ok-all.all.items expects all_meant ∙ ap (λ words. words_cause (expected_meanings c.in_ok-expected.expected ++ map meaning_of words)) (sym c.deref-6.ensures.value) in
    let held_at = subst (λ n. IsHeld r n c.in_ok-held.held) (c.deref-7.ensures.value ∙ named.1.named) held_read.0 in
    let held_is = held_told r sent c.in_ok-expected.expected c.in_ok-held.held c.commit_held.result expects held_at c.commit_held.ensures in
    let stopped = err_from_is_err_and c.from_residual-in_err-test.result c.from_residual-in_err-test.ensures.1 in
    let cause = c.in_err-test.field-0.0 in
    ends_told MayFail r (Commit sent) name_causes (IsCommitBase r sent) c.from_residual-in_err-test.result (Refused cause) (stopped.1 ∙ ap Err stopped.2)
    (told_behind MayFail r (Commit sent) name_form_causes (word_causes ++ (held_causes ++ (place_causes ++ parent_causes))) (Refused cause) named.0
    (told_behind MayFail r (Commit sent) word_causes (held_causes ++ (place_causes ++ parent_causes)) (Refused cause) (words_are ∙ c.in_ok-test_words.ensures)
    (told_in_front MayFail r (Commit sent) held_causes (place_causes ++ parent_causes) (Refused cause) (held_is ∙ c.in_err-test.ensures))))

pub returns-in_err-test_place : goal.returns-in_err-test_place
returns-in_err-test_place g c = λ r sent asked.
    let h = asked.serves in
    let is = asked.reads in
    let MayFail = g.F.Files.reading_may_fail in
    let known = c.new-read.ensures r in
    let words_read = c.in_ok-words.ensures r h (c.in_ok-expected.ensures.kept r h known) in
    let sources_read = c.in_ok-sources.ensures r sent.edits h (subst (λ (es : List Edit). AreEdits es sent.edits) (sym c.deref-3.ensures.value) is.edits) words_read.1 in
    let held_read = c.in_ok-held.ensures r h sources_read.1 in
    let named = c.in_ok-name.ensures r sent h (c.deref.ensures.value ∙ is.name) in
    let expects = c.in_ok-expected.ensures.reads r sent.expect h is.expect known in
    let meanings = parent_meanings r sent c.args.command.now.parents.items c.in_ok-words.words.items is.parents
    (words_read.0.0 ∙ ap (map (λ (word : Vec ℕ Global). commit_or_cause r word.items)) c.deref-2.ensures.value) in
    let told = sources_read.0.0 in
    let all_meant = others_meant r sent c.in_ok-words.words.items c.in_ok-sources.sources.items c.in_ok-all.all.items meanings told
    (c.in_ok-all.ensures ∙ (λ i. c.deref-4.ensures.value i ++ filter_map (λ source. source) (c.deref-5.ensures.value i))) in
    let words_are = words_so r sent c.in_ok-expected.expected c.in_ok-all.all.items expects all_meant ∙ ap (λ words. words_cause (expected_meanings c.in_ok-expected.expected ++ map meaning_of words)) (sym c.deref-6.ensures.value) in
    let held_at = subst (λ n. IsHeld r n c.in_ok-held.held) (c.deref-7.ensures.value ∙ named.1.named) held_read.0 in
    let held_is = held_told r sent c.in_ok-expected.expected c.in_ok-held.held c.commit_held.result expects held_at c.commit_held.ensures in
    let stopped = err_from_is_err_and c.from_residual-in_err-test_place.result c.from_residual-in_err-test_place.ensures.1 in
    let told = c.in_err-test_place.field-0.0 in
    stopped_by MayFail r (Commit sent) place_causes name_causes (λ done. ⊤) (IsCommitBase r sent) c.test_place.result c.from_residual-in_err-test_place.result told c.in_err-test_place.was (stopped.1 ∙ ap Err stopped.2)
    (λ by. told_behind MayFail r (Commit sent) name_form_causes (word_causes ++ (held_causes ++ (place_causes ++ parent_causes))) told named.0
    (told_behind MayFail r (Commit sent) word_causes (held_causes ++ (place_causes ++ parent_causes)) told (words_are ∙ c.in_ok-test_words.ensures)
    (told_behind MayFail r (Commit sent) held_causes (place_causes ++ parent_causes) told (held_is ∙ c.in_ok-test.ensures)
    (told_in_front MayFail r (Commit sent) place_causes parent_causes told by))))
    (c.test_place.ensures r sent h (c.deref-8.ensures.value ∙ named.1.named) (ap is_name c.deref-8.ensures.value ∙ named.1.formed) held_at)

pub returns-in_err-commits : goal.returns-in_err-commits
returns-in_err-commits g c = λ r sent asked.
    let h = asked.serves in
    let is = asked.reads in
    let MayFail = g.F.Files.reading_may_fail in
    let known = c.new-read.ensures r in
    let words_read = c.in_ok-words.ensures r h (c.in_ok-expected.ensures.kept r h known) in
    let sources_read = c.in_ok-sources.ensures r sent.edits h (subst (λ (es : List Edit). AreEdits es sent.edits) (sym c.deref-3.ensures.value) is.edits) words_read.1 in
    let held_read = c.in_ok-held.ensures r h sources_read.1 in
    let stopped = err_from_is_err_and c.from_residual-in_err-commits.result c.from_residual-in_err-commits.ensures.1 in
    ends_told MayFail r (Commit sent) name_causes (IsCommitBase r sent) c.from_residual-in_err-commits.result (Fault Memory) (stopped.1 ∙ ap Err stopped.2) tt

pub returns-in_err-parents : goal.returns-in_err-parents
returns-in_err-parents g c = λ r sent asked.
    let h = asked.serves in
    let is = asked.reads in
    let MayFail = g.F.Files.reading_may_fail in
    let known = c.new-read.ensures r in
    let words_read = c.in_ok-words.ensures r h (c.in_ok-expected.ensures.kept r h known) in
    let sources_read = c.in_ok-sources.ensures r sent.edits h (subst (λ (es : List Edit). AreEdits es sent.edits) (sym c.deref-3.ensures.value) is.edits) words_read.1 in
    let held_read = c.in_ok-held.ensures r h sources_read.1 in
    let stopped = err_from_is_err_and c.from_residual-in_err-parents.result c.from_residual-in_err-parents.ensures.1 in
    ends_told MayFail r (Commit sent) name_causes (IsCommitBase r sent) c.from_residual-in_err-parents.result (Fault Memory) (stopped.1 ∙ ap Err stopped.2) tt

pub returns-in_err-test_parents : goal.returns-in_err-test_parents
returns-in_err-test_parents g c = λ r sent asked.
    let h = asked.serves in
    let is = asked.reads in
    let MayFail = g.F.Files.reading_may_fail in
    let known = c.new-read.ensures r in
    let words_read = c.in_ok-words.ensures r h (c.in_ok-expected.ensures.kept r h known) in
    let sources_read = c.in_ok-sources.ensures r sent.edits h (subst (λ (es : List Edit). AreEdits es sent.edits) (sym c.deref-3.ensures.value) is.edits) words_read.1 in
    let held_read = c.in_ok-held.ensures r h sources_read.1 in
    let named = c.in_ok-name.ensures r sent h (c.deref.ensures.value ∙ is.name) in
    let expects = c.in_ok-expected.ensures.reads r sent.expect h is.expect known in
    let meanings = parent_meanings r sent c.args.command.now.parents.items c.in_ok-words.words.items is.parents
    (words_read.0.0 ∙ ap (map (λ (word : Vec ℕ Global). commit_or_cause r word.items)) c.deref-2.ensures.value) in
    let told = sources_read.0.0 in
    let all_meant = others_meant r sent c.in_ok-words.words.items c.in_ok-sources.sources.items c.in_ok-all.all.items meanings told
    (c.in_ok-all.ensures ∙ (λ i. c.deref-4.ensures.value i ++ filter_map (λ source. source) (c.deref-5.ensures.value i))) in
    let words_are = words_so r sent c.in_ok-expected.expected c.in_ok-all.all.items expects all_meant ∙ ap (λ words. words_cause (expected_meanings c.in_ok-expected.expected ++ map meaning_of words)) (sym c.deref-6.ensures.value) in
    let held_at = subst (λ n. IsHeld r n c.in_ok-held.held) (c.deref-7.ensures.value ∙ named.1.named) held_read.0 in
    let held_is = held_told r sent c.in_ok-expected.expected c.in_ok-held.held c.commit_held.result expects held_at c.commit_held.ensures in
    let placed = c.in_ok-test_place.ensures r sent h (c.deref-8.ensures.value ∙ named.1.named) (ap is_name c.deref-8.ensures.value ∙ named.1.formed) held_at in
    let peeled_are = c.in_ok-commits.ensures ∙ ap (λ words. option_to_list c.peeled_held.result ++ filter_map peeled_in words) c.deref-9.ensures.value in
    let commits_are = parents_told r sent c.in_ok-held.held c.peeled_held.result c.in_ok-words.words.items c.in_ok-commits.commits.items c.peeled_held.ensures held_at.commit meanings peeled_are in
    let parents_are = ids_told r sent c.in_ok-commits.commits.items c.in_ok-parents.parents.items commits_are (c.in_ok-parents.ensures ∙ ap (map (λ (commit : PeeledCommit). commit.id)) c.deref-10.ensures.value) in
    let parents_is = parents_so r sent c.in_ok-parents.parents.items parents_are ∙ ap (λ ids. parents_cause (map id_of ids)) (sym c.deref-11.ensures.value) in
    let stopped = err_from_is_err_and c.from_residual-in_err-test_parents.result c.from_residual-in_err-test_parents.ensures.1 in
    let cause = c.in_err-test_parents.field-0.0 in
    ends_told MayFail r (Commit sent) name_causes (IsCommitBase r sent) c.from_residual-in_err-test_parents.result (Refused cause) (stopped.1 ∙ ap Err stopped.2)
    (told_behind MayFail r (Commit sent) name_form_causes (word_causes ++ (held_causes ++ (place_causes ++ parent_causes))) (Refused cause) named.0
    (told_behind MayFail r (Commit sent) word_causes (held_causes ++ (place_causes ++ parent_causes)) (Refused cause) (words_are ∙ c.in_ok-test_words.ensures)
    (told_behind MayFail r (Commit sent) held_causes (place_causes ++ parent_causes) (Refused cause) (held_is ∙ c.in_ok-test.ensures)
    (told_behind MayFail r (Commit sent) place_causes parent_causes (Refused cause) placed.0 (parents_is ∙ c.in_err-test_parents.ensures)))))

pub returns-in_err-tree : goal.returns-in_err-tree
returns-in_err-tree g c = λ r sent asked.
    let h = asked.serves in
    let is = asked.reads in
    let MayFail = g.F.Files.reading_may_fail in
    let known = c.new-read.ensures r in
    let words_read = c.in_ok-words.ensures r h (c.in_ok-expected.ensures.kept r h known) in
    let sources_read = c.in_ok-sources.ensures r sent.edits h (subst (λ (es : List Edit). AreEdits es sent.edits) (sym c.deref-3.ensures.value) is.edits) words_read.1 in
    let held_read = c.in_ok-held.ensures r h sources_read.1 in
    let named = c.in_ok-name.ensures r sent h (c.deref.ensures.value ∙ is.name) in
    let meanings = parent_meanings r sent c.args.command.now.parents.items c.in_ok-words.words.items is.parents
    (words_read.0.0 ∙ ap (map (λ (word : Vec ℕ Global). commit_or_cause r word.items)) c.deref-2.ensures.value) in
    let held_at = subst (λ n. IsHeld r n c.in_ok-held.held) (c.deref-7.ensures.value ∙ named.1.named) held_read.0 in
    let peeled_are = c.in_ok-commits.ensures ∙ ap (λ words. option_to_list c.peeled_held.result ++ filter_map peeled_in words) c.deref-9.ensures.value in
    let commits_are = parents_told r sent c.in_ok-held.held c.peeled_held.result c.in_ok-words.words.items c.in_ok-commits.commits.items c.peeled_held.ensures held_at.commit meanings peeled_are in
    let hold = subst (AllByRecursion (HoldsCommit r)) (sym (ap (map peeled_id) c.deref-12.ensures.value ∙ commits_are)) (parents_are_commits r sent h.whole.whole.store) in
    let rooted = subst (λ (commits : List PeeledCommit). AllByRecursion (HasRoot r) commits) (sym c.deref-12.ensures.value)
    (parents_rooted r c.in_ok-held.held c.peeled_held.result c.in_ok-words.words.items c.in_ok-commits.commits.items c.peeled_held.ensures held_read.0.rooted words_read.0.1 peeled_are) in
    let stopped = err_from_is_err_and c.from_residual-in_err-tree.result c.from_residual-in_err-tree.ensures.1 in
    ends_told MayFail r (Commit sent) name_causes (IsCommitBase r sent) c.from_residual-in_err-tree.result c.in_err-tree.field-0.0 (stopped.1 ∙ ap Err stopped.2)
    (gives_told MayFail _ name_causes r sent c.tree_before.result c.in_err-tree.field-0.0 c.in_err-tree.was (c.tree_before.ensures r h hold rooted held_read.1))

pub returns-in_err-sources-3 : goal.returns-in_err-sources-3
returns-in_err-sources-3 g c = λ r sent asked.
    let h = asked.serves in
    let is = asked.reads in
    let MayFail = g.F.Files.reading_may_fail in
    let known = c.new-read.ensures r in
    let words_read = c.in_ok-words.ensures r h (c.in_ok-expected.ensures.kept r h known) in
    let sources_read = c.in_ok-sources.ensures r sent.edits h (subst (λ (es : List Edit). AreEdits es sent.edits) (sym c.deref-3.ensures.value) is.edits) words_read.1 in
    let held_read = c.in_ok-held.ensures r h sources_read.1 in
    let named = c.in_ok-name.ensures r sent h (c.deref.ensures.value ∙ is.name) in
    let meanings = parent_meanings r sent c.args.command.now.parents.items c.in_ok-words.words.items is.parents
    (words_read.0.0 ∙ ap (map (λ (word : Vec ℕ Global). commit_or_cause r word.items)) c.deref-2.ensures.value) in
    let told = sources_read.0.0 in
    let held_at = subst (λ n. IsHeld r n c.in_ok-held.held) (c.deref-7.ensures.value ∙ named.1.named) held_read.0 in
    let peeled_are = c.in_ok-commits.ensures ∙ ap (λ words. option_to_list c.peeled_held.result ++ filter_map peeled_in words) c.deref-9.ensures.value in
    let commits_are = parents_told r sent c.in_ok-held.held c.peeled_held.result c.in_ok-words.words.items c.in_ok-commits.commits.items c.peeled_held.ensures held_at.commit meanings peeled_are in
    let hold = subst (AllByRecursion (HoldsCommit r)) (sym (ap (map peeled_id) c.deref-12.ensures.value ∙ commits_are)) (parents_are_commits r sent h.whole.whole.store) in
    let rooted = subst (λ (commits : List PeeledCommit). AllByRecursion (HasRoot r) commits) (sym c.deref-12.ensures.value)
    (parents_rooted r c.in_ok-held.held c.peeled_held.result c.in_ok-words.words.items c.in_ok-commits.commits.items c.peeled_held.ensures held_read.0.rooted words_read.0.1 peeled_are) in
    let tree_read = c.in_ok-tree.ensures r h hold rooted held_read.1 in
    let sources_are = c.in_ok-sources-2.ensures ∙ ap (map (option_and_then peeled_in)) c.deref-13.ensures.value in
    let source_ids = ap (map (option_map peeled_id)) sources_are ∙ source_ids_told r sent.edits c.in_ok-sources.sources.items told in
    let held_sources = sources_held r h.whole.whole.store sent.edits c.in_ok-sources-2.sources.items source_ids (subst (λ (sources : List (Option PeeledCommit)). AllByRecursion (IsRootedSource r) sources) (sym sources_are) (sources_rooted r c.in_ok-sources.sources.items sources_read.0.1)) in
    let stopped = err_from_is_err_and c.from_residual-in_err-sources-3.result c.from_residual-in_err-sources-3.ensures.1 in
    ends_told MayFail r (Commit sent) name_causes (IsCommitBase r sent) c.from_residual-in_err-sources-3.result c.in_err-sources-3.field-0.0 (stopped.1 ∙ ap Err stopped.2)
    (gives_told MayFail _ name_causes r sent c.root_sources.result c.in_err-sources-3.field-0.0 c.in_err-sources-3.was (c.root_sources.ensures r h (subst (AllByRecursion (IsHeldSource r)) (sym c.deref-14.ensures.value) held_sources) tree_read.1))

pub returns : goal.returns
returns g c = λ r sent asked.
    let h = asked.serves in
    let is = asked.reads in
    let MayFail = g.F.Files.reading_may_fail in
    let known = c.new-read.ensures r in
    let words_read = c.in_ok-words.ensures r h (c.in_ok-expected.ensures.kept r h known) in
    let sources_read = c.in_ok-sources.ensures r sent.edits h (subst (λ (es : List Edit). AreEdits es sent.edits) (sym c.deref-3.ensures.value) is.edits) words_read.1 in
    let held_read = c.in_ok-held.ensures r h sources_read.1 in
    let named = c.in_ok-name.ensures r sent h (c.deref.ensures.value ∙ is.name) in
    let expects = c.in_ok-expected.ensures.reads r sent.expect h is.expect known in
    let meanings = parent_meanings r sent c.args.command.now.parents.items c.in_ok-words.words.items is.parents
    (words_read.0.0 ∙ ap (map (λ (word : Vec ℕ Global). commit_or_cause r word.items)) c.deref-2.ensures.value) in
    let told = sources_read.0.0 in
    let all_meant = others_meant r sent c.in_ok-words.words.items c.in_ok-sources.sources.items c.in_ok-all.all.items meanings told
    (c.in_ok-all.ensures ∙ (λ i. c.deref-4.ensures.value i ++ filter_map (λ source. source) (c.deref-5.ensures.value i))) in
    let words_are = words_so r sent c.in_ok-expected.expected c.in_ok-all.all.items expects all_meant ∙ ap (λ words. words_cause (expected_meanings c.in_ok-expected.expected ++ map meaning_of words)) (sym c.deref-6.ensures.value) in
    let held_at = subst (λ n. IsHeld r n c.in_ok-held.held) (c.deref-7.ensures.value ∙ named.1.named) held_read.0 in
    let held_is = held_told r sent c.in_ok-expected.expected c.in_ok-held.held c.commit_held.result expects held_at c.commit_held.ensures in
    let placed = c.in_ok-test_place.ensures r sent h (c.deref-8.ensures.value ∙ named.1.named) (ap is_name c.deref-8.ensures.value ∙ named.1.formed) held_at in
    let peeled_are = c.in_ok-commits.ensures ∙ ap (λ words. option_to_list c.peeled_held.result ++ filter_map peeled_in words) c.deref-9.ensures.value in
    let commits_are = parents_told r sent c.in_ok-held.held c.peeled_held.result c.in_ok-words.words.items c.in_ok-commits.commits.items c.peeled_held.ensures held_at.commit meanings peeled_are in
    let parents_are = ids_told r sent c.in_ok-commits.commits.items c.in_ok-parents.parents.items commits_are (c.in_ok-parents.ensures ∙ ap (map (λ (commit : PeeledCommit). commit.id)) c.deref-10.ensures.value) in
    let parents_is = parents_so r sent c.in_ok-parents.parents.items parents_are ∙ ap (λ ids. parents_cause (map id_of ids)) (sym c.deref-11.ensures.value) in
    let hold = subst (AllByRecursion (HoldsCommit r)) (sym (ap (map peeled_id) c.deref-12.ensures.value ∙ commits_are)) (parents_are_commits r sent h.whole.whole.store) in
    let rooted = subst (λ (commits : List PeeledCommit). AllByRecursion (HasRoot r) commits) (sym c.deref-12.ensures.value)
    (parents_rooted r c.in_ok-held.held c.peeled_held.result c.in_ok-words.words.items c.in_ok-commits.commits.items c.peeled_held.ensures held_read.0.rooted words_read.0.1 peeled_are) in
    let tree_read = c.in_ok-tree.ensures r h hold rooted held_read.1 in
    let sources_are = c.in_ok-sources-2.ensures ∙ ap (map (option_and_then peeled_in)) c.deref-13.ensures.value in
    let source_ids = ap (map (option_map peeled_id)) sources_are ∙ source_ids_told r sent.edits c.in_ok-sources.sources.items told in
    let held_sources = sources_held r h.whole.whole.store sent.edits c.in_ok-sources-2.sources.items source_ids (subst (λ (sources : List (Option PeeledCommit)). AllByRecursion (IsRootedSource r) sources) (sym sources_are) (sources_rooted r c.in_ok-sources.sources.items sources_read.0.1)) in
    let roots = c.in_ok-sources-3.ensures r h (subst (AllByRecursion (IsHeldSource r)) (sym c.deref-14.ensures.value) held_sources) tree_read.1 in (
      none_joined MayFail r (Commit sent) name_form_causes (word_causes ++ (held_causes ++ (place_causes ++ parent_causes))) named.0
          (none_joined MayFail r (Commit sent) word_causes (held_causes ++ (place_causes ++ parent_causes)) (words_are ∙ c.in_ok-test_words.ensures)
          (none_joined MayFail r (Commit sent) held_causes (place_causes ++ parent_causes) (held_is ∙ c.in_ok-test.ensures)
          (none_joined MayFail r (Commit sent) place_causes parent_causes placed.0 (parents_is ∙ c.in_ok-test_parents.ensures)))),
      record {
        name = named.1.named;
        held = c.id_held.ensures ∙ held_at.id;
        parents = parents_are;
        tree = subst (λ (ids : List Id). IsTreeBefore r ids c.in_ok-tree.tree) (ap (map peeled_id) c.deref-12.ensures.value ∙ commits_are) tree_read.0;
        sources = roots.0.0 ∙ ap (map (option_map peeled_id)) c.deref-14.ensures.value ∙ source_ids;
        rooted = roots.0.1;
      },
    )
