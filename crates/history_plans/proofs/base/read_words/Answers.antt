use Rattle.std.proofs.Common.{◌∙◌, ap, sym, subst, List, Vec, ℕ, map}
use Rattle.std.specs.List.{AllByRecursion}
use Rattle.std.specs.declared.alloc.Global.{Global}
use Rattle.std.proofs.lemmas.List.{take_all}
use Rattle.history_repository.specs.Meanings.{HasRootIn, commit_or_cause, meaning_of}
use Rattle.history_repository.specs.declared.words.WordMeaning.{WordMeaning}
use Rattle.history_repository.proofs.ReadingFaults.{fault_told}
use Rattle.history_plans.proofs.BaseLemmas.{all_more, meaning_added}
use Rattle.history_plans.proofs.base.read_words.Goals as goal

pub loop-word-init : goal.loop-word-init
loop-word-init g c = λ r h known.
    ((ap (map meaning_of) c.new-meanings.ensures.items, subst (λ (meanings : List WordMeaning). AllByRecursion (HasRootIn r) meanings) (sym c.new-meanings.ensures.items) tt), known)

pub loop-word-preserved : goal.loop-word-preserved
loop-word-preserved g c = λ r h known.
    let so_far = c.loop-word.invariant r h known in
    let read = c.in_ok-read_word.ensures r h so_far.1 in (
      (
        meaning_added r c.args.words.now c.loop-word.word-index c.word-item.result c.in_ok-read_word.field-0 c.loop-word.meanings.items c.push.new.self.items c.loop-word-test.true c.word-item.is
            (read.0.means ∙ ap (commit_or_cause r) c.deref.ensures.value) so_far.0.0 c.in_ok-push.ensures.items,
        all_more (HasRootIn r) c.loop-word.meanings.items c.push.new.self.items c.in_ok-read_word.field-0 so_far.0.1 read.0.rooted c.in_ok-push.ensures.items,
      ),
      read.1,
    )

pub returns-in_err-read_word : goal.returns-in_err-read_word
returns-in_err-read_word g c = λ r h known.
    fault_told g.F.Files.reading_may_fail _ c.from_residual.result _ c.from_residual.ensures.1 (c.in_err-read_word.ensures r h (c.loop-word.invariant r h known).1)

pub returns : goal.returns
returns g c = λ r h known.
    let so_far = c.loop-word.invariant r h known in
    ((so_far.0.0 ∙ ap (map (λ (word : Vec ℕ Global). commit_or_cause r word.items)) (take_all c.loop-word.word-index c.args.words.now c.loop-word-test.false), so_far.0.1), so_far.1)
