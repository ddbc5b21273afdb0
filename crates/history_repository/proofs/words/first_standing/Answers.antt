use Rattle.std.proofs.Common.{◌∙◌, sym, ap, refl, option_map, is_some}
use Rattle.history_repository.proofs.WordReads.{may_mean, all_left, next_passed, next_absent, next_found, found_first, none_first, stands_so, candidate_held}
use Rattle.history_repository.proofs.words.first_standing.Goals as goal
use Rattle.history_repository.proofs.words.first_standing.Goals.{then-is_candidate+in_ok-id+in_default, else-is_candidate}
use Rattle.gix_hash.specs.Id.{id_of}

pub loop-front-init : goal.loop-front-init
loop-front-init g c = λ r stand. all_left r c.args.word.now _ refl

pub loop-front-preserved : goal.loop-front-preserved
loop-front-preserved g c = λ r stand.
    let name = c.in_ok-name.name.items in
    let tested = c.is_candidate.ensures ∙ ap may_mean c.deref.ensures.value in
    c.loop-front.invariant r stand
    ∙ elim c.if-is_candidate.branch [
      | then-is_candidate+in_ok-id+in_default w ↦
          let at = candidate_held g.F.Files.is_honest g.F.Files.history c.args.repository.now r stand _ name w.deref-then-is_candidate.ensures.value (sym tested ∙ w.if-is_candidate.true) _ (w.in_ok-id.ensures.found stand.honest_names stand.records) in
          next_absent r c.args.word.now _ c.loop-front.front-index _ c.loop-front-test.true name c.in_ok-name.ensures (stands_so r name _ at ∙ ap (λ o. is_some (option_map id_of o)) w.in_default.is)
      | else-is_candidate w ↦ next_passed r c.args.word.now _ c.loop-front.front-index _ c.loop-front-test.true name c.in_ok-name.ensures (sym tested ∙ w.if-is_candidate.false)
    ]

pub returns-in-Some : goal.returns-in-Some
returns-in-Some g c = λ r stand.
    let name = c.in_ok-name.name.items in
    let may = sym (c.is_candidate.ensures ∙ ap may_mean c.deref.ensures.value) ∙ c.if-is_candidate.true in
    let at = candidate_held g.F.Files.is_honest g.F.Files.history c.args.repository.now r stand _ name c.deref-then-is_candidate.ensures.value may _ (c.in_ok-id.ensures.found stand.honest_names stand.records) ∙ ap (option_map id_of) c.in-Some.is in
    let found = c.loop-front.invariant r stand ∙ next_found r c.args.word.now _ c.loop-front.front-index _ c.loop-front-test.true name c.in_ok-name.ensures may (stands_so r name _ at) in
    record { first = found_first r c.args.word.now _ found; holds = at }

pub returns : goal.returns
returns g c = λ r stand. none_first r c.args.word.now _ c.loop-front.front-index c.loop-front-test.false (c.loop-front.invariant r stand)
