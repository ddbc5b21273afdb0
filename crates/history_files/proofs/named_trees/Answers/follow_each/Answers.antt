use Rattle.std.proofs.Common.{◌∙◌, ap, refl, Bor, List, ℕ, map}
use Rattle.std.specs.Prelude.{option_map}
use Rattle.std.proofs.lemmas.Result.{err_from_is_err_and}
use Rattle.history_model.specs.Bytes.{Bytes}
use Rattle.history_model.specs.Objects.{entry_at}
use Rattle.history_files.specs.Reading.{entry_of}
use Rattle.history_files.proofs.NamesKept.{all_taken, follow_more, follow_next, found_more}
use Rattle.history_files.proofs.named_trees.Answers.follow_each.Goals as goal

pub loop-path-init : goal.loop-path-init
loop-path-init g c = (λ honest answers. answers, refl, λ given can honest kind files is. ap (map (option_map entry_of)) c.new-found.ensures.items)

pub loop-path-preserved : goal.loop-path-preserved
loop-path-preserved g c =
    let table = g.S.Lookup.table c.args.store.now in
    let so = c.loop-path.invariant in
    let i = c.loop-path.path-index in (
      λ honest answers. c.in_ok-there.ensures.kept honest (so.0 honest answers),
      ◌∙◌ {A = List (Bor (List ℕ))} c.in_ok-there.ensures.names so.1,
      λ given can honest kind files is.
          let now = follow_more table given c.args.paths.now c.args.self.now c.loop-path.self can so.1 (so.0 honest can.kept) in
          let next = follow_next table given c.args.paths.now c.loop-path.self now i c.path-item.result c.loop-path-test.true c.as_slice.result.now (c.as_slice.ensures.value ∙ ap (λ parts. parts.items) c.path-item.is) in
          found_more (λ path. entry_at kind files path.now) given i next.0 next.2 c.loop-path.found.items c.in_ok-there.there c.push.new.self.items c.in_ok-push.ensures.items (so.2 given can honest kind files is) (c.in_ok-there.ensures.found next.0.now next.1 honest kind files is),
    )

pub returns-in_err-there-clause-refused : goal.returns-in_err-there-clause-refused
returns-in_err-there-clause-refused g c = λ given can honest kind files is.
    let table = g.S.Lookup.table c.args.store.now in
    let so = c.loop-path.invariant in
    let now = follow_more table given c.args.paths.now c.args.self.now c.loop-path.self can so.1 (so.0 honest can.kept) in
    let next = follow_next table given c.args.paths.now c.loop-path.self now c.loop-path.path-index c.path-item.result c.loop-path-test.true c.as_slice.result.now (c.as_slice.ensures.value ∙ ap (λ parts. parts.items) c.path-item.is) in
    let p = err_from_is_err_and c.from_residual.result c.from_residual.ensures.1 in
    rw (p.1, p.2) (c.in_err-there.ensures.refused next.0.now next.1 honest kind files is)

pub returns-in_err-there-clause-names : goal.returns-in_err-there-clause-names
returns-in_err-there-clause-names g c = ◌∙◌ {A = List (Bor (List ℕ))} c.in_err-there.ensures.names c.loop-path.invariant.1

pub returns-in_err-push-clause-names : goal.returns-in_err-push-clause-names
returns-in_err-push-clause-names g c = ◌∙◌ {A = List (Bor (List ℕ))} c.in_ok-there.ensures.names c.loop-path.invariant.1

pub returns-clause-found : goal.returns-clause-found
returns-clause-found g c = λ given can honest kind files is.
    c.loop-path.invariant.2 given can honest kind files is
    ∙ ap (map (λ (path : Bor Bytes). entry_at kind files path.now)) (all_taken c.args.paths.now given can.each c.loop-path.path-index c.loop-path-test.false)

pub returns-clause-kept : goal.returns-clause-kept
returns-clause-kept g c = c.loop-path.invariant.0
