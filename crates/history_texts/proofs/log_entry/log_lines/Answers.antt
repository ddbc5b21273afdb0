use Rattle.std.proofs.Common.{◌≡◌, arith, rules, refl, subst, map, Bor}
use Rattle.std.specs.Prelude.{Result, Vec, IfOk}
use Rattle.std.specs.declared.alloc.AllocError.{AllocError}
use Rattle.std.specs.declared.alloc.Global.{Global}
use Rattle.std.specs.List.{slice_split}
use Rattle.std.proofs.lemmas.Iterator.Consumers.{map_from_collect}
use Rattle.std.proofs.lemmas.Iterator.Splits.{YieldsList-from_slice_split}
use Rattle.history_model.specs.Bytes.{Bytes}
use Rattle.history_texts.proofs.LogLines.{is_feed, newest_first}
use Rattle.history_texts.proofs.log_entry.log_lines.Goals as goal

pub returns : goal.returns
returns c = λ lines rest all lacks is_log.
    let log = c.args.log.now in
    let collected = map_from_collect c.collect.result c.collect.ensures.ran (YieldsList-from_slice_split _ is_feed log c.split.ensures.rest c.split.ensures.done refl (λ x b q k. search rules)) in
    let cut = subst (λ (r : Result (Vec (Bor Bytes) Global) AllocError). IfOk r (λ parts. map (λ part. part.now) parts.items ≡ slice_split is_feed log)) c.in_ok-lines.was collected in
    newest_first log c.in_ok-lines.lines.items c.pop.new.self.items c.reverse.new.self.items lines rest _ cut (omega arith) c.pop.ensures.rest c.reverse.ensures.items all lacks is_log
