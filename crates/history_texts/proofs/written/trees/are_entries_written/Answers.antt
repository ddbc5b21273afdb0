use Rattle.std.proofs.Common.{◌∙◌, sym, subst, ◌<◌, length, map, refl, arith}
use Rattle.std.specs.List.{All}
use Rattle.std.proofs.lemmas.Bool.{false≢true}
use Rattle.std.proofs.lemmas.List.{take_all}
use Rattle.gix_object_tree.specs.Entry.{item_of}
use Rattle.gix_object_tree.proofs.Searched.{item_at, map_length}
use Rattle.gix_object_tree.proofs.Twins.{all_more}
use Rattle.history_texts.specs.Written.{IsWrittenEntry}
use Rattle.history_texts.proofs.written.trees.are_entries_written.Goals as goal

pub returns-then-not-is_entry_written : goal.returns-then-not-is_entry_written
returns-then-not-is_entry_written c =
    let entries = c.args.entries.now in
    let x = c.entry-item.result in
    let at = c.loop-entry.entry-index in
    let within : at < length entries = omega arith in
    let long = map_length item_of entries in (
      λ h. absurd (false≢true h),
      λ all. absurd (false≢true (sym c.if-not-is_entry_written.true ∙ c.is_entry_written.ensures.1 (subst (IsWrittenEntry c.args.digests) (item_at item_of entries at x within c.entry-item.is) (all at (item_of x) (omega arith))))),
    )

pub loop-entry-preserved : goal.loop-entry-preserved
loop-entry-preserved c =
    let entries = c.args.entries.now in
    let x = c.entry-item.result in
    let at = c.loop-entry.entry-index in
    let within : at < length entries = omega arith in
    let long = map_length item_of entries in
    all_more (IsWrittenEntry c.args.digests) (map item_of entries) at (item_of x) (omega arith) (item_at item_of entries at x within c.entry-item.is) c.loop-entry.invariant (c.is_entry_written.ensures.0 c.if-not-is_entry_written.false)

pub returns : goal.returns
returns c =
    let entries = c.args.entries.now in
    let long = map_length item_of entries in
    let all = subst (All (IsWrittenEntry c.args.digests)) (take_all c.loop-entry.entry-index (map item_of entries) (omega arith)) c.loop-entry.invariant in
    (λ _. all, λ _. refl)
