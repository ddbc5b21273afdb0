use Rattle.std.proofs.Common.{◌∙◌, ap, sym, subst, ◌<◌, length, map, refl, arith}
use Rattle.std.specs.List.{All}
use Rattle.std.proofs.lemmas.Bool.{false≢true}
use Rattle.std.proofs.lemmas.List.{take_all}
use Rattle.gix_object_tree.specs.Entry.{Item}
use Rattle.gix_object_tree.specs.WellFormed.{IsFilename}
use Rattle.gix_object_tree.proofs.Searched.{item_at, map_length}
use Rattle.gix_object_tree.proofs.Twins.{all_more}
use Rattle.gix_object_tree.proofs.tree.well_formed.has_filenames.Goals as goal

pub returns-then-not-is_filename : goal.returns-then-not-is_filename
returns-then-not-is_filename g c =
    let item = g.T.AsEntry.item in
    let entries = c.args.entries.now in
    let x = c.entry-item.result in
    let at = c.loop-entry.entry-index in
    let within : at < length entries = omega arith in
    let long = map_length item entries in
    let name = ap (λ (i : Item). i.name) (item_at item entries at x within c.entry-item.is ∙ sym c.as_entry.ensures) ∙ sym c.as_bytes.ensures in (
      λ yes. absurd (false≢true yes),
      λ all. absurd (false≢true (sym c.if-not-is_filename.true ∙ c.is_filename.ensures.1 (subst IsFilename name (all at (item x) (omega arith))))),
    )

pub loop-entry-preserved : goal.loop-entry-preserved
loop-entry-preserved g c =
    let item = g.T.AsEntry.item in
    let entries = c.args.entries.now in
    let x = c.entry-item.result in
    let at = c.loop-entry.entry-index in
    let within : at < length entries = omega arith in
    let long = map_length item entries in
    let name = ap (λ (i : Item). i.name) (sym c.as_entry.ensures) ∙ sym c.as_bytes.ensures in
    all_more (λ (i : Item). IsFilename i.name) (map item entries) at (item x) (omega arith) (item_at item entries at x within c.entry-item.is) c.loop-entry.invariant
    (subst IsFilename (sym name) (c.is_filename.ensures.0 c.if-not-is_filename.false))

pub returns : goal.returns
returns g c =
    let item = g.T.AsEntry.item in
    let entries = c.args.entries.now in
    let long = map_length item entries in
    let all = subst (All (λ (i : Item). IsFilename i.name)) (take_all c.loop-entry.entry-index (map item entries) (omega arith)) c.loop-entry.invariant in
    (λ _. all, λ _. refl)
