use Rattle.std.proofs.Common.{◌∙◌, sym, ap, false, option_map}
use Rattle.gix_hash.specs.Id.{id_of}
use Rattle.gix_ref_name.specs.Names.{name_of}
use Rattle.gix_ref_format.specs.Lines.{lines}
use Rattle.gix_ref_format.specs.Packed.{items, without_peel, next_number}
use Rattle.gix_ref_format.specs.PackedIter.{items_left}
use Rattle.gix_ref_format.proofs.PackedLemmas.{good_first, has_moved}
use Rattle.gix_ref_format.proofs.packed.iter.first_item.Goals as goal

pub returns : goal.returns
returns c =
    let before = c.args.before in
    let has =
    has_moved c.behind-after.result.kind before.kind c.behind-after.result.line_number (next_number before.line_number) c.behind-after.result.rest.now c.split_line.result.1.now
    (option_map id_of c.next_peeled_id-object.result.0) (items_left c.next_peeled_id-object.result.1) c.behind-after.ensures.kind c.behind-after.ensures.number c.behind-after.ensures.rest c.next_peeled_id-object.ensures
    in
    ap (items before.kind before.line_number false) c.split_line.ensures.lines
    ∙ good_first before.kind before.line_number c.split_line.result.0.now (lines c.split_line.result.1.now) (without_peel (name_of c.in-Some.name) (id_of c.in-Some.target))
    (option_map id_of c.next_peeled_id-object.result.0) (items_left c.next_peeled_id-object.result.1) (sym c.in-Some.ensures) has
