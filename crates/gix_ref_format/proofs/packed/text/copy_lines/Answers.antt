use Rattle.std.proofs.Common.{◌≡◌, ◌∙◌, ◌∷◌, ◌+◌, ◌<◌, List, ℕ, Some, ap, arith, add-one, drop, drop-cons, length, option_map, subst, suc, sym}
use Rattle.std.proofs.lemmas.List.{drop_all}
use Rattle.gix_ref_name.specs.Names.{name_of}
use Rattle.gix_ref_format.specs.Edited.{line_of, lines_of}
use Rattle.gix_ref_format.specs.PackedBuffer.{entry_records}
use Rattle.gix_ref_format.specs.declared.packed.edit.Edit.{Edit}
use Rattle.gix_ref_format.proofs.MergeLemmas.{OnTheWay, ascend_from, edit_named, way_ends, way_next}
use Rattle.gix_ref_format.proofs.packed.text.copy_lines.Goals as goal

pub loop-line-preserved : goal.loop-line-preserved
loop-line-preserved c = λ rises stand.
    let lines = c.args.lines.now in
    let i = c.loop-line.line-index in
    let line = line_of c.line-item.result in
    let last = option_map name_of c.loop-line.last in
    let all = entry_records c.args.all.entries.now in
    let rest = entry_records c.loop-line.rest.entries.now in
    let back = entry_records c.in_ok-rest.rest.entries.now in
    let old = c.args.text.now.items in
    let text = c.loop-line.text.items in
    let new = c.copy_line.new.text.items in
    let left = lines_of (drop (i + 1) lines) in
    let inside : i < length lines = omega arith in
    let here : drop i lines ≡ c.line-item.result ∷ drop (i + 1) lines =
    drop-cons lines i c.line-item.result inside ∙ ap (λ e. e ∷ drop (suc i) lines) (sym c.line-item.is) ∙ ap (λ n. c.line-item.result ∷ drop n lines) (sym (add-one i)) in
    let way = subst (λ (es : List Edit). OnTheWay all (lines_of lines) old text last rest (lines_of es)) here (c.loop-line.invariant rises stand) in
    subst (λ (name : List ℕ). OnTheWay all (lines_of lines) old new (Some name) back left) (sym c.name.ensures)
    (way_next all (lines_of lines) old text new last rest back line left way (ascend_from rest c.loop-line.rest.ascend) (edit_named c.line-item.result)
    (λ same. (ap entry_records (c.in_ok-rest.ensures.same same).0, (c.in_ok-rest.ensures.same same).1)) c.in_ok-rest.ensures.other)

pub returns : goal.returns
returns c = λ rises stand.
    let lines = c.args.lines.now in
    let rest = entry_records c.loop-line.rest.entries.now in
    way_ends (entry_records c.args.all.entries.now) (lines_of lines) c.args.text.now.items c.loop-line.text.items (option_map name_of c.loop-line.last) rest
    (lines_of (drop c.loop-line.line-index lines)) (c.loop-line.invariant rises stand) (ap lines_of (drop_all c.loop-line.line-index lines (omega arith)))
    (ascend_from rest c.loop-line.rest.ascend)
