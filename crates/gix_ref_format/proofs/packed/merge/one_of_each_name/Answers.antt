use Rattle.std.proofs.Common.{◌≡◌, ◌∙◌, ◌++◌, ◌∷◌, ap, sym, map, drop, suc, arith, add-one, drop-cons, option_map, None, Some, ◌<◌, length, ◌+◌}
use Rattle.gix_ref_name.specs.Names.{name_of}
use Rattle.gix_ref_format.specs.Packed.{record_of}
use Rattle.gix_ref_format.specs.Edited.{line_of, lines_of, standing, is_same}
use Rattle.gix_ref_format.proofs.EditLemmas.{stands_on, stands_still}
use Rattle.gix_ref_format.proofs.packed.merge.one_of_each_name.Goals as goal
use Rattle.gix_ref_format.proofs.packed.merge.one_of_each_name.Goals.{then-not-is_same+in_ok-add_record, else-not-is_same}

pub loop-line-preserved : goal.loop-line-preserved
loop-line-preserved c =
    let lines = c.args.lines.now in
    let i = c.loop-line.line-index in
    let line = line_of c.line-item.result in
    let last = option_map name_of c.loop-line.last in
    let records = map record_of c.loop-line.records.items in
    let behind = lines_of (drop (i + 1) lines) in
    let inside : i < length lines = omega arith in
    let here : drop i lines ≡ c.line-item.result ∷ drop (i + 1) lines =
    drop-cons lines i c.line-item.result inside ∙ ap (λ e. e ∷ drop (suc i) lines) (sym c.line-item.is) ∙ ap (λ n. c.line-item.result ∷ drop n lines) (sym (add-one i)) in
    let all : records ++ standing last (line ∷ behind) ≡ standing None (lines_of lines) =
    ap (λ l. records ++ standing last (lines_of l)) (sym here) ∙ c.loop-line.invariant in
    let named = c.name-name.ensures in
    elim c.if-not-is_same.branch [
      | then-not-is_same+in_ok-add_record w ↦
          ap (λ n. map record_of c.if-not-is_same.records.items ++ standing (Some n) behind) named
          ∙ stands_on records (map record_of c.if-not-is_same.records.items) (standing None (lines_of lines)) last line behind
          (ap (is_same last) (sym named) ∙ sym w.if-not-is_same.ensures) (ap (λ v. map record_of v.items) w.records-is ∙ w.in_ok-add_record.ensures) all
      | else-not-is_same w ↦
          ap (λ n. map record_of c.if-not-is_same.records.items ++ standing (Some n) behind) named
          ∙ stands_still records (map record_of c.if-not-is_same.records.items) (standing None (lines_of lines)) last line behind
          (ap (is_same last) (sym named) ∙ sym w.if-not-is_same.ensures) (ap (λ v. map record_of v.items) w.records-is) all
    ]
