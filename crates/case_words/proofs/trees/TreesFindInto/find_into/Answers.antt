use Rattle.std.proofs.Common.{◌≡◌, ◌∙◌, ◌<◌, ap, sym, subst, arith, length, map, get_or, List, [], ◌∷◌, suc, refl}
use Rattle.std.proofs.lemmas.List.{get_or-map}
use Rattle.gix_hash.specs.Id.{Id, id_of}
use Rattle.gix_hash.specs.Views.{viewed_id}
use Rattle.gix_hash.specs.OrderLaws.{id_eq-same}
use Rattle.case_words.specs.declared.trees.Row.{Row}
use Rattle.case_words.proofs.trees.TreesFindInto.find_into.Goals as goal

ids_length : (rows : List Row) → length (map (λ (r : Row). id_of r.oid) rows) ≡ length rows
ids_length [] = refl
ids_length (r ∷ rows) = ap suc (ids_length rows)

pub returns-then-eq-clause-listed : goal.returns-then-eq-clause-listed
returns-then-eq-clause-listed c = λ _.
    let rows = c.args.self.now.rows.items in
    let k = c.loop-row.row-index in
    let row : Row = c.row-item.result in
    let of_row = λ (r : Row). id_of r.oid in
    let lt : k < length rows = omega (arith, ap length c.deref-row-items.ensures.value) in
    let more : k < length (map of_row rows) = omega (arith, ids_length rows) in
    let is : row ≡ get_or rows k row = c.row-item.is ∙ ap (λ (rs : List Row). get_or rs k row) c.deref-row-items.ensures.value in
    let wanted : id_of row.oid ≡ viewed_id c.args.id = id_eq-same (id_of row.oid) (id_of c.from-wanted.result) (sym c.eq.ensures ∙ c.if-eq.true) ∙ c.from-wanted.ensures in
    (k, more, get_or-map of_row rows k row (viewed_id c.args.id) lt ∙ ap of_row (sym is) ∙ wanted)
