use Rattle.std.proofs.Common.{◌≡◌, ◌∙◌, sym, subst, ap, length, List, None}
use Rattle.gix_traverse_tree.specs.Folders.{numbers_of, NumbersName}
use Rattle.gix_traverse_tree.specs.declared.folders.Folder.{Folder}
use Rattle.gix_traverse_tree.proofs.Numbering.{named_pushed}
use Rattle.gix_traverse_tree.proofs.folders.number_name.Goals as goal

pub returns : goal.returns
returns c =
    let old = c.args.folders.now.items in
    let none : numbers_of old c.args.at c.args.name.now ≡ None =
    ap (λ (folders : List Folder). numbers_of folders c.args.at c.args.name.now) (sym c.as_slice.ensures.value) ∙ sym c.number_at.ensures ∙ c.in_default.is in
    subst (λ (folders : List Folder). NumbersName c.args.at c.args.name.now c.len-number.result old folders) (sym c.in_ok-push.ensures.items)
    (named_pushed old c.put_at.new.folders.items c.empty.result c.args.at c.len-number.result c.args.name.now c.requires.numbered c.requires.within none
    c.in_ok-put_at.ensures.len (c.len-number.ensures ∙ sym c.as_slice.ensures.len ∙ ap (λ (folders : List Folder). length folders) c.as_slice.ensures.value) c.in_ok-put_at.ensures.here c.in_ok-put_at.ensures.others c.empty.ensures)
