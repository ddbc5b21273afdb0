use Rattle.std.proofs.Common.{◌≡◌, ◌∙◌, ap, sym, subst, refl, [], ◌∷◌, ◌++◌, map, Vec, Global}
use Rattle.std.proofs.lemmas.Fn.{chained_keeps}
use Rattle.gix_hash.specs.Id.{id_of}
use Rattle.gix_hash.specs.declared.kind.Kind.{Kind}
use Rattle.gix_object_tree.specs.Entry.{own_item}
use Rattle.gix_object_tree.specs.declared.tree.owned.Tree.{Tree}
use Rattle.history_files.specs.Handing.{AreKept, IsTextOf}
use Rattle.history_files.specs.declared.trees.EditedTree.{EditedTree}
use Rattle.history_files.proofs.GivenTrees.{kept_more}
use Rattle.history_files.proofs.editing.written.Goals as goal

-- what the closure keeps: the kind, the list that it lends, and in it each tree that was handed out
pub returns-in-Ok-clause-trees : goal.returns-in-Ok-clause-trees
returns-in-Ok-clause-trees g c =
    let shown = c.in-Ok.ensures.written in
    let held = c.trees-2-1.given in
    let all = chained_keeps _ (λ handed f. (f.1.now ≡ c.args.kind) × (c.trees-1.given.0 ≡ f.2.ghost_name) × AreKept c.args.kind handed f.2.now.items)
    (λ handed q t v j r.
    let met = r.2.called.met in
    let k = met.1 in
    let same : map own_item r.2.shown.now.entries.items ≡ t.items = ap (λ (x : Tree). map own_item x.entries.items) r.2.shows ∙ r.3 in
    let text = subst (λ xs. IsTextOf q.1.now xs k.0) same k.3 in (
      ap (λ b. b.now) met.0.1 ∙ j.0,
      j.1 ∙ sym met.0.2,
      subst (AreKept c.args.kind (handed ++ t ∷ [])) (sym k.1) (kept_more c.args.kind handed q.2.now.items t k.0 j.2 (ap id_of k.2 ∙ r.4) (subst (λ (x : Kind). IsTextOf x t.items k.0) j.0 text)),
    ))
    shown.0 _ _ (refl, refl, subst (AreKept c.args.kind []) (sym c.new-trees.ensures.items) tt) shown.1 in
    (shown.0, shown.2, subst (AreKept c.args.kind shown.0) (ap (λ (v : Vec EditedTree Global). v.items) (sym (held.1 all.1))) all.2)
