use Rattle.std.proofs.Common.{subst, true, rules, ◌≡◌}
use Rattle.std.specs.Prelude.{option_map}
use Rattle.std.proofs.lemmas.Result.{err_from_is_err_and, IfOk-weaker, IfErr-weaker}
use Rattle.gix_hash.specs.Views.{viewed_id}
use Rattle.gix_object_lines.specs.declared.kind.Kind.TheVariants as kinds
use Rattle.gix_object_tree.specs.Entry.{own_item}
use Rattle.gix_object_tree.specs.Order.{is_tree}
use Rattle.gix_object_tree.specs.Reading.{place_of}
use Rattle.gix_object_lookup.specs.Existing.{KindFault}
use Rattle.gix_object_lookup.specs.Path.{FindsFirst, NameFault, IsBelow, BelowFault}
use Rattle.gix_object_lookup.proofs.Followed.{named_by, below_here, below_fault}
use Rattle.gix_object_lookup.proofs.lookup.below.Goals as goal

pub returns-in_err-tree-clause-refused : goal.returns-in_err-tree-clause-refused
returns-in_err-tree-clause-refused g c =
    let p = err_from_is_err_and c.from_residual.result c.from_residual.ensures.1 in
    let tree_mode : is_tree (own_item c.args.entry.now) ≡ true = search rules in
    rw (p.1, p.2) (
      tree_mode,
      subst (λ id. KindFault (g.T.Lookup.is_honest c.args.objects.now) (g.T.Lookup.may_fail c.args.objects.now) (g.T.Lookup.table c.args.objects.now) id kinds.Tree c.in_err-tree.field-0.0) c.as_oid.ensures
          c.in_err-tree.ensures.refused,
    )

pub returns-clause-found : goal.returns-clause-found
returns-clause-found g c =
    let honest = g.T.Lookup.is_honest c.args.objects.now in
    let table = g.T.Lookup.table c.args.objects.now in
    let item = own_item c.args.entry.now in
    let tree = place_of c.in_ok-tree.tree in
    let tree_mode : is_tree item ≡ true = search rules in
    let named = named_by honest table item tree (viewed_id c.as_oid.result) c.as_oid.ensures c.in_ok-tree.ensures.found in
    IfOk-weaker c.own_named.result (λ found. FindsFirst tree c.args.name.now (option_map own_item found))
    (λ found. IsBelow honest table item c.args.name.now (option_map own_item found))
    (λ found first. below_here honest table item c.args.name.now tree (option_map own_item found) tree_mode named first) c.own_named.ensures.found

pub returns-clause-refused : goal.returns-clause-refused
returns-clause-refused g c =
    let honest = g.T.Lookup.is_honest c.args.objects.now in
    let may_fail = g.T.Lookup.may_fail c.args.objects.now in
    let table = g.T.Lookup.table c.args.objects.now in
    let item = own_item c.args.entry.now in
    let tree = place_of c.in_ok-tree.tree in
    let tree_mode : is_tree item ≡ true = search rules in
    let named = named_by honest table item tree (viewed_id c.as_oid.result) c.as_oid.ensures c.in_ok-tree.ensures.found in
    IfErr-weaker c.own_named.result (NameFault tree c.args.name.now) (BelowFault honest may_fail table item c.args.name.now)
    (λ error fault. below_fault honest may_fail table item c.args.name.now tree error tree_mode named fault) c.own_named.ensures.refused
