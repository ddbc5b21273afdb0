use Rattle.std.proofs.Common.{subst, ap, refl, ◌<◌, ◌≤◌, ◌+◌, Bor, List, ℕ, [], length, None, get_or, drop, arith}
use Rattle.std.specs.Prelude.{option_map}
use Rattle.std.proofs.lemmas.List.{drop_all}
use Rattle.std.proofs.lemmas.Result.{err_from_is_err_and}
use Rattle.gix_object_tree.specs.Entry.{own_item}
use Rattle.gix_object_lookup.specs.Path.{IsBelow}
use Rattle.gix_object_lookup.proofs.Followed.{texts, named_next, along_more, along_none, along_all}
use Rattle.gix_object_lookup.proofs.lookup.follow.Goals as goal

pub loop-name-init : goal.loop-name-init
loop-name-init g c = record { front = []; split = refl; leads = refl }

pub returns-in-None-clause-found : goal.returns-in-None-clause-found
returns-in-None-clause-found g c =
    let honest = g.T.Lookup.is_honest c.args.objects.now in
    let table = g.T.Lookup.table c.args.objects.now in
    let path = c.args.path.now in
    let at = c.loop-name.name-index in
    let within : at < length path = omega arith in
    let none : Bor (List ℕ) = record { ref_ptr = (0, 0); now = [] } in
    let item = own_item c.loop-name.entry in
    let below = subst (λ o. IsBelow honest table item (get_or path at none).now (option_map own_item o)) c.in-None.is c.in_ok-next.ensures.found in
    along_none honest table (own_item c.args.entry) path at item none within c.loop-name.invariant below

pub loop-name-preserved : goal.loop-name-preserved
loop-name-preserved g c =
    let honest = g.T.Lookup.is_honest c.args.objects.now in
    let table = g.T.Lookup.table c.args.objects.now in
    let path = c.args.path.now in
    let at = c.loop-name.name-index in
    let within : at < length path = omega arith in
    let none : Bor (List ℕ) = record { ref_ptr = (0, 0); now = [] } in
    let item = own_item c.loop-name.entry in
    let below = subst (λ o. IsBelow honest table item (get_or path at none).now (option_map own_item o)) c.in-Some.is c.in_ok-next.ensures.found in
    along_more honest table (own_item c.args.entry) path at item none within c.loop-name.invariant (own_item c.in-Some.next) below

pub returns-in_err-next-clause-refused : goal.returns-in_err-next-clause-refused
returns-in_err-next-clause-refused g c =
    let honest = g.T.Lookup.is_honest c.args.objects.now in
    let table = g.T.Lookup.table c.args.objects.now in
    let path = c.args.path.now in
    let at = c.loop-name.name-index in
    let within : at < length path = omega arith in
    let none : Bor (List ℕ) = record { ref_ptr = (0, 0); now = [] } in
    let item = own_item c.loop-name.entry in
    let along = c.loop-name.invariant in
    let p = err_from_is_err_and c.from_residual.result c.from_residual.ensures.1 in
    rw (p.1, p.2) (record {
      front = along.front;
      name = (get_or path at none).now;
      rest = texts (drop (at + 1) path);
      whole = named_next honest table (own_item c.args.entry) path at item none within along;
      last = item;
      leads = along.leads;
      fault = c.in_err-next.ensures.refused;
    })

pub returns-clause-found : goal.returns-clause-found
returns-clause-found g c =
    let honest = g.T.Lookup.is_honest c.args.objects.now in
    let table = g.T.Lookup.table c.args.objects.now in
    let path = c.args.path.now in
    let past : length path ≤ c.loop-name.name-index = omega arith in
    along_all honest table (own_item c.args.entry) path c.loop-name.name-index (own_item c.loop-name.entry)
    (ap texts (drop_all c.loop-name.name-index path past)) c.loop-name.invariant
