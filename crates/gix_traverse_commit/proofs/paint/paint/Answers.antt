use Rattle.std.proofs.lemmas.Result.{err_from_is_err_and}
use Rattle.std.proofs.lemmas.Option.{slice_get_within}
use Rattle.std.proofs.Common.{refl, sym, suc, List, ◌∙◌, ◌≡◌, ◌<◌, ◌≤◌, ◌+◌, ℕ, length, arith, subst, take}
use Rattle.gix_hash.specs.declared.object_id.ObjectId.{ObjectId}
use Rattle.gix_traverse_commit_known.specs.Nodes.{is_hidden}
use Rattle.gix_traverse_graph.specs.Order.{At}
use Rattle.gix_traverse_commit_known.specs.Painting.{every, PaintsSome}
use Rattle.gix_traverse_commit_known.specs.Keeping.{Kept}
use Rattle.gix_traverse_graph.specs.Rows.{AllHeld}
use Rattle.gix_traverse_commit_known.specs.Meeting.{CountsAll}
use Rattle.gix_traverse_commit_known.specs.Told.{rows_of}
use Rattle.gix_traverse_commit_known.proofs.Chosen.{take_all}
use Rattle.gix_traverse_commit.proofs.Counting.{painted_list, paints_none, paints_some, unread_counts}
use Rattle.gix_traverse_commit_known.proofs.Keeping.{kept_next}
use Rattle.gix_traverse_commit_known.proofs.Meeting.{counts_next}
use Rattle.gix_traverse_graph.proofs.Lists.{contains_from_at}
use Rattle.gix_traverse_commit_known.proofs.Painting.{painted_all, painted_reached, known_longer, read_fit, paint_fault, shorter}
use Rattle.gix_traverse_graph.proofs.RowLemmas.{at_item}
use Rattle.gix_traverse_commit.proofs.Awaited.{paints_more}
use Rattle.gix_traverse_graph.specs.declared.parents.Parents.TheVariants.{All}
use Rattle.gix_traverse_commit.proofs.paint.paint.Goals as goal

pub returns-in_err-commit-clause-refused : goal.returns-in_err-commit-clause-refused
returns-in_err-commit-clause-refused g c = λ unpainted.
    let p = err_from_is_err_and c.from_residual-in_err-commit.result c.from_residual-in_err-commit.ensures.1 in
    let items : List ObjectId = c.painted.painted.items in
    let l : c.painted.read < length items = omega arith in
    let here : At items c.painted.read c.index.result.now = at_item items c.painted.read c.index.result.now l c.index.ensures in
    let f = rw (c.painted.invariant.rows, c.painted.invariant.objects) at c.in_err-commit.ensures.refused in
    rw (p.1, p.2) (paint_fault (g.F.Lookup.is_honest c.args.source.now.objects) (g.F.Lookup.may_fail c.args.source.now.objects) (rows_of c.args.source.now.rows) (g.F.Lookup.table c.args.source.now.objects) c.args.hidden.now c.index.result.now c.in_err-commit.field-0.0 f
    (λ honest commits told. painted_reached commits c.args.hidden.now c.painted.known.nodes items c.painted.read c.painted.read c.index.result.now (c.painted.invariant.walked unpainted honest commits told) here))

pub painted-preserved-in_ok-paint_parents : goal.painted-preserved-in_ok-paint_parents
painted-preserved-in_ok-paint_parents g c =
    let items : List ObjectId = c.painted.painted.items in
    let id : ObjectId = c.index.result.now in
    let l : c.painted.read < length items = omega arith in
    let here : At items c.painted.read id = at_item items c.painted.read id l c.index.ensures in
    let listed = rw (c.painted.invariant.rows, c.painted.invariant.objects) at c.in_ok-commit.ensures.listed in
    let parents = rw (c.painted.invariant.rows, c.painted.invariant.objects) at c.in_ok-commit.ensures.parents in
    let closed = rw c.painted.invariant.rows at c.in_ok-commit.ensures.closed in
    let one = rw c.painted.invariant.rows at c.fetch.ensures.one in
    let rows = rows_of c.args.source.now.rows in
    let ids = g.F.Lookup.ids c.args.source.now.objects in
    record {
      objects = c.fetch.ensures.reads.objects ∙ c.painted.invariant.objects;
      rows = c.fetch.ensures.reads.rows ∙ c.painted.invariant.rows;
      only = paints_more c.args.known.now c.painted.known c.paint_parents.new.known c.painted.invariant.only c.in_ok-paint_parents.ensures.only;
      within = (let k = slice_get_within c.paint_parents.new.painted.items c.painted.read id (c.in_ok-paint_parents.ensures.longer c.painted.read id here) in omega arith);
      painted = c.in_ok-paint_parents.ensures.painted c.painted.invariant.painted;
      known = known_longer rows ids items c.paint_parents.new.painted.items c.painted.read id l c.in_ok-paint_parents.ensures.longer c.painted.invariant.known here listed;
      rowed = (λ h. let r = c.painted.invariant.rowed h in let held = r.0 id (contains_from_at items c.painted.read id here) in (c.in_ok-paint_parents.ensures.rowed rows r.0 (subst (λ (xs : List ObjectId). AllHeld rows xs) (sym c.as_slice.ensures) (closed held)), one.rowed held ∙ r.1));
      counted = counts_next rows items c.paint_parents.new.painted.items c.painted.read id c.args.source.now.lookups c.painted.source.lookups c.fetch.new.self.lookups here c.in_ok-paint_parents.ensures.longer c.painted.invariant.counted
          one;
      walked = (λ unpainted honest commits told.
          let w = c.painted.invariant.walked unpainted honest commits told in
          let e : c.painted.read + 1 ≡ suc c.painted.read = omega arith in
          c.in_ok-paint_parents.ensures.walked (λ y. (commits y).parents) c.args.hidden.now id (c.painted.read + 1) (c.as_slice.ensures ∙ parents honest commits told)
          (subst (λ (n : ℕ). Kept (λ y. (commits y).parents) c.args.hidden.now every (is_hidden c.painted.known.nodes) items n 0) (sym e) (kept_next (λ y. (commits y).parents) c.args.hidden.now every (is_hidden c.painted.known.nodes) items c.painted.read w (omega arith)))
          (c.painted.read, e, here));
    }

pub painted-smaller-in_ok-paint_parents : goal.painted-smaller-in_ok-paint_parents
painted-smaller-in_ok-paint_parents g c =
    let items : List ObjectId = c.painted.painted.items in
    let id : ObjectId = c.index.result.now in
    let l : c.painted.read < length items = omega arith in
    let here : At items c.painted.read id = at_item items c.painted.read id l c.index.ensures in
    let listed = rw (c.painted.invariant.rows, c.painted.invariant.objects) at c.in_ok-commit.ensures.listed in
    let rows = rows_of c.args.source.now.rows in
    let ids = g.F.Lookup.ids c.args.source.now.objects in
    let within : c.painted.read + 1 ≤ length c.paint_parents.new.painted.items = let k = slice_get_within c.paint_parents.new.painted.items c.painted.read id (c.in_ok-paint_parents.ensures.longer c.painted.read id here) in omega arith in
    let fit = read_fit rows ids c.paint_parents.new.painted.items (c.painted.read + 1) (c.in_ok-paint_parents.ensures.painted c.painted.invariant.painted).once (known_longer rows ids items c.paint_parents.new.painted.items c.painted.read id l c.in_ok-paint_parents.ensures.longer c.painted.invariant.known here listed) within in
    shorter (length rows + length ids) c.painted.read (c.painted.read + 1) fit refl

pub painted-smaller : goal.painted-smaller
painted-smaller g c =
    let items : List ObjectId = c.painted.painted.items in
    let id : ObjectId = c.index.result.now in
    let l : c.painted.read < length items = omega arith in
    let here : At items c.painted.read id = at_item items c.painted.read id l c.index.ensures in
    let listed = rw (c.painted.invariant.rows, c.painted.invariant.objects) at c.in_ok-commit.ensures.listed in
    let rows = rows_of c.args.source.now.rows in
    let ids = g.F.Lookup.ids c.args.source.now.objects in
    let within : c.painted.read + 1 ≤ length c.paint_parents.new.painted.items = let k = slice_get_within c.paint_parents.new.painted.items c.painted.read id (c.in_ok-paint_parents.ensures.longer c.painted.read id here) in omega arith in
    let fit = read_fit rows ids c.paint_parents.new.painted.items (c.painted.read + 1) (c.in_ok-paint_parents.ensures.painted c.painted.invariant.painted).once (known_longer rows ids items c.paint_parents.new.painted.items c.painted.read id l c.in_ok-paint_parents.ensures.longer c.painted.invariant.known here listed) within in
    shorter (length rows + length ids) c.painted.read (c.painted.read + 1) fit refl

pub painted-preserved : goal.painted-preserved
painted-preserved g c =
    let items : List ObjectId = c.painted.painted.items in
    let id : ObjectId = c.index.result.now in
    let l : c.painted.read < length items = omega arith in
    let here : At items c.painted.read id = at_item items c.painted.read id l c.index.ensures in
    let listed = rw (c.painted.invariant.rows, c.painted.invariant.objects) at c.in_ok-commit.ensures.listed in
    let parents = rw (c.painted.invariant.rows, c.painted.invariant.objects) at c.in_ok-commit.ensures.parents in
    let closed = rw c.painted.invariant.rows at c.in_ok-commit.ensures.closed in
    let one = rw c.painted.invariant.rows at c.fetch.ensures.one in
    let rows = rows_of c.args.source.now.rows in
    let ids = g.F.Lookup.ids c.args.source.now.objects in
    record {
      objects = c.fetch.ensures.reads.objects ∙ c.painted.invariant.objects;
      rows = c.fetch.ensures.reads.rows ∙ c.painted.invariant.rows;
      only = paints_more c.args.known.now c.painted.known c.paint_parents.new.known c.painted.invariant.only c.in_ok-paint_parents.ensures.only;
      within = (let k = slice_get_within c.paint_parents.new.painted.items c.painted.read id (c.in_ok-paint_parents.ensures.longer c.painted.read id here) in omega arith);
      painted = c.in_ok-paint_parents.ensures.painted c.painted.invariant.painted;
      known = known_longer rows ids items c.paint_parents.new.painted.items c.painted.read id l c.in_ok-paint_parents.ensures.longer c.painted.invariant.known here listed;
      rowed = (λ h. let r = c.painted.invariant.rowed h in let held = r.0 id (contains_from_at items c.painted.read id here) in (c.in_ok-paint_parents.ensures.rowed rows r.0 (subst (λ (xs : List ObjectId). AllHeld rows xs) (sym c.as_slice.ensures) (closed held)), one.rowed held ∙ r.1));
      counted = counts_next rows items c.paint_parents.new.painted.items c.painted.read id c.args.source.now.lookups c.painted.source.lookups c.fetch.new.self.lookups here c.in_ok-paint_parents.ensures.longer c.painted.invariant.counted
          one;
      walked = (λ unpainted honest commits told.
          let w = c.painted.invariant.walked unpainted honest commits told in
          let e : c.painted.read + 1 ≡ suc c.painted.read = omega arith in
          c.in_ok-paint_parents.ensures.walked (λ y. (commits y).parents) c.args.hidden.now id (c.painted.read + 1) (c.as_slice.ensures ∙ parents honest commits told)
          (subst (λ (n : ℕ). Kept (λ y. (commits y).parents) c.args.hidden.now every (is_hidden c.painted.known.nodes) items n 0) (sym e) (kept_next (λ y. (commits y).parents) c.args.hidden.now every (is_hidden c.painted.known.nodes) items c.painted.read w (omega arith)))
          (c.painted.read, e, here));
    }

pub returns-clause-counted : goal.returns-clause-counted
returns-clause-counted g c =
    let items : List ObjectId = c.painted.painted.items in
    let e : take c.painted.read items ≡ items = take_all items c.painted.read (omega arith) in (
      items,
      subst (λ (xs : List ObjectId). CountsAll (rows_of c.args.source.now.rows) xs c.args.source.now.lookups c.painted.source.lookups) e c.painted.invariant.counted,
      (λ unpainted honest commits told. painted_list commits c.args.hidden.now c.painted.known.nodes items c.painted.read (c.painted.invariant.walked unpainted honest commits told) (omega arith)),
    )

pub returns-clause-painted : goal.returns-clause-painted
returns-clause-painted g c = λ unpainted honest commits told.
    painted_all commits c.args.hidden.now c.painted.known.nodes c.painted.painted.items c.painted.read (c.painted.invariant.walked unpainted honest commits told) (omega arith)

pub returns-in_err-commit-clause-counted_fault : goal.returns-in_err-commit-clause-counted_fault
returns-in_err-commit-clause-counted_fault g c = λ unpainted.
    let p = err_from_is_err_and c.from_residual-in_err-commit.result c.from_residual-in_err-commit.ensures.1 in
    let items : List ObjectId = c.painted.painted.items in
    let honest = g.F.Lookup.is_honest c.args.source.now.objects in
    let table = g.F.Lookup.table c.args.source.now.objects in
    let rows = rows_of c.args.source.now.rows in
    let f = rw (c.painted.invariant.rows, c.painted.invariant.objects) at c.in_err-commit.ensures.refused in
    let asked = rw c.painted.invariant.rows at c.fetch.ensures.one.stored in
    let some : PaintsSome honest rows table c.args.hidden.now c.args.source.now.lookups c.painted.source.lookups = paints_some honest rows table c.args.hidden.now c.painted.known.nodes items c.painted.read c.args.source.now.lookups c.painted.source.lookups c.painted.invariant.counted c.painted.invariant.painted (c.painted.invariant.walked unpainted) in
    let one = unread_counts All honest (g.F.Lookup.may_fail c.args.source.now.objects) rows table c.index.result.now c.in_err-commit.field-0.0 c.painted.source.lookups c.fetch.new.self.lookups f asked c.fetch.ensures.reads.least in
    rw (p.1, p.2) (c.painted.source.lookups, some, one)

pub returns-in_err-paint_tips-clause-counted_fault : goal.returns-in_err-paint_tips-clause-counted_fault
returns-in_err-paint_tips-clause-counted_fault g c = λ unpainted.
    let p = err_from_is_err_and c.from_residual.result c.from_residual.ensures.1 in
    let before = c.args.source.now.lookups in
    let least : before ≤ before = omega arith in
    rw (p.1, p.2) (before, paints_none (g.F.Lookup.is_honest c.args.source.now.objects) (rows_of c.args.source.now.rows) (g.F.Lookup.table c.args.source.now.objects) c.args.hidden.now before, least)

pub returns-in_err-paint_parents-clause-counted_fault : goal.returns-in_err-paint_parents-clause-counted_fault
returns-in_err-paint_parents-clause-counted_fault g c = λ unpainted.
    let p = err_from_is_err_and c.from_residual-in_err-paint_parents.result c.from_residual-in_err-paint_parents.ensures.1 in
    let honest = g.F.Lookup.is_honest c.args.source.now.objects in
    let table = g.F.Lookup.table c.args.source.now.objects in
    let rows = rows_of c.args.source.now.rows in
    let some = paints_some honest rows table c.args.hidden.now c.painted.known.nodes c.painted.painted.items c.painted.read c.args.source.now.lookups c.painted.source.lookups c.painted.invariant.counted c.painted.invariant.painted (c.painted.invariant.walked unpainted) in
    rw (p.1, p.2) (c.painted.source.lookups, some, c.fetch.ensures.reads.least)
