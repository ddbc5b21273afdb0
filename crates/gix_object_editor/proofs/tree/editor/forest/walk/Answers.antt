use Rattle.std.proofs.Common.{ℕ, inl, sym, ◌≡◌, List, ◌++◌, [], ◌∷◌, ◌+◌, ◌<◌, ◌∙◌, ap, subst, arith, length, drop, get_or, refl}
use Rattle.std.specs.Borrow.{Bor}
use Rattle.std.proofs.lemmas.List.{get_or-map}
use Rattle.std.proofs.lemmas.Result.{err_from_is_err_and}
use Rattle.gix_hash.specs.Id.{id_of}
use Rattle.gix_object_nodes.specs.Nodes.{slots_of, IsNoFolder, onto, LeadsTo}
use Rattle.gix_object_editor.specs.Asked.{front_of, found_into, unopened_into, AsksUpTo}
use Rattle.gix_object_editor.specs.Grown.{IsFolderOf}
use Rattle.gix_object_editor.proofs.Asking.{asks_none, asks_then, front_step, walk_step, walk_stops}
use Rattle.gix_object_editor.proofs.Edits.{two_names}
use Rattle.gix_object_editor.proofs.Growth.{grows_none, grows_then, none_into}
use Rattle.gix_object_editor.proofs.Standing.{walk_grown, walk_before}
use Rattle.gix_object_editor.proofs.Walked.{names, leads_kept, leads_on}
use Rattle.gix_object_editor.proofs.tree.editor.forest.walk.Goals as goal

pub open-requires : goal.open-requires
open-requires g c = record { forest = c.names.invariant.grows.opened.forest; within = c.names.invariant.within }

pub names-preserved : goal.names-preserved
names-preserved g c =
    let first = c.args.nodes.now.items in
    let old = c.names.nodes.items in
    let new = c.open.new.nodes.items in
    let at = c.names.at.0 in
    let child = c.in-Some.child.0 in
    let lt : c.names.depth < length c.args.path.now = omega arith in
    let so = c.names.invariant in
    let grows = c.open.ensures.grows in
    let found = subst (IsFolderOf old new at _) c.in-Some.is c.in_ok-child.ensures.found in
    let up : at < child = grows.opened.forest.forward at _ child found.0 in
    let within : child < length new = grows.opened.forest.within at _ child found.0 in
    record {
      within = within;
      below = omega (arith, up, so.below);
      left = omega arith;
      grows = grows_then so.grows grows;
      leads = λ way w. leads_on (slots_of old) (slots_of new) (onto way (names c.args.path.now)) c.args.path.now at c.names.depth _ child lt grows.opened.links found.0 (so.leads way w);
      last = walk_grown (length first) (length old) (length new) at child so.grows.opened.longer up within so.last found.1;
      counted = omega (arith, c.open.ensures.counted, so.counted);
      asked = λ h trees has more. walk_step (g.S.Lookup.table c.args.store.now) trees (slots_of old) (slots_of new) at c.args.path.now c.names.depth _ more _ c.args.lookups.now c.names.lookups c.open.new.lookups
          c.names-test.true (so.asked h trees has more) c.in_ok-child.field-0 c.in-Some.child c.in-Some.is (c.in_ok-child.ensures.asked h trees has);
    }

pub names-init : goal.names-init
names-init g c = record {
  within = c.requires.tree.within;
  below = omega arith;
  left = c.requires.named;
  grows = grows_none c.args.nodes.now.items c.requires.tree.forest;
  leads = λ way w. (way, w, refl);
  last = inl refl;
  counted = omega arith;
  asked = λ h trees has more. asks_none (g.S.Lookup.table c.args.store.now) (unopened_into trees (slots_of c.args.nodes.now.items) c.args.from.0 (front_of (names c.args.path.now) ++ more)) c.args.lookups.now;
}

pub returns-clause-walked : goal.returns-clause-walked
returns-clause-walked g c =
    let so = c.names.invariant in
    record {
      below = so.below;
      leads = so.leads;
      blocked = λ lt. absurd (omega (arith, lt));
      before = λ m k link. walk_before (length c.args.nodes.now.items) (length c.names.nodes.items) c.names.at.0 k (so.grows.opened.forest.forward c.names.at.0 m k link) (so.grows.opened.forest.within c.names.at.0 m k link) so.last;
    }

pub returns-in_default-clause-walked : goal.returns-in_default-clause-walked
returns-in_default-clause-walked g c =
    let old = c.names.nodes.items in
    let new = c.open.new.nodes.items in
    let at = c.names.at.0 in
    let so = c.names.invariant in
    let found = subst (IsFolderOf old new at _) c.in_default.is c.in_ok-child.ensures.found in
    let more = c.open.ensures.grows.opened in
    record {
      below = so.below;
      leads = λ way w. leads_kept (slots_of old) (slots_of new) (onto way (names c.args.path.now)) at (names (drop c.names.depth c.args.path.now)) more.links (so.leads way w);
      blocked = λ lt. subst (λ n. IsNoFolder (slots_of new at n)) (sym (get_or-map (λ (x : Bor (List ℕ)). x.now) c.args.path.now c.names.depth _ [] (omega arith))) found.0;
      before = λ m k link. walk_before (length c.args.nodes.now.items) (length old) at k (more.forest.forward at m k link) (subst (λ b. k < b) found.1 (more.forest.within at m k link)) so.last;
    }

pub returns-clause-asked : goal.returns-clause-asked
returns-clause-asked g c = λ honest trees has more. c.names.invariant.asked honest trees has more

-- the walk ends above a name without a folder, below which nothing is looked up
pub returns-in_default-clause-asked : goal.returns-in_default-clause-asked
returns-in_default-clause-asked g c = λ honest trees has more.
    let table = g.S.Lookup.table c.args.store.now in
    let old = slots_of c.names.nodes.items in
    let new = slots_of c.open.new.nodes.items in
    let at = c.names.at.0 in
    let path = c.args.path.now in
    let i = c.names.depth in
    let d : Bor (List ℕ) = record { ref_ptr = (0, 0); now = [] } in
    let name : List ℕ = (get_or path i d).now in
    let rest = front_of (names (drop (i + 1) path)) ++ more in
    let step = front_step path i d more c.names-test.true in
    let found = subst (IsFolderOf c.names.nodes.items c.open.new.nodes.items at name) c.in_default.is c.in_ok-child.ensures.found in
    let ends : found_into trees new c.in_ok-child.field-0 rest ≡ unopened_into trees new at (front_of (names (drop i path)) ++ more) =
    ap (λ o. found_into trees new o rest) c.in_default.is ∙ sym (none_into trees new at name rest found.0) ∙ ap (unopened_into trees new at) (sym step) in
    asks_then table (unopened_into trees (slots_of c.args.nodes.now.items) c.args.from.0 (front_of (names path) ++ more)) (unopened_into trees old at (front_of (names (drop i path)) ++ more)) (unopened_into trees new at (front_of (names (drop i path)) ++ more))
    c.args.lookups.now c.names.lookups c.open.new.lookups (c.names.invariant.asked honest trees has more)
    (subst (λ p. AsksUpTo table (unopened_into trees old at p) (unopened_into trees new at (front_of (names (drop i path)) ++ more)) c.names.lookups c.open.new.lookups) (sym step)
    (subst (λ l. AsksUpTo table (unopened_into trees old at (name ∷ rest)) l c.names.lookups c.open.new.lookups) ends (c.in_ok-child.ensures.asked honest trees has rest)))

pub returns-in_err-child-clause-refused : goal.returns-in_err-child-clause-refused
returns-in_err-child-clause-refused g c =
    let p = err_from_is_err_and c.from_residual.result c.from_residual.ensures.1 in
    let told = c.in_err-child.ensures.refused in
    let s = told.0 in
    let left = two_names c.args.path.now c.names.depth c.names-test.true in
    rw (p.1, p.2) (
      id_of s.oid,
      λ way w. record {
        at = c.names.at.0;
        name = _;
        next = left.0;
        rest = left.1;
        slot = s;
        leads = subst (LeadsTo (slots_of c.«open».new.nodes.items) (onto way (names c.args.path.now)) c.names.at.0) (left.2 ∙ ap (λ n. n ∷ left.0 ∷ left.1) (get_or-map (λ (x : Bor (List ℕ)). x.now) c.args.path.now c.names.depth _ [] (omega arith)))
            (leads_kept (slots_of c.names.nodes.items) (slots_of c.«open».new.nodes.items) (onto way (names c.args.path.now)) c.names.at.0 (names (drop c.names.depth c.args.path.now)) c.«open».ensures.grows.opened.links (c.names.invariant.leads way w));
        stands = told.1;
        unopened = told.2;
        id_is = refl;
      },
      told.3,
    )

pub returns-in_err-child-clause-asked : goal.returns-in_err-child-clause-asked
returns-in_err-child-clause-asked g c =
    let p = err_from_is_err_and c.from_residual.result c.from_residual.ensures.1 in
    let told = c.in_err-child.ensures.refused in
    rw (p.1, p.2) (λ honest trees has more.
    walk_stops (g.S.Lookup.table c.args.store.now) trees (slots_of c.names.nodes.items) (slots_of c.open.new.nodes.items) c.names.at.0 c.args.path.now c.names.depth _ more _ c.args.lookups.now c.names.lookups c.open.new.lookups
    c.names-test.true (c.names.invariant.asked honest trees has more) (g.S.Lookup.is_honest c.args.store.now) (g.S.Lookup.may_fail c.args.store.now) (id_of told.0.oid) c.in_err-child.field-0.0 told.3 (c.in_err-child.ensures.asked honest trees has))

pub returns-clause-grows : goal.returns-clause-grows
returns-clause-grows g c = c.names.invariant.grows

pub returns-in_err-child-clause-grows : goal.returns-in_err-child-clause-grows
returns-in_err-child-clause-grows g c = grows_then c.names.invariant.grows c.open.ensures.grows

pub returns-in_default-clause-grows : goal.returns-in_default-clause-grows
returns-in_default-clause-grows g c = grows_then c.names.invariant.grows c.open.ensures.grows

pub returns-in_default-clause-within : goal.returns-in_default-clause-within
returns-in_default-clause-within g c = (omega (arith, c.names.invariant.within, c.open.ensures.grows.opened.longer), omega arith)
