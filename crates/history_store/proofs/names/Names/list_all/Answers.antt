use Rattle.std.proofs.Common.{◌∙◌, ap, map, subst, None, Some}
use Rattle.gix_ref_store.specs.Finds.{met_of}
use Rattle.gix_ref_store.specs.Items.{left_in, GivesNext}
use Rattle.gix_ref_store.specs.Searches.{reads_in}
use Rattle.history_store.specs.AllNames.{entries_of, name_entry}
use Rattle.history_store.proofs.NamesListed.{all_there, lists_all, one_more, one_passed}
use Rattle.history_store.proofs.names.Names.list_all.Goals as goal

pub returns-clause-found : goal.returns-clause-found
returns-clause-found g c = λ honest keeps.
    let self = c.args.self.now in
    let tree = (g.F.Files.history self.store.files).tree in
    let at = c.loop-item.items in
    let out = left_in tree c.in_ok-items.items in
    let same = ap (λ s. s.store.now) c.loop-item.invariant.2 ∙ c.in_ok-items.ensures.store in
    let gives = subst (λ s. g.F.Files.is_honest s.files → GivesNext (reads_in (g.F.Files.history s.files).tree at.search) (left_in (g.F.Files.history s.files).tree at) None (left_in (g.F.Files.history s.files).tree c.next.new.self)) same c.in_default.ensures.steps.1 honest in
    lists_all self.kind tree c.args.folder.now out (c.in_ok-items.ensures.listed honest keeps) c.loop-item.names.items
    (all_there (map name_entry c.loop-item.names.items) (entries_of out) (left_in tree at) gives.0 (c.loop-item.invariant.3 honest))

pub loop-item-preserved-in-Continue-branch-2 : goal.loop-item-preserved-in-Continue-branch-2
loop-item-preserved-in-Continue-branch-2 g c =
    let self = c.args.self.now in
    let tree = (g.F.Files.history self.store.files).tree in
    let at = c.loop-item.items in
    let same = ap (λ s. s.store.now) c.loop-item.invariant.2 ∙ c.in_ok-items.ensures.store in (
      tt,
      tt,
      c.in-Some.ensures.steps.0 ∙ c.loop-item.invariant.2,
      λ honest.
          let gives = subst (λ s. g.F.Files.is_honest s.files → GivesNext (reads_in (g.F.Files.history s.files).tree at.search) (left_in (g.F.Files.history s.files).tree at) (Some c.in-Some.item) (left_in (g.F.Files.history s.files).tree c.next.new.self)) same c.in-Some.ensures.steps.1 honest in
          one_more (map name_entry c.loop-item.names.items) (map name_entry c.push_named.new.names.items) (entries_of (left_in tree c.in_ok-items.items)) (met_of c.in-Ok.found) (left_in tree at) (left_in tree c.next.new.self)
          c.in_ok-push_named-in-Ok.ensures (rw c.in-Ok.is at gives) (c.loop-item.invariant.3 honest),
    )

pub loop-item-preserved : goal.loop-item-preserved
loop-item-preserved g c =
    let self = c.args.self.now in
    let tree = (g.F.Files.history self.store.files).tree in
    let at = c.loop-item.items in
    let same = ap (λ s. s.store.now) c.loop-item.invariant.2 ∙ c.in_ok-items.ensures.store in (
      tt,
      tt,
      c.in-Some.ensures.steps.0 ∙ c.loop-item.invariant.2,
      λ honest.
          let gives = subst (λ s. g.F.Files.is_honest s.files → GivesNext (reads_in (g.F.Files.history s.files).tree at.search) (left_in (g.F.Files.history s.files).tree at) (Some c.in-Some.item) (left_in (g.F.Files.history s.files).tree c.next.new.self)) same c.in-Some.ensures.steps.1 honest in
          one_passed (reads_in tree at.search) (map name_entry c.loop-item.names.items) (entries_of (left_in tree c.in_ok-items.items)) c.in-Err.error (left_in tree at) (left_in tree c.next.new.self)
          c.in_ok-pass_over-in-Err.ensures (rw c.in-Err.is at gives) (c.loop-item.invariant.3 honest),
    )
