use Rattle.std.proofs.Common.{◌≡◌, ◌∙◌, sym, ap, true, false, IsTrue}
use Rattle.gix_ref_file.specs.Tree.{is_folder, node_at, parent}
use Rattle.history_store.proofs.OwnFolders.{missing_in_missing, none_in_missing}
use Rattle.history_store.proofs.Seen.{folder_seen, nothing_seen, top_seen}
use Rattle.history_store.proofs.objects.Objects.look.Goals as goal

-- ---- the folder of all objects is missing

pub returns-then-not-branch-clause-file : goal.returns-then-not-branch-clause-file
returns-then-not-branch-clause-file g c = λ honest. (
  λ wrong. absurd (cc wrong),
  λ there.
      let tree = (g.F.Files.history c.args.self.now.files).tree in
      let rooted = g.met.F.Files.rooted c.args.self.now.files honest in
      let outer = sym (c.in_ok-has_folder.ensures.missing honest c.if-not-branch.true) ∙ ap (λ p. is_folder (node_at tree p)) (c.parent.ensures ∙ ap parent c.parent-folder.ensures) in
      let wrong : false ≡ true = none_in_missing tree c.args.place.now rooted (missing_in_missing tree (parent c.args.place.now) rooted outer) ∙ there in
      absurd (cc wrong),
)

pub returns-then-not-branch-clause-seen : goal.returns-then-not-branch-clause-seen
returns-then-not-branch-clause-seen g c = λ known.
    let tree = (g.F.Files.history c.args.self.now.files).tree in
    let rooted = g.met.F.Files.rooted c.args.self.now.files known.0 in
    let outer = sym c.if-not-branch.true ∙ c.in_ok-has_folder.ensures.found known ∙ ap (λ p. is_folder (node_at tree p)) (c.parent.ensures ∙ ap parent c.parent-folder.ensures) in
    let missing = missing_in_missing tree (parent c.args.place.now) rooted outer in
    nothing_seen tree c.args.place.now (none_in_missing tree c.args.place.now rooted missing) missing outer

-- ---- the object's own is

pub returns-then-not-branch-2-clause-file : goal.returns-then-not-branch-2-clause-file
returns-then-not-branch-2-clause-file g c = λ honest. (
  λ wrong. absurd (cc wrong),
  λ there.
      let tree = (g.F.Files.history c.args.self.now.files).tree in
      let rooted = g.met.F.Files.rooted c.args.self.now.files honest in
      let missing = sym (c.in_ok-has_folder-2.ensures.missing honest c.if-not-branch-2.true) ∙ ap (λ p. is_folder (node_at tree p)) c.parent-folder.ensures in
      let wrong : false ≡ true = none_in_missing tree c.args.place.now rooted missing ∙ there in
      absurd (cc wrong),
)

pub returns-then-not-branch-2-clause-seen : goal.returns-then-not-branch-2-clause-seen
returns-then-not-branch-2-clause-seen g c = λ known.
    let tree = (g.F.Files.history c.args.self.now.files).tree in
    let rooted = g.met.F.Files.rooted c.args.self.now.files known.0 in
    let outer = sym c.if-not-branch.false ∙ c.in_ok-has_folder.ensures.found known ∙ ap (λ p. is_folder (node_at tree p)) (c.parent.ensures ∙ ap parent c.parent-folder.ensures) in
    let missing = sym c.if-not-branch-2.true ∙ c.in_ok-has_folder-2.ensures.found known ∙ ap (λ p. is_folder (node_at tree p)) c.parent-folder.ensures in
    top_seen tree c.args.place.now (none_in_missing tree c.args.place.now rooted missing) missing outer

-- ---- both exist

pub returns-else-is_file-clause-seen : goal.returns-else-is_file-clause-seen
returns-else-is_file-clause-seen g c = λ known.
    let tree = (g.F.Files.history c.args.self.now.files).tree in
    let none = sym c.if-is_file.false ∙ c.in_ok-is_file.ensures.found known.0 in
    folder_seen tree c.args.place.now none (sym c.if-not-branch-2.false ∙ c.in_ok-has_folder-2.ensures.found known ∙ ap (λ p. is_folder (node_at tree p)) c.parent-folder.ensures)
