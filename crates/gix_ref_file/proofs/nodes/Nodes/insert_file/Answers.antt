use Rattle.std.proofs.Common.{◌≡◌, ◌∙◌, sym, ap, true, false, rules}
use Rattle.std.specs.FinMap as map
use Rattle.gix_ref_file.specs.Tree.{file, is_folder}
use Rattle.gix_ref_file.proofs.Moved.{put_back}
use Rattle.gix_ref_file.proofs.nodes.Nodes.insert_file.Goals.{then-is_folder+in-Some+in-File-1, then-is_folder+in-Some+in-Folder-1, then-is_folder+in-None-1, else-is_folder}
use Rattle.gix_ref_file.proofs.nodes.Nodes.insert_file.Goals as goal

pub returns-clause-put : goal.returns-clause-put
returns-clause-put c isnt =
    let path_is : c.in_ok-to_vec.field-0.items ≡ c.args.path.now = search rules in
    let told = c.is_folder.ensures ∙ ap is_folder (c.in_ok-before.ensures.before ∙ ap (map.get c.args.self.now) path_is) ∙ isnt in
    let put = c.in_ok-before.ensures.ok ∙ ap (λ p. map.insert c.args.self.now p (file c.args.bytes.items)) path_is in
    elim c.if-is_folder.branch [
      | then-is_folder+in-Some+in-File-1 w ↦ let is : c.is_folder.result ≡ true = search rules in absurd (cc (sym told ∙ is))
      | then-is_folder+in-Some+in-Folder-1 w ↦ let is : c.is_folder.result ≡ true = search rules in absurd (cc (sym told ∙ is))
      | then-is_folder+in-None-1 w ↦ let is : c.is_folder.result ≡ true = search rules in absurd (cc (sym told ∙ is))
      | else-is_folder w ↦ w.self-is ∙ put
    ]

pub returns-clause-stays : goal.returns-clause-stays
returns-clause-stays c is =
    let path_is : c.in_ok-to_vec.field-0.items ≡ c.args.path.now = search rules in
    let told = c.is_folder.ensures ∙ ap is_folder (c.in_ok-before.ensures.before ∙ ap (map.get c.args.self.now) path_is) ∙ is in
    let put = c.in_ok-before.ensures.ok ∙ ap (λ p. map.insert c.args.self.now p (file c.args.bytes.items)) path_is in
    elim c.if-is_folder.branch [
      | then-is_folder+in-Some+in-File-1 w ↦ w.self-is ∙ put_back _ _ _ _ _ put w.replace.ensures.replaced is
      | then-is_folder+in-Some+in-Folder-1 w ↦ w.self-is ∙ put_back _ _ _ _ _ put w.replace.ensures.replaced is
      | then-is_folder+in-None-1 w ↦ w.self-is ∙ put_back _ _ _ _ _ put w.replace.ensures.replaced is
      | else-is_folder w ↦ let isnt : c.is_folder.result ≡ false = search rules in absurd (cc (sym told ∙ isnt))
    ]
