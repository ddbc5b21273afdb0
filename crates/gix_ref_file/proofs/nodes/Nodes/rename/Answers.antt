use Rattle.std.proofs.Common.{◌≡◌, ◌∙◌, sym, ap, true, rules}
use Rattle.std.specs.Prelude.{is_some}
use Rattle.std.specs.FinMap as map
use Rattle.gix_ref_file.specs.Tree.{folder, is_folder}
use Rattle.gix_ref_file.proofs.Moved.{stays, still_there, rename_done}
use Rattle.gix_ref_file.proofs.nodes.Nodes.rename.Goals as goal

pub unreachable-requires : goal.unreachable-requires
unreachable-requires c =
    let to_is : c.in_ok-to_vec.field-0.items ≡ c.args.to.now = search rules in
    let made = c.in_ok-before.ensures.ok ∙ ap (λ p. map.insert c.args.self.now p folder) to_is in
    let none = c.in_default.ensures.before ∙ ap (λ x. map.get x c.args.from.now) made ∙ still_there c.args.self.now c.args.from.now c.args.to.now folder c.requires.apart in
    absurd (cc (ap is_some none, c.requires.there))

pub returns-then-is_folder-clause-stays : goal.returns-then-is_folder-clause-stays
returns-then-is_folder-clause-stays c =
    let to_is : c.in_ok-to_vec.field-0.items ≡ c.args.to.now = search rules in
    let told : c.is_folder.result ≡ true = search rules in
    let before = c.in_ok-before.ensures.before ∙ ap (map.get c.args.self.now) to_is in
    let made = c.in_ok-before.ensures.ok ∙ ap (λ p. map.insert c.args.self.now p folder) to_is in
    stays _ _ _ (sym (ap is_folder before) ∙ sym c.is_folder.ensures ∙ told) made

pub returns-clause-moved : goal.returns-clause-moved
returns-clause-moved c _ =
    let to_is : c.in_ok-to_vec.field-0.items ≡ c.args.to.now = search rules in
    let made = c.in_ok-before.ensures.ok ∙ ap (λ p. map.insert c.args.self.now p folder) to_is in
    rename_done c.args.self.now c.args.from.now c.args.to.now folder c.requires.apart _ _ _ _ made c.remove.ensures.removed c.replace.ensures.replaced c.in-Some.ensures.before
