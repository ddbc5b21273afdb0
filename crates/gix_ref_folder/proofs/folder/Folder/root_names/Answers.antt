use Rattle.std.proofs.Common.{◌≡◌, rules}
use Rattle.std.proofs.lemmas.Fn.{filter_same}
use Rattle.std.specs.List.{filter}
use Rattle.gix_ref_folder.specs.Parts.{has}
use Rattle.gix_ref_folder.proofs.Sorting.{Key, shown_names}
use Rattle.gix_ref_folder.proofs.folder.Folder.root_names.Goals as goal

pub returns : goal.returns
returns g c honest =
    let kept : c.retain.new.self.items ≡ filter (λ (name : Key). has c.args.self.now.part name.items) c.in_ok-names.names.items = filter_same _ _ _ (λ x b f' k. search rules) _ _ c.retain.ensures.filtered in
    shown_names (has c.args.self.now.part) c.in_ok-names.names.items c.retain.new.self.items _ kept (c.in_ok-names.ensures _ _ honest.0 c.as_str.ensures.value)
