use Rattle.gix_ref_folder.proofs.Sorting.{sorted_names}
use Rattle.gix_ref_folder.proofs.folder.Folder.sorted_names.Goals as goal

pub returns : goal.returns
returns g c honest =
    sorted_names c.in_ok-names.names.items c.sort.new.self.items _ (c.in_ok-names.ensures honest)
    (c.names_ascend.ensures _ _ (g.met.S.System.shown _ _ _ honest.0).rooted) c.in_ok-sort.ensures.permutation c.in_ok-sort.ensures.sorted
