use Rattle.std.proofs.Common.{◌∙◌, sym}
use Rattle.std.proofs.lemmas.Bool.Decides.{Decides-eqb}
use Rattle.std.proofs.lemmas.Slice.Eq.{slice_eq-Decides}
use Rattle.gix_ref_transaction.proofs.asked.are_equal_names.Goals as goal

pub returns : goal.returns
returns c =
    let told = slice_eq-Decides Decides-eqb c.to_path.result.now c.to_path-2.result.now c.eq.result c.eq.ensures in
    (λ is. sym c.to_path.ensures ∙ told.0 is ∙ c.to_path-2.ensures, λ same. told.1 (c.to_path.ensures ∙ same ∙ sym c.to_path-2.ensures))
