use Rattle.std.proofs.Common.{sym, ap, ◌∙◌, ◌++◌}
use Rattle.gix_ref_file.specs.Tree.{bytes_at}
use Rattle.std.proofs.lemmas.Bool.Decides.{Decides-eqb}
use Rattle.std.proofs.lemmas.Slice.Eq.{slice_eq-Decides}
use Rattle.history_store.proofs.Stored.{same_text}
use Rattle.history_store.proofs.objects.Objects.holds.Goals as goal

pub returns-in-Some-clause-same : goal.returns-in-Some-clause-same
returns-in-Some-clause-same g c = λ honest.
    same_text _ c.read.new.out.items c.args.header.now c.in-Some.rest.now c.args.content.now c.eq.result (sym (c.in_ok-read.ensures.bytes honest ∙ ap (λ before. before ++ bytes_at (g.F.Files.history c.args.self.now.files).tree c.args.place.now) c.new-text.ensures.items)) (sym c.deref.ensures.value ∙ c.in-Some.ensures) (slice_eq-Decides Decides-eqb _ _ _ c.eq.ensures)
