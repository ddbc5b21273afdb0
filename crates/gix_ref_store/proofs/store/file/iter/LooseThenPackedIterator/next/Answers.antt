use Rattle.std.proofs.Common.{subst, ℕ, List, Some}
use Rattle.gix_ref_store.specs.Finds.{records_in}
use Rattle.gix_ref_store.specs.Items.{TellsName}
use Rattle.gix_ref_store.specs.Searches.{reads_in}
use Rattle.gix_ref_store.specs.declared.store.file.own.OwnFile.{OwnFile}
use Rattle.gix_ref_store.proofs.ItemLemmas.{reads_by, step}
use Rattle.gix_ref_store.proofs.store.file.iter.LooseThenPackedIterator.next.Goals as goal

pub returns-in-Some-item-clause-steps : goal.returns-in-Some-item-clause-steps
returns-in-Some-item-clause-steps g c =
    let e : List ℕ × OwnFile = (c.in-Some.name, c.in-Some.own) in
    let told = subst (λ s. g.F.Files.is_honest s.store.now.files → let read = reads_in (g.F.Files.history s.store.now.files).tree s in TellsName c.in-Some.name (read c.in-Some.name) (reads_by read (records_in s.packed) e) (Some c.in-Some-item.item)) c.loop-name.invariant.0 c.in-Some-item.ensures.told in (
      c.loop-name.invariant.0,
      λ honest. step (g.F.Files.history c.args.self.now.search.store.now.files).tree c.args.self.now c.loop-name.self e c.next.new.self c.in-Some-item.item c.loop-name.invariant.0 c.in-Some.ensures.steps
          (c.loop-name.invariant.2 honest) (told honest),
      c.in-Some-item.ensures.failed,
    )
