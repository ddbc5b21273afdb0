use Rattle.std.proofs.Common.{refl, sym, ◌∙◌}
use Rattle.gix_ref_folder_tests.proofs.Reported.{does_of}
use Rattle.gix_ref_folder_tests.proofs.Spots.{nowhere, moves_object, moves_name, one_part}
use Rattle.gix_ref_folder_tests.proofs.over_files.OverFilesSystem.rename.Goals as goal

pub returns-in_err-part : goal.returns-in_err-part
returns-in_err-part g c = record { change = λ root part from to honest first second there. nowhere _ _ _ _ _ _ _ c.in_err-part.ensures.outside honest first }

pub returns-in_err-target : goal.returns-in_err-target
returns-in_err-target g c = record { change = λ root part from to honest first second there. nowhere _ _ _ _ _ _ _ c.in_err-target.ensures.outside honest second }

pub returns-then-not-has : goal.returns-then-not-has
returns-then-not-has g c = record {
  change = λ root part from to honest first second there.
      one_part g.F.Files.is_honest g.F.Files.history c.args.self.now c.args.from.now c.args.to.now c.in_ok-part.part c.in_ok-part.source.now c.in_ok-target.target.now
      c.in_ok-part.ensures.spot c.in_ok-target.ensures.spot.is (sym c.has.ensures ∙ c.if-not-has.true) root part from to honest first second;
}

pub returns-in-Objects : goal.returns-in-Objects
returns-in-Objects g c = record {
  change = moves_object g.F.Files.is_honest g.F.Files.history _ _ c.args.from.now c.args.to.now c.in_ok-part.part c.in_ok-part.source.now c.in_ok-target.target.now _
      c.in_ok-part.ensures.spot c.in_ok-target.ensures.spot.is (sym c.has.ensures ∙ c.if-not-has.false) c.in-Objects.is refl refl c.rename.ensures.honest
      (λ honest. does_of _ _ _ _ _ c.reported.ensures (c.rename.ensures.change honest));
}

pub returns-in-Names : goal.returns-in-Names
returns-in-Names g c = record {
  change = moves_name g.F.Files.is_honest g.F.Files.history _ _ c.args.from.now c.args.to.now c.in_ok-part.part c.in_ok-part.source.now c.in_ok-target.target.now _
      c.in_ok-part.ensures.spot c.in_ok-target.ensures.spot.is (sym c.has.ensures ∙ c.if-not-has.false) c.in-Names.is refl refl c.rename-in-Names.ensures.honest
      (λ honest. does_of _ _ _ _ _ c.reported-in-Names.ensures (c.rename-in-Names.ensures.change honest));
}
