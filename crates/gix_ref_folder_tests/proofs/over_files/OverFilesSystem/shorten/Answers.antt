use Rattle.std.proofs.Common.{refl}
use Rattle.gix_ref_file.specs.Changes.{to_shorten}
use Rattle.gix_ref_folder_tests.proofs.Reported.{does_of}
use Rattle.gix_ref_folder_tests.proofs.Spots.{nowhere, in_objects, in_names}
use Rattle.gix_ref_folder_tests.proofs.over_files.OverFilesSystem.shorten.Goals as goal

pub returns-in_err-part : goal.returns-in_err-part
returns-in_err-part g c = record { change = λ root part path honest there. nowhere _ _ _ _ _ _ _ c.in_err-part.ensures.outside honest there }

pub returns-in-Objects : goal.returns-in-Objects
returns-in-Objects g c = record {
  change = in_objects g.F.Files.is_honest g.F.Files.history _ _ c.args.place.now c.in_ok-part.part c.in_ok-part.path.now (λ path. to_shorten path c.args.length) _
      c.in_ok-part.ensures.spot c.in-Objects.is (λ path. refl) refl refl c.shorten.ensures.honest
      (λ honest. does_of _ _ _ _ _ c.reported.ensures (c.shorten.ensures.change honest));
}

pub returns-in-Names : goal.returns-in-Names
returns-in-Names g c = record {
  change = in_names g.F.Files.is_honest g.F.Files.history _ _ c.args.place.now c.in_ok-part.part c.in_ok-part.path.now (λ path. to_shorten path c.args.length) _
      c.in_ok-part.ensures.spot c.in-Names.is (λ path. refl) refl refl c.shorten-in-Names.ensures.honest
      (λ honest. does_of _ _ _ _ _ c.reported-in-Names.ensures (c.shorten-in-Names.ensures.change honest));
}
