use Rattle.std.proofs.Common.{◌≡◌, ◌∙◌, rules, subst, sym}
use Rattle.history_check_names.specs.Parts.{StandsNames}
use Rattle.history_check_objects.specs.Stored.{facts_in}
use Rattle.history_store.specs.ObjectsFace.{ids_of_objects}
use Rattle.history_store.specs.Packing.{KeepsRecords}
use Rattle.history_repository.specs.Opened.{trees_of}
use Rattle.history_repository.proofs.Joined.{cause_of, facts_as, names_cause, of_kind, opened_as, opened_as_one, part_of, stands_names}
use Rattle.history_repository.proofs.folder.open_names.Goals as goal

pub returns-in-Ok-clause-opens : goal.returns-in-Ok-clause-opens
returns-in-Ok-clause-opens g c =
    let history = g.F.Files.history in
    let kind = c.args.objects.kind in
    let ids = ids_of_objects c.args.objects in
    let facts = facts_in c.args.stored.now in
    let pair = trees_of history c.args.objects.files c.args.names in
    let named : c.new-names.result.kind ≡ kind = c.new-names.ensures.kind ∙ c.kind.ensures in
    record {
      stands = λ objects names.
          let honest = subst g.F.Files.is_honest (sym c.new-names.ensures.files) names in
          let part = part_of history facts c.in-Ok.branch.items c.new-names.result.store.files c.args.names c.new-names.result.kind kind c.new-names.ensures.files named (c.in-Ok.ensures.stands honest) in
          let keeps = subst (λ files. KeepsRecords c.survey_names.new.names (history files).tree) c.new-names.ensures.files (c.in-Ok.ensures.keeps honest) in
          opened_as_one kind pair ids facts (c.requires.whole objects) (record { objects = c.args.objects; names = c.survey_names.new.names; branch = c.in-Ok.branch }) (λ i. ids) part keeps (c.requires.exist objects);
      same = λ r objects names stands.
          let honest = subst g.F.Files.is_honest (sym c.new-names.ensures.files) names in
          let part = part_of history facts c.in-Ok.branch.items c.new-names.result.store.files c.args.names c.new-names.result.kind kind c.new-names.ensures.files named (c.in-Ok.ensures.stands honest) in
          let keeps = subst (λ files. KeepsRecords c.survey_names.new.names (history files).tree) c.new-names.ensures.files (c.in-Ok.ensures.keeps honest) in
          opened_as kind pair ids facts (c.requires.whole objects) (record { objects = c.args.objects; names = c.survey_names.new.names; branch = c.in-Ok.branch }) (λ i. ids) part keeps (c.requires.exist objects) r stands;
    }

pub returns-in-Ok-clause-refuses : goal.returns-in-Ok-clause-refuses
returns-in-Ok-clause-refuses g c = record { refused = λ objects names. tt; accepted = λ r objects names stands. tt; handed_back = tt }

pub returns-in-Err-clause-opens : goal.returns-in-Err-clause-opens
returns-in-Err-clause-opens g c = record { stands = λ objects names. tt; same = λ r objects names stands. tt }

pub returns-in-Err-clause-refuses : goal.returns-in-Err-clause-refuses
returns-in-Err-clause-refuses g c =
    let history = g.F.Files.history in
    let kind = c.args.objects.kind in
    let ids = ids_of_objects c.args.objects in
    let facts = facts_in c.args.stored.now in
    let pair = trees_of history c.args.objects.files c.args.names in
    let fail = g.F.Files.reading_may_fail in
    let named : c.new-names.result.kind ≡ kind = c.new-names.ensures.kind ∙ c.kind.ensures in
    record {
      refused = λ objects names.
          let honest = subst g.F.Files.is_honest (sym c.new-names.ensures.files) names in
          let held = cause_of history fail facts c.in-Err.error c.new-names.result.store.files c.args.names c.new-names.result.kind kind c.new-names.ensures.files named (c.in-Err.ensures.wrong honest) in
          names_cause kind pair ids facts (c.requires.whole objects) fail c.in-Err.error held;
      accepted = λ r objects names stands.
          let honest = subst g.F.Files.is_honest (sym c.new-names.ensures.files) names in
          let own = of_kind kind pair r stands ∙ sym named in
          let are = facts_as kind pair ids facts (c.requires.whole objects) r stands in
          let part = subst (λ files. StandsNames (history files).tree r) (sym c.new-names.ensures.files) (stands_names kind pair r stands) in
          c.in-Err.ensures.accepted r own are honest part;
      handed_back = search rules;
    }
