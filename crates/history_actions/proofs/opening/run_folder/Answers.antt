use Rattle.std.proofs.Common.{◌∙◌, inl, inr, refl}
use Rattle.history_actions.proofs.Opened.{answer_as, whole_parts}
use Rattle.history_actions.proofs.opening.run_folder.Goals as goal

pub returns-in-Err : goal.returns-in-Err
returns-in-Err g c =
    let back = c.in-Err.ensures.handed_back in
    inl (record {
      unopened = record {
        cause = c.in-Err.refusal.error;
        told = c.unopened.ensures.told;
        kept = record {
          same_objects = c.unopened.ensures.kept.same_objects ∙ back.0;
          same_names = c.unopened.ensures.kept.same_names ∙ back.1;
        };
        holds = c.in-Err.ensures.refused;
        fault = λ honest_objects honest_names whole.
            c.in-Err.ensures.accepted whole.0 honest_objects honest_names whole.1;
      };
      unread = refl;
      unwritten = refl;
    })

pub returns : goal.returns
returns g c =
    let ok = c.in-Ok.ensures.ok in
    inr (record {
      opened = c.in-Ok.repository;
      ended = c.run-end.new.repository;
      end = c.run-end.result;
      told = answer_as c.run-end.result _ _ c.handed_back.ensures.answer c.answer_of.ensures;
      opened_objects = ok.0;
      opened_names = ok.1;
      left_objects = c.handed_back.ensures.objects;
      left_names = c.handed_back.ensures.names;
      whole = λ honest_objects honest_names.
          whole_parts g.F.Files.is_honest g.F.Files.history c.args.kind c.args.objects c.args.names
          c.in-Ok.repository ok.0 ok.1 (c.in-Ok.ensures.stands honest_objects honest_names);
      is_it = λ r honest_objects honest_names stands. c.in-Ok.ensures.same r honest_objects honest_names stands;
      honest_objects = c.run-end.ensures.keeps.objects.honest;
      honest_names = c.run-end.ensures.keeps.names.honest;
      later = λ r stands. c.run-end.ensures.later r ok.2 stands;
      runs = λ r stands. c.run-end.ensures.runs r ok.2 stands;
      input = c.run-end.ensures.input;
      read = c.run-end.ensures.read;
      write = c.run-end.ensures.write;
      fault = c.run-end.ensures.fault;
    })
