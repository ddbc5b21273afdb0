use Rattle.std.proofs.Common.{Err, ◌∙◌, inl, inr, refl}
use Rattle.history_actions.specs.Saying.{whole}
use Rattle.history_actions.specs.declared.failure.Failure.TheVariants.{Unopened}
use Rattle.history_actions.proofs.Opened.{done_as, says_as, whole_parts}
use Rattle.history_actions.proofs.opening.check_folder.Goals as goal

pub returns-in-Ok : goal.returns-in-Ok
returns-in-Ok g c =
    let ok = c.in-Ok.ensures.ok in
    record {
      files = inr (record {
        kept = record {
          same_objects = c.handed_back.ensures.objects ∙ ok.0;
          same_names = c.handed_back.ensures.names ∙ ok.1;
        };
        whole = λ honest_objects honest_names.
            whole_parts g.F.Files.is_honest g.F.Files.history c.args.kind c.args.objects c.args.names
            c.in-Ok.repository ok.0 ok.1 (c.in-Ok.ensures.stands honest_objects honest_names);
        done = done_as _ _ c.handed_back.ensures.answer c.say_whole.ensures.done;
      });
      says = says_as g.W.Sink.contents g.W.Sink.has_failed c.args.writer.now c.say_whole.new.writer whole _ c.say_whole.result c.handed_back.ensures.answer c.say_whole.ensures.says;
    }

pub returns-in-Err : goal.returns-in-Err
returns-in-Err g c =
    let back = c.in-Err.ensures.handed_back in
    record {
      files = inl (record {
        cause = c.in-Err.refusal.error;
        told = c.unopened.ensures.told;
        kept = record {
          same_objects = c.unopened.ensures.kept.same_objects ∙ back.0;
          same_names = c.unopened.ensures.kept.same_names ∙ back.1;
        };
        holds = c.in-Err.ensures.refused;
        fault = λ honest_objects honest_names are.
            c.in-Err.ensures.accepted are.0 honest_objects honest_names are.1;
      });
      says = says_as g.W.Sink.contents g.W.Sink.has_failed c.args.writer.now c.args.writer.now whole _ (Err (Unopened c.in-Err.refusal.error)) c.unopened.ensures.told refl;
    }
