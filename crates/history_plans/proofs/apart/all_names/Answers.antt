use Rattle.std.proofs.Common.{ap, map}
use Rattle.history_plans.specs.Moving.{line_name}
use Rattle.history_plans.proofs.ApartLemmas.{leaves_less, one_put}
use Rattle.history_plans.proofs.apart.all_names.Goals as goal

pub lines-preserved : goal.lines-preserved
lines-preserved c =
    leaves_less c.lines.names.keys c.insert.new.self.keys (line_name c.in-Some.line.now) (map line_name c.lines.rest.now) (map line_name c.in-Some.others.now) (map line_name c.args.lines.now)
    (ap (map line_name) c.in-Some.ensures.cases.0)
    (one_put c.lines.names.keys c.insert.new.self.keys c.as_slice.result (line_name c.in-Some.line.now) c.as_slice.ensures.value c.in_ok-insert.ensures.updates.0) c.lines.invariant
