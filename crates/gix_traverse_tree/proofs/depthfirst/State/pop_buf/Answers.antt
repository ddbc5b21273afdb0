use Rattle.std.proofs.Common.{◌∙◌, sym, inl, inr}
use Rattle.std.proofs.lemmas.List.{nil_from_length}
use Rattle.gix_traverse_tree.proofs.depthfirst.State.pop_buf.Goals as goal

pub returns-in-Some-clause-taken : goal.returns-in-Some-clause-taken
returns-in-Some-clause-taken c = inl (c.in-Some.buffer, c.in-Some.ensures.items)

pub returns-in-None-clause-taken : goal.returns-in-None-clause-taken
returns-in-None-clause-taken c = inr (
  nil_from_length c.args.self.now.buffers.items (sym c.args.self.now.buffers.ok.0 ∙ c.in-None.ensures.cases.0),
  nil_from_length c.pop.new.self.items (sym c.pop.new.self.ok.0 ∙ c.in-None.ensures.cases.1),
)
