use Rattle.std.proofs.Common.{◌∙◌, arith}
use Rattle.gix_ref_format.proofs.RunLemmas.{back_ascends, back_text, front_ascends, front_text, room_is}
use Rattle.gix_ref_format.proofs.packed.run.Run.split_at.Goals as goal

pub text_length-requires : goal.text_length-requires
text_length-requires c =
    let room = room_is c.args.self.entries.now c.split_at.result.0.now c.split_at.result.1.now c.args.count c.split_at.ensures.front c.split_at.ensures.back c.args.self.text.now c.args.self.lines in
    omega (arith, room)

pub split_at-requires-2 : goal.split_at-requires-2
split_at-requires-2 c =
    let room = room_is c.args.self.entries.now c.split_at.result.0.now c.split_at.result.1.now c.args.count c.split_at.ensures.front c.split_at.ensures.back c.args.self.text.now c.args.self.lines in
    omega (arith, room, c.text_length.ensures)

pub invariant_of-front : goal.invariant_of-front
invariant_of-front c =
    let xs = c.args.self.entries.now in
    let front = c.split_at.result.0.now in
    let back = c.split_at.result.1.now in
    record {
      ascend = front_ascends xs front back c.args.count c.split_at.ensures.front c.split_at.ensures.back c.args.self.ascend;
      lines = c.split_at-2.ensures.front
          ∙ front_text xs front back c.args.count c.split_at.ensures.front c.split_at.ensures.back c.args.self.text.now c.text_length.result c.args.self.lines c.text_length.ensures;
    }

pub invariant_of-back : goal.invariant_of-back
invariant_of-back c =
    let xs = c.args.self.entries.now in
    let front = c.split_at.result.0.now in
    let back = c.split_at.result.1.now in
    record {
      ascend = back_ascends xs front back c.args.count c.split_at.ensures.front c.split_at.ensures.back c.args.self.ascend;
      lines = c.split_at-2.ensures.back
          ∙ back_text xs front back c.args.count c.split_at.ensures.front c.split_at.ensures.back c.args.self.text.now c.text_length.result c.args.self.lines c.text_length.ensures;
    }
