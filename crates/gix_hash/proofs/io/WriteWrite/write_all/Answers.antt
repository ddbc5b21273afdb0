use Rattle.std.proofs.Common.{List, ℕ, ◌++◌, ◌∙◌, length, length-drop, take, ap, sym, subst, arith}
use Rattle.std.proofs.lemmas.List.{take_rest}
use Rattle.std.specs.Io.KnownBytes.{Appends}
use Rattle.std.proofs.KnownBytes.{Appends-trans}
use lib.Seq.{take-add}
use Rattle.gix_hash.specs.Fed.{FedMore, fed_then}
use Rattle.gix_hash.proofs.io.WriteWrite.write_all.Goals as goal

pub writes-preserved : goal.writes-preserved
writes-preserved g c =
    let buf = c.args.buf.now in
    let count = c.writes.count in
    let written = c.in_ok-written.written in
    let inv = c.writes.invariant in
    let more = c.in_ok-written.ensures.bound in
    let rest = take_rest buf count in
    let same = ap (λ (xs : List ℕ). length xs) rest in
    let len = length-drop count buf in
    let joined = ap (λ (xs : List ℕ). take count buf ++ take written xs) rest ∙ sym (take-add count written buf) in (
      omega arith,
      subst (Appends _ _) joined (Appends-trans _ _ _ _ _ inv.1 c.in_ok-written.ensures.bytes),
      subst (λ (xs : List ℕ). FedMore c.args.self.now.hash c.write_some.new.writer.hash xs) joined
          (fed_then c.args.self.now.hash c.writes.self.hash c.write_some.new.writer.hash _ _ inv.2 c.in_ok-written.ensures.hashed),
    )
