use Rattle.std.specs.Prelude.{Option, option_map}
use Rattle.std.proofs.lemmas.Result.{MatchResult-from_both}
use Rattle.gix_ref_file.specs.Tree.{node_at, bytes_of}
use Rattle.gix_ref_format.specs.PackedBuffer.{FileFault, KeepsFile}
use Rattle.gix_ref_format.specs.PackedKept.{kept}
use Rattle.gix_ref_format.specs.declared.packed.buffer.Buffer.{Buffer}
use Rattle.gix_ref_format.proofs.packed.buffer.Buffer.open.Goals as goal

pub returns-clause-kept : goal.returns-clause-kept
returns-clause-kept g c = λ honest.
    let kind = c.args.kind in
    let file = bytes_of (node_at (g.F.Files.history c.args.files.now).tree c.args.path.now) in
    MatchResult-from_both c.open_again.result (λ (found : Option Buffer). KeepsFile kind file (option_map kept found)) (FileFault kind file) (c.open_again.ensures.kept honest tt) (c.open_again.ensures.faulty honest)
