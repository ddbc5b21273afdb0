use Rattle.std.proofs.Common.{◌≡◌, ◌∙◌, ◌++◌, ap, subst, sym, List, ℕ, [], length, Option, Some, None, option_map, unwrap_or}
use Rattle.std.specs.Prelude.{IfSome}
use Rattle.std.specs.Borrow.{Bor}
use Rattle.gix_ref_file.specs.Tree.{node_at, bytes_of, bytes_at}
use Rattle.gix_ref_format.specs.PackedBuffer.{KeepsFile}
use Rattle.gix_ref_format.specs.PackedKept.{IsKnownOf, kept}
use Rattle.gix_ref_format.specs.declared.packed.buffer.Buffer.{Buffer}
use Rattle.gix_ref_format.proofs.packed.buffer.Buffer.open_again.Goals as goal

pub returns-in-Ok-Some-clause-kept : goal.returns-in-Ok-Some-clause-kept
returns-in-Ok-Some-clause-kept g c = λ honest known.
    let tree = (g.F.Files.history c.args.files.now).tree in
    let file = bytes_of (node_at tree c.args.path.now) in
    let read = c.in-Ok-Some.ensures.bytes honest ∙ ap (λ l. l ++ bytes_at tree c.args.path.now) c.new-bytes.ensures.items in
    let is = there file c.read.new.out.items c.in-Ok-Some.field-0-0 (sym c.in-Ok-Some.field-0-is ∙ c.in-Ok-Some.ensures.count honest) read in
    subst (λ (f : Option (List ℕ)). KeepsFile c.args.kind f (Some (kept c.in_ok-again-in-Ok-Some.field-0))) (sym is)
    (c.in_ok-again-in-Ok-Some.ensures.kept (subst (λ (f : Option (List ℕ)). IfSome c.args.known (λ (b : Bor Buffer). IsKnownOf c.args.kind f b.now)) is known))
  where
    there : (file : Option (List ℕ)) (text : List ℕ) (count : ℕ) → Some count ≡ option_map length file → text ≡ unwrap_or file [] → file ≡ Some text
    there None text count some is = cc
    there (Some found) text count some is = ap Some (sym is)
