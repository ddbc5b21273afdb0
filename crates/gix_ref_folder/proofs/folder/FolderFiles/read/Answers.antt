use Rattle.std.proofs.Common.{◌≡◌, ◌∙◌, ap, sym, length, rules}
use Rattle.std.specs.Prelude.{option_map, Some}
use Rattle.std.proofs.lemmas.List.{append-nil}
use Rattle.gix_ref_folder.proofs.Reported.{appended}
use Rattle.gix_ref_folder.proofs.folder.FolderFiles.read.Goals as goal

pub returns-in_default-clause-count : goal.returns-in_default-clause-count
returns-in_default-clause-count g c honest =
    let said = rw c.in_default.is at (rw c.in_ok-bytes.ensures.ok at (c.bytes-read.ensures honest)) in
    ap (option_map length) said

pub returns-in_default-clause-bytes : goal.returns-in_default-clause-bytes
returns-in_default-clause-bytes g c honest =
    let said = rw c.in_default.is at (rw c.in_ok-bytes.ensures.ok at (c.bytes-read.ensures honest)) in
    sym (append-nil c.args.out.now.items) ∙ appended _ _ c.args.out.now.items said

pub returns-clause-count : goal.returns-clause-count
returns-clause-count g c honest =
    let said = rw c.in-Some.is at (rw c.in_ok-bytes.ensures.ok at (c.bytes-read.ensures honest)) in
    let len : c.len.result ≡ length c.in-Some.bytes.items = search rules in
    ap Some len ∙ ap (option_map length) said

pub returns-clause-bytes : goal.returns-clause-bytes
returns-clause-bytes g c honest =
    let said = rw c.in-Some.is at (rw c.in_ok-bytes.ensures.ok at (c.bytes-read.ensures honest)) in
    search rules ∙ appended _ _ c.args.out.now.items said
