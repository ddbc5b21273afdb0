use Rattle.std.proofs.Common.{◌≡◌, ◌∙◌, ◌<◌, sym, arith, length}
use Rattle.std.proofs.lemmas.Result.{on_ok_weaker}
use Rattle.gix_ref_file.specs.Tree.{bytes_at}
use Rattle.history_recovery.proofs.Cuts.{may_shorten, shortened_alike, shortened_cut, shortened_cuts}
use Rattle.history_recovery.proofs.Lengths.{file_length, file_stands}
use Rattle.history_recovery.proofs.Recoveries.{caused}
use Rattle.history_recovery.proofs.cutting.cut_log.Goals as goal

pub returns-clause-cuts : goal.returns-clause-cuts
returns-clause-cuts g c = λ log honest.
    let tree = (g.F.Files.history c.args.files.now).tree in
    let path = c.args.log.now in
    let stands = file_stands tree path c.in-File.len (sym (c.in_ok-len.ensures.place honest) ∙ c.in-File.is) in
    on_ok_weaker c.shorten.result (shortened_cuts path c.in_ok-end.end tree log stands (c.in_ok-end.ensures.found honest) (g.F.Files.history c.shorten.new.self).tree)
    (c.shorten.ensures.change honest).made

pub returns-clause-cut : goal.returns-clause-cut
returns-clause-cut g c = λ log honest.
    let tree = (g.F.Files.history c.args.files.now).tree in
    let path = c.args.log.now in
    let stands = file_stands tree path c.in-File.len (sym (c.in_ok-len.ensures.place honest) ∙ c.in-File.is) in
    on_ok_weaker c.shorten.result (shortened_cut path c.in_ok-end.end tree log stands (c.in_ok-end.ensures.found honest) (g.F.Files.history c.shorten.new.self).tree)
    (c.shorten.ensures.change honest).made

pub returns-clause-alike : goal.returns-clause-alike
returns-clause-alike g c = λ kind log honest.
    let old = g.F.Files.history c.args.files.now in
    let path = c.args.log.now in
    let stands = file_stands old.tree path c.in-File.len (sym (c.in_ok-len.ensures.place honest) ∙ c.in-File.is) in
    shortened_alike kind path c.in_ok-end.end old (g.F.Files.history c.shorten.new.self) log stands (c.in_ok-end.ensures.found honest) (c.shorten.ensures.change honest).moments

pub returns-clause-failed : goal.returns-clause-failed
returns-clause-failed g c = λ honest failed.
    let tree = (g.F.Files.history c.args.files.now).tree in
    let path = c.args.log.now in
    let place = sym (c.in_ok-len.ensures.place honest) ∙ c.in-File.is in
    let shorter : c.in_ok-end.end < length (bytes_at tree path) = omega (arith, c.if-end-len.false, file_length tree path c.in-File.len place) in
    caused _ _ _ _ (may_shorten tree path c.in_ok-end.end (file_stands tree path c.in-File.len place) shorter) (c.shorten.ensures.cause honest) failed
