use Rattle.std.proofs.Common.{refl}
use Rattle.gix_ref_file.proofs.Histories.{adds_weaker}
use Rattle.history_recovery.proofs.Cuts.{alike_now, then_alike}
use Rattle.history_recovery.proofs.Ends.{names_end, on_ok_both}
use Rattle.history_recovery.proofs.Recoveries.{clears_now, later_risen}
use Rattle.history_recovery.proofs.recovering.recover_names.Goals as goal

pub returns-in_err-clear_below-clause-alike : goal.returns-in_err-clear_below-clause-alike
returns-in_err-clear_below-clause-alike g c = λ honest.
    adds_weaker (g.F.Files.history c.args.names.now) (g.F.Files.history c.clear_below.new.files) (c.clear_below.ensures.clears c.args.kind (c.in_ok-packed.ensures.tells honest) honest) (λ x clears. clears.alike)

pub returns-clause-alike : goal.returns-clause-alike
returns-clause-alike g c = λ honest.
    let kind = c.args.kind in
    let old = g.F.Files.history c.args.names.now in
    let mid = g.F.Files.history c.clear_below.new.files in
    then_alike kind old mid (g.F.Files.history c.cut_below.new.files)
    (adds_weaker old mid (c.clear_below.ensures.clears kind (c.in_ok-packed.ensures.tells honest) honest) (λ x clears. clears.alike))
    (c.cut_below.ensures.alike kind refl (c.clear_below.ensures.keeps.honest honest))

pub returns-clause-recovered : goal.returns-clause-recovered
returns-clause-recovered g c = λ honest.
    let kind = c.args.kind in
    let old = g.F.Files.history c.args.names.now in
    let mid = g.F.Files.history c.clear_below.new.files in
    let new = g.F.Files.history c.cut_below.new.files in
    let honest_1 = c.clear_below.ensures.keeps.honest honest in
    let tells = c.in_ok-packed.ensures.tells honest in
    let below = c.in_ok-clear_below.ensures.kept kind honest tells in
    on_ok_both c.cut_below.result
    (λ cuts cut. names_end kind old.tree mid.tree new.tree (clears_now kind old mid (c.clear_below.ensures.clears kind tells honest)) below (alike_now kind mid new (c.cut_below.ensures.alike kind refl honest_1)) cuts cut)
    (c.cut_below.ensures.cuts refl honest_1) (c.cut_below.ensures.cut refl honest_1)

pub returns-clause-failed : goal.returns-clause-failed
returns-clause-failed g c = λ honest failed.
    later_risen _ _ _ c.clear_below.ensures.keeps.later (c.cut_below.ensures.failed (c.clear_below.ensures.keeps.honest honest) failed)
