use Rattle.std.proofs.Common.{◌≡◌, ◌∙◌, sym, ap, subst, ℕ, ◌&&◌, map, length, Vec, arith, rules}
use Rattle.std.specs.Prelude.{nat_lt, nat_le}
use Rattle.std.specs.declared.alloc.Global.{Global}
use Rattle.gix_ref_file.proofs.Listings.{map_length}
use Rattle.history_model.specs.Places.{is_log_place}
use Rattle.history_recovery.specs.Clearing.{AreCutBelow, IsCut, IsLogFolder}
use Rattle.gix_ref_way.proofs.Surveys.{is_listed, is_deep, one_more}
use Rattle.history_recovery.proofs.Cuts.{AreCutFrom, then_alike, cuts_joined, cut_later, cut_from_later, all_cut, log_in, log_folder, logs_not_root}
use Rattle.history_recovery.proofs.Recoveries.{later_risen}
use Rattle.history_recovery.proofs.cutting.+cut_below.Goals as goal
use Rattle.history_recovery.proofs.cutting.+cut_below.Goals.{then-is_deeper+in_ok-cut_log+in_ok-cut_below, else-is_deeper}

pub returns-in_err-cut_log-clause-alike : goal.returns-in_err-cut_log-clause-alike
returns-in_err-cut_log-clause-alike g t c = λ kind logs honest.
    let place = c.args.folder.now in
    let so_far = c.loop-name.invariant in
    let log = log_in place c.deref.result.now c.deref-then-is_deeper.result.now logs (logs_not_root place logs) (c.deref-then-is_deeper.ensures.value ∙ c.in_ok-path.ensures) in
    then_alike kind (g.F.Files.history c.args.files.now) (g.F.Files.history c.loop-name.files) (g.F.Files.history c.cut_log.new.files)
    (so_far.alike kind logs honest) (c.cut_log.ensures.alike kind log (so_far.honest honest))

pub returns-in_err-cut_log-clause-failed : goal.returns-in_err-cut_log-clause-failed
returns-in_err-cut_log-clause-failed g t c = λ honest failed.
    let so_far = c.loop-name.invariant in
    let inner = c.in_err-cut_log.ensures.failed (so_far.honest honest) in
    let residual = c.from_residual-in_err-cut_log.ensures in
    later_risen _ _ _ so_far.later (inner (search rules))

pub returns-in_err-cut_below-clause-alike : goal.returns-in_err-cut_below-clause-alike
returns-in_err-cut_below-clause-alike g t c = λ kind logs honest.
    let place = c.args.folder.now in
    let old = g.F.Files.history c.args.files.now in
    let mid = g.F.Files.history c.loop-name.files in
    let inner = g.F.Files.history c.cut_log.new.files in
    let so_far = c.loop-name.invariant in
    let honest_1 = so_far.honest honest in
    let log = log_in place c.deref.result.now c.deref-then-is_deeper.result.now logs (logs_not_root place logs) (c.deref-then-is_deeper.ensures.value ∙ c.in_ok-path.ensures) in
    let deep = log_folder c.deref-then-is_deeper-2.result.now (ap is_log_place (c.deref-then-is_deeper-2.ensures.value ∙ sym c.deref-then-is_deeper.ensures.value) ∙ log) in
    then_alike kind old inner (g.F.Files.history c.cut_below.new.files) (then_alike kind old mid inner (so_far.alike kind logs honest) (c.cut_log.ensures.alike kind log honest_1))
    (c.cut_below.ensures.alike kind deep (c.cut_log.ensures.keeps.honest honest_1))

pub returns-in_err-cut_below-clause-failed : goal.returns-in_err-cut_below-clause-failed
returns-in_err-cut_below-clause-failed g t c = λ honest failed.
    let so_far = c.loop-name.invariant in
    let deeper = c.in_err-cut_below.ensures.failed (c.cut_log.ensures.keeps.honest (so_far.honest honest)) in
    let residual = c.from_residual-in_err-cut_below.ensures in
    later_risen _ _ _ (omega (arith, so_far.later, c.cut_log.ensures.keeps.later)) (deeper (search rules))

pub loop-name-preserved : goal.loop-name-preserved
loop-name-preserved g t c =
    let so_far = c.loop-name.invariant in
    let place = c.args.folder.now in
    let old = g.F.Files.history c.args.files.now in
    let mid = g.F.Files.history c.loop-name.files in
    let names = λ (honest : g.F.Files.is_honest c.args.files.now). ap (map (λ (name : Vec ℕ Global). name.items)) c.deref-name-items.ensures.value ∙ c.in_ok-list.ensures.names honest in
    let l = λ (honest : g.F.Files.is_honest c.args.files.now). is_listed old.tree place c.deref-name-items.result.now c.loop-name.name-index c.name-item.result c.in_ok-path.path.items c.deref.result.now
    (g.met.F.Files.rooted c.args.files.now honest) (names honest) c.loop-name-test.true c.name-item.is c.deref.ensures.value c.in_ok-path.ensures in
    elim c.if-is_deeper.branch [
      | then-is_deeper+in_ok-cut_log+in_ok-cut_below w ↦
          let inner = g.F.Files.history w.cut_log.new.files in
          let new = g.F.Files.history w.cut_below.new.files in
          let path = c.in_ok-path.path.items in
          let log = λ (logs : IsLogFolder place). log_in place c.deref.result.now w.deref-then-is_deeper.result.now logs (logs_not_root place logs) (w.deref-then-is_deeper.ensures.value ∙ c.in_ok-path.ensures) in
          let deep = λ (logs : IsLogFolder place). log_folder w.deref-then-is_deeper-2.result.now (ap is_log_place (w.deref-then-is_deeper-2.ensures.value ∙ sym w.deref-then-is_deeper.ensures.value) ∙ log logs) in
          let honest_2 = λ (honest : g.F.Files.is_honest c.args.files.now). w.cut_log.ensures.keeps.honest (so_far.honest honest) in
          let cuts_1 = λ (logs : IsLogFolder place) (honest : g.F.Files.is_honest c.args.files.now). w.in_ok-cut_log.ensures.cuts (log logs) (so_far.honest honest) in
          let cuts_2 = λ (logs : IsLogFolder place) (honest : g.F.Files.is_honest c.args.files.now). w.in_ok-cut_below.ensures.cuts (deep logs) (honest_2 honest) in
          rw w.files-is (record {
            honest = λ honest. w.cut_below.ensures.keeps.honest (honest_2 honest);
            alike = λ kind logs honest.
                then_alike kind old inner new (then_alike kind old mid inner (so_far.alike kind logs honest) (w.cut_log.ensures.alike kind (log logs) (so_far.honest honest))) (w.cut_below.ensures.alike kind (deep logs) (honest_2 honest));
            cuts = λ logs honest. cuts_joined old.tree inner.tree new.tree (cuts_joined old.tree mid.tree inner.tree (so_far.cuts logs honest) (cuts_1 logs honest)) (cuts_2 logs honest);
            cut = λ logs honest.
                let here : IsCut inner.tree path = subst (λ p. IsCut inner.tree p) w.deref-then-is_deeper.ensures.value (w.in_ok-cut_log.ensures.cut (log logs) (so_far.honest honest)) in
                let below : AreCutBelow path new.tree = subst (λ p. AreCutBelow p new.tree) w.deref-then-is_deeper-2.ensures.value (w.in_ok-cut_below.ensures.cut (deep logs) (honest_2 honest)) in
                one_more (AreCutFrom new.tree) place path (map (λ (name : Vec ℕ Global). name.items) c.deref-name-items.result.now) c.loop-name.name-index
                (λ i less. cut_from_later inner.tree new.tree _ (cuts_2 logs honest) (cut_from_later mid.tree inner.tree _ (cuts_1 logs honest) (so_far.cut logs honest i less)))
                (l honest).at
                (cut_later inner.tree new.tree path (cuts_2 logs honest) here, below);
            later = omega (arith, so_far.later, w.cut_log.ensures.keeps.later, w.cut_below.ensures.keeps.later);
            unfailed = w.in_ok-cut_below.ensures.keeps.unfailed ∙ w.in_ok-cut_log.ensures.keeps.unfailed ∙ so_far.unfailed;
          })
      | else-is_deeper w ↦ rw w.files-is (record {
        honest = so_far.honest;
        alike = so_far.alike;
        cuts = so_far.cuts;
        cut = λ logs honest. absurd (let e : c.is_deeper.result ≡ (nat_lt (length place) (length c.in_ok-path.path.items) && nat_le (length c.in_ok-path.path.items) 4096) = search rules in
            cc (sym w.if-is_deeper.false ∙ e ∙ is_deep place c.in_ok-path.path.items (l honest).deeper (l honest).is_path));
        later = so_far.later;
        unfailed = so_far.unfailed;
      })
    ]

pub returns-clause-cut : goal.returns-clause-cut
returns-clause-cut g t c = λ logs honest.
    let old = g.F.Files.history c.args.files.now in
    let now = g.F.Files.history c.loop-name.files in
    let names = ap (map (λ (name : Vec ℕ Global). name.items)) c.deref-name-items.ensures.value ∙ c.in_ok-list.ensures.names honest in
    all_cut old.tree now.tree c.args.folder.now (map (λ (name : Vec ℕ Global). name.items) c.deref-name-items.result.now) (g.met.F.Files.rooted c.args.files.now honest)
    (c.loop-name.invariant.cuts logs honest) names
    (λ i below. c.loop-name.invariant.cut logs honest i (omega (arith, below, c.loop-name-test.false, map_length c.deref-name-items.result.now)))
