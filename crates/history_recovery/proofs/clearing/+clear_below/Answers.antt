use Rattle.std.proofs.Common.{◌≡◌, ◌∙◌, sym, ap, subst, ℕ, ◌&&◌, map, length, Vec, arith, rules}
use Rattle.std.specs.Prelude.{nat_lt, nat_le}
use Rattle.std.specs.declared.alloc.Global.{Global}
use Rattle.gix_hash.specs.declared.kind.Kind.{Kind}
use Rattle.gix_ref_file.proofs.Listings.{map_length}
use Rattle.history_recovery.specs.Clearing.{Tells, IsKept, AreKeptBelow}
use Rattle.gix_ref_way.proofs.Surveys.{is_listed, is_deep, one_more}
use Rattle.history_recovery.proofs.Recoveries.{AreKeptFrom, clears_now, then_clears, told_later, kept_from_later, kept_later, all_kept}
use Rattle.history_recovery.proofs.clearing.+clear_below.Goals as goal
use Rattle.history_recovery.proofs.clearing.+clear_below.Goals.{then-is_deeper+in_ok-clear_below+in_ok-clear_at, else-is_deeper}

pub returns-in_err-clear_below-clause-clears : goal.returns-in_err-clear_below-clause-clears
returns-in_err-clear_below-clause-clears g t c = λ kind tells honest.
    let old = g.F.Files.history c.args.files.now in
    let mid = g.F.Files.history c.loop-name.files in
    let first = c.loop-name.invariant.clears kind tells honest in
    let told = told_later kind old.tree mid.tree c.args.packed.now (clears_now kind old mid first).alike tells in
    then_clears kind old mid (g.F.Files.history c.clear_below.new.files) first (c.clear_below.ensures.clears kind told (c.loop-name.invariant.honest honest))

pub returns-in_err-clear_at-clause-clears : goal.returns-in_err-clear_at-clause-clears
returns-in_err-clear_at-clause-clears g t c = λ kind tells honest.
    let old = g.F.Files.history c.args.files.now in
    let mid = g.F.Files.history c.loop-name.files in
    let inner = g.F.Files.history c.clear_below.new.files in
    let honest_1 = c.loop-name.invariant.honest honest in
    let first = c.loop-name.invariant.clears kind tells honest in
    let told = told_later kind old.tree mid.tree c.args.packed.now (clears_now kind old mid first).alike tells in
    let second = then_clears kind old mid inner first (c.clear_below.ensures.clears kind told honest_1) in
    let told_2 = told_later kind old.tree inner.tree c.args.packed.now (clears_now kind old inner second).alike tells in
    then_clears kind old inner (g.F.Files.history c.clear_at.new.files) second (c.clear_at.ensures.clears kind told_2 (c.clear_below.ensures.keeps.honest honest_1))

pub loop-name-preserved : goal.loop-name-preserved
loop-name-preserved g t c =
    let so_far = c.loop-name.invariant in
    let place = c.args.folder.now in
    let old = g.F.Files.history c.args.files.now in
    let mid = g.F.Files.history c.loop-name.files in
    let names = λ (honest : g.F.Files.is_honest c.args.files.now). ap (map (λ (name : Vec ℕ Global). name.items)) c.deref-name-items.ensures.value ∙ c.in_ok-list.ensures.names honest in
    let l = λ (honest : g.F.Files.is_honest c.args.files.now). is_listed old.tree place c.deref-name-items.result.now c.loop-name.name-index c.name-item.result c.in_ok-path.path.items c.deref.result.now
    (g.met.F.Files.rooted c.args.files.now honest) (names honest) c.loop-name-test.true c.name-item.is c.deref.ensures.value c.in_ok-path.ensures in
    elim c.if-is_deeper.branch [
      | then-is_deeper+in_ok-clear_below+in_ok-clear_at w ↦
          let inner = g.F.Files.history w.clear_below.new.files in
          let new = g.F.Files.history w.clear_at.new.files in
          let told = λ (kind : Kind) (tells : Tells kind old.tree c.args.packed.now) (honest : g.F.Files.is_honest c.args.files.now).
          told_later kind old.tree mid.tree c.args.packed.now (clears_now kind old mid (so_far.clears kind tells honest)).alike tells in
          let second = λ (kind : Kind) (tells : Tells kind old.tree c.args.packed.now) (honest : g.F.Files.is_honest c.args.files.now).
          then_clears kind old mid inner (so_far.clears kind tells honest) (w.clear_below.ensures.clears kind (told kind tells honest) (so_far.honest honest)) in
          let told_2 = λ (kind : Kind) (tells : Tells kind old.tree c.args.packed.now) (honest : g.F.Files.is_honest c.args.files.now).
          told_later kind old.tree inner.tree c.args.packed.now (clears_now kind old inner (second kind tells honest)).alike tells in
          rw w.files-is (record {
            honest = λ honest. w.clear_at.ensures.keeps.honest (w.clear_below.ensures.keeps.honest (so_far.honest honest));
            clears = λ kind tells honest. then_clears kind old inner new (second kind tells honest) (w.clear_at.ensures.clears kind (told_2 kind tells honest) (w.clear_below.ensures.keeps.honest (so_far.honest honest)));
            kept = λ kind honest tells.
                let honest_1 = so_far.honest honest in
                let honest_2 = w.clear_below.ensures.keeps.honest honest_1 in
                let below_1 = clears_now kind mid inner (w.clear_below.ensures.clears kind (told kind tells honest) honest_1) in
                let below_2 = clears_now kind inner new (w.clear_at.ensures.clears kind (told_2 kind tells honest) honest_2) in
                let path = c.in_ok-path.path.items in
                let deep : AreKeptBelow kind path inner.tree = subst (λ p. AreKeptBelow kind p inner.tree) w.deref-then-is_deeper.ensures.value (w.in_ok-clear_below.ensures.kept kind honest_1 (told kind tells honest)) in
                let here : IsKept kind new.tree path = subst (λ p. IsKept kind new.tree p) w.deref-then-is_deeper-2.ensures.value
                (w.in_ok-clear_at.ensures.kept kind honest_2 (told_2 kind tells honest) (subst (λ p. AreKeptBelow kind p inner.tree) (sym w.deref-then-is_deeper-2.ensures.value) deep)) in
                one_more (AreKeptFrom kind new.tree) place path (map (λ (name : Vec ℕ Global). name.items) c.deref-name-items.result.now) c.loop-name.name-index
                (λ i below. kept_from_later kind inner.tree new.tree _ below_2 (kept_from_later kind mid.tree inner.tree _ below_1 (so_far.kept kind honest tells i below)))
                (l honest).at
                (here, λ n q under. kept_later kind inner.tree new.tree q below_2 (deep n q under));
            later = omega (arith, so_far.later, w.clear_below.ensures.keeps.later, w.clear_at.ensures.keeps.later);
            unfailed = w.in_ok-clear_at.ensures.keeps.unfailed ∙ w.in_ok-clear_below.ensures.keeps.unfailed ∙ so_far.unfailed;
          })
      | else-is_deeper w ↦ rw w.files-is (record {
        honest = so_far.honest;
        clears = so_far.clears;
        kept = λ kind honest tells. absurd (let e : c.is_deeper.result ≡ (nat_lt (length place) (length c.in_ok-path.path.items) && nat_le (length c.in_ok-path.path.items) 4096) = search rules in
            cc (sym w.if-is_deeper.false ∙ e ∙ is_deep place c.in_ok-path.path.items (l honest).deeper (l honest).is_path));
        later = so_far.later;
        unfailed = so_far.unfailed;
      })
    ]

pub returns-clause-kept : goal.returns-clause-kept
returns-clause-kept g t c = λ kind honest tells.
    let old = g.F.Files.history c.args.files.now in
    let now = g.F.Files.history c.loop-name.files in
    let names = ap (map (λ (name : Vec ℕ Global). name.items)) c.deref-name-items.ensures.value ∙ c.in_ok-list.ensures.names honest in
    all_kept kind old.tree now.tree c.args.folder.now (map (λ (name : Vec ℕ Global). name.items) c.deref-name-items.result.now) (g.met.F.Files.rooted c.args.files.now honest)
    (clears_now kind old now (c.loop-name.invariant.clears kind tells honest)) names
    (λ i below. c.loop-name.invariant.kept kind honest tells i (omega (arith, below, c.loop-name-test.false, map_length c.deref-name-items.result.now)))
