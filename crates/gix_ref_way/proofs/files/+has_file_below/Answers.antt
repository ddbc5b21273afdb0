use Rattle.std.proofs.Common.{◌≡◌, ◌≢◌, ◌∙◌, sym, ap, subst, true, false, ◌&&◌, ℕ, [], map, length, Vec, arith, rules}
use Rattle.std.specs.Prelude.{nat_lt, nat_le}
use Rattle.std.specs.declared.alloc.Global.{Global}
use Rattle.gix_ref_file.specs.Changes.{is_file_at}
use Rattle.gix_ref_file.proofs.Listings.{map_length}
use Rattle.gix_ref_way.specs.Ways.{Bytes, IsAbove, TellsBelow}
use Rattle.gix_ref_way.proofs.Clearings.{below_in}
use Rattle.gix_ref_way.proofs.FoldersMade.{above_above}
use Rattle.gix_ref_way.proofs.FilesBelow.{IsFreeFrom, none_below, no_file_at, longer_too}
use Rattle.gix_ref_way.proofs.Surveys.{is_listed, one_more, is_deep}
use Rattle.gix_ref_way.proofs.files.+has_file_below.Goals as goal
use Rattle.gix_ref_way.proofs.files.+has_file_below.Goals.{then-is_deeper+in_ok-has_file_below+else-branch-2, else-is_deeper}

pub loop-name-init : goal.loop-name-init
loop-name-init g t c = λ some honest i below. absurd (omega (arith, below))

pub returns-then-branch-clause-found : goal.returns-then-branch-clause-found
returns-then-branch-clause-found g t c = λ some honest.
    let tree = (g.F.Files.history c.args.files.now).tree in
    let inner = c.in_ok-inner.inner.items in
    let there = sym (c.in_ok-is_file.ensures.found honest) ∙ c.if-branch.true in
    (inner, below_in c.args.path.now c.deref.result.now inner some c.in_ok-inner.ensures, ap (is_file_at tree) (sym c.deref-in-loop-name.ensures.value) ∙ there)

pub returns-then-branch-2-clause-found : goal.returns-then-branch-2-clause-found
returns-then-branch-2-clause-found g t c = λ some honest.
    let tree = (g.F.Files.history c.args.files.now).tree in
    let inner = c.in_ok-inner.inner.items in
    let above : IsAbove c.args.path.now inner = below_in c.args.path.now c.deref.result.now inner some c.in_ok-inner.ensures in
    let same : c.deref-then-is_deeper.result.now ≡ inner = c.deref-then-is_deeper.ensures.value in
    let found = c.in_ok-has_file_below.ensures.found (λ none. longer_too c.args.path.now inner above (sym same ∙ none)) honest in
    let there : TellsBelow inner tree true = subst (λ b. TellsBelow inner tree b) c.if-branch-2.true (subst (λ (p : Bytes). TellsBelow p tree c.in_ok-has_file_below.field-0) same found) in
    (there.0, above_above c.args.path.now inner there.0 above there.1, there.2)

pub loop-name-preserved : goal.loop-name-preserved
loop-name-preserved g t c = λ some honest.
    let tree = (g.F.Files.history c.args.files.now).tree in
    let rooted = g.met.F.Files.rooted c.args.files.now honest in
    let inner = c.in_ok-inner.inner.items in
    let above : IsAbove c.args.path.now inner = below_in c.args.path.now c.deref.result.now inner some c.in_ok-inner.ensures in
    let names = ap (map (λ (name : Vec ℕ Global). name.items)) c.deref-name-items.ensures.value ∙ c.in_ok-list.ensures.names honest in
    let l = is_listed tree c.args.path.now c.deref-name-items.result.now c.loop-name.name-index c.name-item.result inner c.deref.result.now rooted names c.loop-name-test.true c.name-item.is c.deref.ensures.value c.in_ok-inner.ensures in
    let not_here = no_file_at tree inner (sym c.if-branch.false ∙ c.in_ok-is_file.ensures.found honest ∙ ap (is_file_at tree) c.deref-in-loop-name.ensures.value) in
    let here : IsFreeFrom tree inner = elim c.if-is_deeper.branch [
      | then-is_deeper+in_ok-has_file_below+else-branch-2 w ↦
          let same : w.deref-then-is_deeper.result.now ≡ inner = w.deref-then-is_deeper.ensures.value in
          let found = w.in_ok-has_file_below.ensures.found (λ none. longer_too c.args.path.now inner above (sym same ∙ none)) honest in
          (not_here, subst (λ b. TellsBelow inner tree b) w.if-branch-2.false (subst (λ (p : Bytes). TellsBelow p tree w.in_ok-has_file_below.field-0) same found))
      | else-is_deeper w ↦
          absurd (let e : c.is_deeper.result ≡ (nat_lt (length c.args.path.now) (length inner) && nat_le (length inner) 4096) = search rules in cc (sym w.if-is_deeper.false ∙ e ∙ is_deep c.args.path.now inner l.deeper l.is_path))
    ] in
    one_more (IsFreeFrom tree) c.args.path.now inner _ c.loop-name.name-index (c.loop-name.invariant some honest) l.at here

pub returns-clause-found : goal.returns-clause-found
returns-clause-found g t c = λ some honest.
    let names = ap (map (λ (name : Vec ℕ Global). name.items)) c.deref-name-items.ensures.value ∙ c.in_ok-list.ensures.names honest in
    none_below (g.F.Files.history c.args.files.now).tree (g.met.F.Files.rooted c.args.files.now honest) c.args.path.now some _ names
    (λ i below. c.loop-name.invariant some honest i (omega (arith, below, c.loop-name-test.false, map_length c.deref-name-items.result.now)))
