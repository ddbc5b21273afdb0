use Rattle.std.proofs.Common.{◌≡◌, ◌∙◌, ◌⊎◌, ◌||◌, ap, inl, inr, refl, sym, subst, Bool, List, ℕ, [], true, false, true≢false}
use Rattle.std.specs.Prelude.{Ok, Err, is_none, is_some}
use Rattle.std.proofs.lemmas.Result.{err_from_is_err_and}
use Rattle.gix_ref_file.specs.declared.files.FileError.TheVariants.{Failed}
use Rattle.gix_ref_file.specs.Tree.{node_at}
use Rattle.gix_ref_file.specs.Changes.{MayLeave, to_create, allows}
use Rattle.gix_ref_file.specs.History.{Adds, HasCause, HasRisen, History, Makes}
use Rattle.gix_ref_file.proofs.Histories.{adds_weaker}
use Rattle.gix_ref_file.proofs.Rooted.{adds_now}
use Rattle.gix_ref_lock.specs.Locks.{KeepsHeld, OthersStay, lock_of}
use Rattle.gix_ref_lock.proofs.LockLemmas.{blamed, created_others, created_held, must_rise, taken_by}
use Rattle.gix_ref_way.proofs.FoldersStay.{while_created}
use Rattle.gix_ref_lock.proofs.lock.acquire.Goals as goal

-- on the way all but the lock stays, and the lock if there was one
others : (path lock : List ℕ) (old new : History) → path ≡ lock → Adds (MayLeave (to_create path []) old.tree) old new → Adds (OthersStay lock old.tree) old new
others path lock old new is moments = subst (λ (p : List ℕ). Adds (OthersStay p old.tree) old new) is (adds_weaker old new moments (λ x left. created_others path old.tree x left))

fresh : (path lock : List ℕ) (old new : History) → path ≡ lock → Adds (MayLeave (to_create path []) old.tree) old new → Adds (KeepsHeld lock old.tree) old new
fresh path lock old new is moments = subst (λ (p : List ℕ). Adds (KeepsHeld p old.tree) old new) is (adds_weaker old new moments (λ x left. created_held path old.tree x left))

-- a failure was counted, or nothing is made
unmade : (lock : List ℕ) (before now : ℕ) (old new : History) → Adds (MayLeave (to_create lock []) old.tree) old new
    → HasRisen before now ⊎ (allows old.tree (to_create lock []) ≡ false) → HasRisen before now ⊎ (new.tree ≡ old.tree)
unmade lock before now old new moments (inl risen) = inl risen
unmade lock before now old new moments (inr barred) = inr (from_now (adds_now (MayLeave (to_create lock []) old.tree) old new moments))
  where
    from_now : (new.tree ≡ old.tree) ⊎ MayLeave (to_create lock []) old.tree new.tree → new.tree ≡ old.tree
    from_now (inl same) = same
    from_now (inr (inl same)) = same
    from_now (inr (inr (n, may, is))) = absurd (true≢false (sym may ∙ barred))

or_right : (a b : Bool) → b ≡ true → (a || b) ≡ true
or_right true b is = refl
or_right false b is = is

pub returns-in_err-create_new-clause-moments : goal.returns-in_err-create_new-clause-moments
returns-in_err-create_new-clause-moments g c = λ honest. others c.deref.result.now (lock_of c.args.place.now) (g.F.Files.history c.args.files.now) (g.F.Files.history c.create_new.new.self) (c.deref.ensures.value ∙ c.in_ok-path.ensures) (c.create_new.ensures.change honest).moments

pub returns-in_err-create_new-clause-fresh : goal.returns-in_err-create_new-clause-fresh
returns-in_err-create_new-clause-fresh g c = λ honest. fresh c.deref.result.now (lock_of c.args.place.now) (g.F.Files.history c.args.files.now) (g.F.Files.history c.create_new.new.self) (c.deref.ensures.value ∙ c.in_ok-path.ensures) (c.create_new.ensures.change honest).moments

pub returns-then-branch-clause-moments : goal.returns-then-branch-clause-moments
returns-then-branch-clause-moments g c = λ honest. others c.deref.result.now (lock_of c.args.place.now) (g.F.Files.history c.args.files.now) (g.F.Files.history c.create_new.new.self) (c.deref.ensures.value ∙ c.in_ok-path.ensures) (c.create_new.ensures.change honest).moments

pub returns-then-branch-clause-fresh : goal.returns-then-branch-clause-fresh
returns-then-branch-clause-fresh g c = λ honest. fresh c.deref.result.now (lock_of c.args.place.now) (g.F.Files.history c.args.files.now) (g.F.Files.history c.create_new.new.self) (c.deref.ensures.value ∙ c.in_ok-path.ensures) (c.create_new.ensures.change honest).moments

pub returns-else-branch-clause-moments : goal.returns-else-branch-clause-moments
returns-else-branch-clause-moments g c = λ honest. others c.deref.result.now (lock_of c.args.place.now) (g.F.Files.history c.args.files.now) (g.F.Files.history c.create_new.new.self) (c.deref.ensures.value ∙ c.in_ok-path.ensures) (c.create_new.ensures.change honest).moments

pub returns-else-branch-clause-fresh : goal.returns-else-branch-clause-fresh
returns-else-branch-clause-fresh g c = λ honest. fresh c.deref.result.now (lock_of c.args.place.now) (g.F.Files.history c.args.files.now) (g.F.Files.history c.create_new.new.self) (c.deref.ensures.value ∙ c.in_ok-path.ensures) (c.create_new.ensures.change honest).moments

pub returns-in_err-create_new-clause-keeps : goal.returns-in_err-create_new-clause-keeps
returns-in_err-create_new-clause-keeps g c =
    let p = err_from_is_err_and c.from_residual-in_err-create_new.result c.from_residual-in_err-create_new.ensures.1 in
    rw (p.1, p.2) (record {
      honest = c.create_new.ensures.honest;
      later = c.create_new.ensures.later;
      quiet = λ short. c.in_err-create_new.ensures.memory (ap Err short);
      folders = λ honest.
          let old = g.F.Files.history c.args.files.now in
          adds_weaker old (g.F.Files.history c.create_new.new.self) (c.create_new.ensures.change honest).moments (λ x left. while_created c.deref.result.now [] old.tree x left);
    })

pub returns-then-branch-clause-keeps : goal.returns-then-branch-clause-keeps
returns-then-branch-clause-keeps g c = record {
  honest = c.create_new.ensures.honest;
  later = c.create_new.ensures.later;
  quiet = λ quiet. c.in_ok-create_new.ensures.unfailed;
  folders = λ honest.
      let old = g.F.Files.history c.args.files.now in
      adds_weaker old (g.F.Files.history c.create_new.new.self) (c.create_new.ensures.change honest).moments (λ x left. while_created c.deref.result.now [] old.tree x left);
}

pub returns-else-branch-clause-keeps : goal.returns-else-branch-clause-keeps
returns-else-branch-clause-keeps g c = record {
  honest = c.create_new.ensures.honest;
  later = c.create_new.ensures.later;
  quiet = λ quiet. c.in_ok-create_new.ensures.unfailed;
  folders = λ honest.
      let old = g.F.Files.history c.args.files.now in
      adds_weaker old (g.F.Files.history c.create_new.new.self) (c.create_new.ensures.change honest).moments (λ x left. while_created c.deref.result.now [] old.tree x left);
}

pub returns-then-branch-clause-taken : goal.returns-then-branch-clause-taken
returns-then-branch-clause-taken g c = λ honest.
    let old = g.F.Files.history c.args.files.now in
    let new = g.F.Files.history c.create_new.new.self in
    let path = c.deref.ensures.value ∙ c.in_ok-path.ensures in
    let change = subst (λ (p : List ℕ). Makes (to_create p []) old new (Ok c.in_ok-create_new.field-0)) path (c.in_ok-create_new.ensures.change honest) in
    let free = subst (λ (p : List ℕ). is_none (node_at old.tree p) ≡ true) path (sym (c.in_ok-create_new.ensures.is_new honest) ∙ c.if-branch.true) in
    taken_by (lock_of c.args.place.now) old.tree new.tree free change.allowed change.made

pub returns-in_err-create_new-clause-failed : goal.returns-in_err-create_new-clause-failed
returns-in_err-create_new-clause-failed g c = λ honest failed.
    let f = g.F.Files.failures in
    let old = (g.F.Files.history c.args.files.now).tree in
    let cause = subst (λ (path : List ℕ). HasCause (allows old (to_create path [])) (f c.args.files.now) (f c.create_new.new.self) c.create_new.result) (c.deref.ensures.value ∙ c.in_ok-path.ensures) (c.create_new.ensures.cause honest) in
    let change = subst (λ (path : List ℕ). Makes (to_create path []) (g.F.Files.history c.args.files.now) (g.F.Files.history c.create_new.new.self) c.create_new.result) (c.deref.ensures.value ∙ c.in_ok-path.ensures) (c.create_new.ensures.change honest) in
    let error = err_from_is_err_and c.from_residual-in_err-create_new.result c.from_residual-in_err-create_new.ensures.1 in
    let same : c.create_new.result ≡ Err Failed = cc (error.1, error.2) in
    record {
      refused = unmade (lock_of c.args.place.now) _ _ (g.F.Files.history c.args.files.now) (g.F.Files.history c.create_new.new.self) change.moments (cause same);
      failed = λ may. must_rise (allows old (to_create (lock_of c.args.place.now) [])) _ _ c.create_new.result (or_right (is_some (node_at old (lock_of c.args.place.now))) _ may) cause same;
      blamed = λ may. blamed c.args.place.now old _ _ c.create_new.result may cause same;
    }
