use Rattle.std.proofs.Common.{ℕ, List, ap, map, option_map, sym, subst, inr, refl, true, ◌≡◌, ◌∙◌, Err}
use Rattle.std.proofs.lemmas.Result.{err_from_is_err_and}
use Rattle.std.specs.Borrow.{Bor}
use Rattle.std.specs.List.{AllByRecursion}
use Rattle.history_model.specs.Forms.{is_name}
use Rattle.history_layout.specs.EditSteps.{edited_names}
use Rattle.history_store.specs.Calls.{ChangesNames}
use Rattle.history_store.specs.Changing.{MakesChange, moved_in}
use Rattle.history_store.proofs.ChangeSteps.{after_it, always_ok, made_of, none_goes, none_hit, read_again}
use Rattle.history_store.proofs.EditsAsked.{last_is}
use Rattle.history_store.proofs.Honesty.{more_honesty, same_honesty, then_honesty}
use Rattle.history_store.proofs.names.Names.change.Goals as goal

pub returns-in_err-make-clause-keeps : goal.returns-in_err-make-clause-keeps
returns-in_err-make-clause-keeps g c =
    let p = err_from_is_err_and c.from_residual.result c.from_residual.ensures.1 in
    record {
      kind = c.make.ensures.keeps.kind;
      part = more_honesty g.F.Files _ _ _ _ c.make.ensures.keeps.part (λ told. p.1 ∙ ap Err (cc (told, c.in_err-make.was, p.2)));
    }

pub returns-in_err-make-clause-changes : goal.returns-in_err-make-clause-changes
returns-in_err-make-clause-changes g c = λ r may.
    let p = err_from_is_err_and c.from_residual.result c.from_residual.ensures.1 in
    let made = c.make.ensures.transacts r may in
    record {
      moments = made.moments;
      changed = rw p.1 tt;
      records = rw p.1 tt;
      failed = λ failed. made.failed (cc (failed, c.in_err-make.was, p.1, p.2));
    }

pub returns-in-Some-clause-keeps : goal.returns-in-Some-clause-keeps
returns-in-Some-clause-keeps g c = record {
  kind = c.reread.ensures.kind ∙ c.make.ensures.keeps.kind;
  part = then_honesty g.F.Files _ _ _ _ _ c.make.ensures.keeps.part (same_honesty g.F.Files _ _ _ c.reread.ensures.files) (λ told. absurd (cc (told, c.in_ok-make.was)));
}

pub returns-in-Some-clause-changes : goal.returns-in-Some-clause-changes
returns-in-Some-clause-changes g c = λ r may.
    let history = g.F.Files.history in
    let old = c.args.self.now in
    let left = c.make.new.self in
    let new = c.reread.new.self in
    let names = map moved_in c.args.moved.now in
    let gone = option_map (λ (name : Bor (List ℕ)). name.now) c.args.taken in
    let name = c.in-Some.name.now in
    let is = ap (option_map (λ (name : Bor (List ℕ)). name.now)) c.in-Some.is in
    let made = c.in_ok-make.ensures.transacts r may in
    let own = subst (λ o. MakesChange old names o (history old.store.files).tree (history left.store.files).tree) is made.changed in
    let named = last_is names name (subst (λ o. AllByRecursion (λ n. is_name n ≡ true) (edited_names names o)) is may.fit.named) in
    let honest = subst g.F.Files.is_honest (sym c.reread.ensures.files) (c.make.ensures.keeps.part.honest may.whole.honest) in
    record {
      moments = after_it history _ old.store.files left.store.files new.store.files c.reread.ensures.files made.moments;
      changed = always_ok c.reread.result (made_of history old left new r names gone may.whole.kind c.reread.ensures.files made.changed);
      records = c.reread.ensures.keeps honest (λ none. none_hit history old left new names name c.make.ensures.keeps.kind c.make.ensures.packed c.reread.ensures.files may.whole.records own none) named;
      failed = λ failed. inr (c.reread.ensures.failed honest (read_again history old left new names name c.make.ensures.keeps.kind c.reread.ensures.kind c.reread.ensures.files own) failed);
    }

pub returns-in-None-clause-keeps : goal.returns-in-None-clause-keeps
returns-in-None-clause-keeps g c = record {
  kind = c.make.ensures.keeps.kind;
  part = more_honesty g.F.Files _ _ _ _ c.make.ensures.keeps.part (λ told. absurd (cc (told, c.in_ok-make.was)));
}

pub returns-in-None-clause-changes : goal.returns-in-None-clause-changes
returns-in-None-clause-changes g c = λ r may.
    let history = g.F.Files.history in
    let old = c.args.self.now in
    let left = c.make.new.self in
    let names = map moved_in c.args.moved.now in
    let gone = option_map (λ (name : Bor (List ℕ)). name.now) c.args.taken in
    let is = ap (option_map (λ (name : Bor (List ℕ)). name.now)) c.in-None.is in
    let made = c.in_ok-make.ensures.transacts r may in
    let own = subst (λ o. MakesChange old names o (history old.store.files).tree (history left.store.files).tree) is made.changed in
    record {
      moments = made.moments;
      changed = made_of history old left left r names gone may.whole.kind refl made.changed;
      records = none_goes history old left names c.make.ensures.keeps.kind c.make.ensures.packed may.whole.records own;
      failed = λ failed. absurd (cc failed);
    }
