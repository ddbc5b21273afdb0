-- What calls keep, one after another: honest files stay so, and their counts of failed calls.
use Rattle.std.proofs.Common.{◌≡◌, ◌∙◌, inl, inr, ℕ, ◌≤◌, refl, ap, subst, sym, arith}
use Rattle.gix_ref_file.specs.History.{HasRisen}
use Rattle.gix_ref_file.specs.declared.files.Files.{Ghosts}
use Rattle.history.specs.Runs.{CountsFailure}
use Rattle.history.specs.Calls.{KeepsBoth, MovesAlone, StoresAlone}
use Rattle.history_store.proofs.Honesty.{more_honesty, same_honesty, then_honesty}
use Rattle.history_repository.specs.Face.{KeepsAllButRows}
use Rattle.history_repository.specs.declared.repository.Repository.{Repository}

pub risen_later : (a b c : ℕ) → HasRisen a b → b ≤ c → HasRisen a c
risen_later a b c h k = omega arith

pub risen_before : (a b c : ℕ) → a ≤ b → HasRisen b c → HasRisen a c
risen_before a b c h k = omega arith

module _ {F : Type 0} (files : Ghosts F) where
  -- ---- both parts

  pub same_both : (R : Type 0) (a : Repository F) → KeepsBoth files R a a
  same_both R a = record { objects = same_honesty files R _ _ refl; names = same_honesty files R _ _ refl }

  pub then_both : (P R : Type 0) (a b c : Repository F) → KeepsBoth files P a b → KeepsBoth files R b c → (P → R) → KeepsBoth files R a c
  then_both P R a b c h k more = record {
    objects = then_honesty files P R _ _ _ h.objects k.objects more;
    names = then_honesty files P R _ _ _ h.names k.names more;
  }

  pub more_both : (P R : Type 0) (a b : Repository F) → KeepsBoth files P a b → (P → R) → KeepsBoth files R a b
  more_both P R a b h more = record { objects = more_honesty files P R _ _ h.objects more; names = more_honesty files P R _ _ h.names more }

  pub rows_both : (R : Type 0) (a b : Repository F) → KeepsAllButRows a b → KeepsBoth files R a b
  rows_both R a b kept = subst (KeepsBoth files R a) (sym kept) (record { objects = same_honesty files R _ _ refl; names = same_honesty files R _ _ refl })

  -- objects are put, or names move
  pub stored_both : (R : Type 0) (a b : Repository F) → StoresAlone files R a b → KeepsBoth files R a b
  stored_both R a b s = record { objects = s.objects; names = same_honesty files R _ _ (ap (λ n. n.store.files) s.kept.names) }

  pub moved_both : (R : Type 0) (a b : Repository F) → MovesAlone files R a b → KeepsBoth files R a b
  moved_both R a b m = record { objects = same_honesty files R _ _ (ap (λ o. o.files) m.kept.objects); names = m.names }

  -- ---- a failed call that was counted

  pub failed_later : (R MayFail : Type 0) (a b c : Repository F) → CountsFailure files.failures MayFail a b → KeepsBoth files R b c → CountsFailure files.failures MayFail a c
  failed_later R MayFail a b c (inl h) k = inl (risen_later _ _ _ h k.objects.later)
  failed_later R MayFail a b c (inr (inl h)) k = inr (inl (risen_later _ _ _ h k.names.later))
  failed_later R MayFail a b c (inr (inr h)) k = inr (inr h)

  pub failed_before : (R MayFail : Type 0) (a b c : Repository F) → KeepsBoth files R a b → CountsFailure files.failures MayFail b c → CountsFailure files.failures MayFail a c
  failed_before R MayFail a b c k (inl h) = inl (risen_before _ _ _ k.objects.later h)
  failed_before R MayFail a b c k (inr (inl h)) = inr (inl (risen_before _ _ _ k.names.later h))
  failed_before R MayFail a b c k (inr (inr h)) = inr (inr h)
