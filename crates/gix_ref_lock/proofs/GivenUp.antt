-- Why a transaction of packed records was given up, and what is left of its lock.
use Rattle.std.proofs.Common.{◌≡◌, ◌⊎◌, inl, inr, refl, sym, ◌∙◌, subst, ℕ, ◌≤◌, Bool, false, arith}
use Rattle.gix_ref_file.specs.History.{HasRisen}
use Rattle.gix_ref_file.specs.declared.files.FileError.{FileError}
use Rattle.gix_ref_file.specs.declared.files.FileError.TheVariants as file_case
use Rattle.gix_ref_way.proofs.FoldersMade.{risen_later}
use Rattle.gix_ref_lock.specs.PackedErrors.{IsShort, IsUnprepared, IsUncommitted, as_commit}
use Rattle.gix_ref_lock.specs.declared.packed.Error.{Error}
use Rattle.gix_ref_lock.specs.declared.packed.PrepareError.{PrepareError}
use Rattle.gix_ref_lock.specs.declared.packed.CommitError.{CommitError}

-- a failure that was counted in the first half or in the second is counted in all
pub first_half : (a b c : ℕ) → HasRisen a b → b ≤ c → HasRisen a c
first_half a b c risen later = risen_later a a b c (omega arith) risen later

pub second_half : (a b c : ℕ) → a ≤ b → HasRisen b c → HasRisen a c
second_half a b c first risen = risen_later a b c c first risen (omega arith)

pub not_begun : (a b c : ℕ) (now old : Bool) (error : Error) → a ≤ b → old ≡ false → (now ≡ false) ⊎ (HasRisen b c ⊎ IsShort error) → (now ≡ old) ⊎ (HasRisen a c ⊎ IsShort error)
not_begun a b c now old error first none (inl gone) = inl (gone ∙ sym none)
not_begun a b c now old error first none (inr (inl risen)) = inr (inl (second_half a b c first risen))
not_begun a b c now old error first none (inr (inr short)) = inr (inr short)

pub not_prepared : (a b c : ℕ) (error result : PrepareError) → a ≤ b → b ≤ c → HasRisen a b ⊎ IsUnprepared error → (result ≡ error) ⊎ HasRisen b c → HasRisen a c ⊎ IsUnprepared result
not_prepared a b c error result first later (inl risen) told = inl (first_half a b c risen later)
not_prepared a b c error result first later (inr short) (inl same) = inr (subst IsUnprepared (sym same) short)
not_prepared a b c error result first later (inr short) (inr risen) = inl (second_half a b c first risen)

pub not_replaced : (a b c : ℕ) (error : FileError) (result : CommitError) → a ≤ b → b ≤ c → (error ≡ file_case.Failed → HasRisen a b) → (result ≡ as_commit error) ⊎ HasRisen b c → HasRisen a c ⊎ IsUncommitted result
not_replaced a b c error result first later cause (inr risen) = inl (second_half a b c first risen)
not_replaced a b c error result first later cause (inl same) = by_error error same cause
  where
    by_error : (e : FileError) → result ≡ as_commit e → (e ≡ file_case.Failed → HasRisen a b) → HasRisen a c ⊎ IsUncommitted result
    by_error file_case.Failed is cause = inl (first_half a b c (cause refl) later)
    by_error file_case.Memory is cause = inr (subst IsUncommitted (sym is) tt)
