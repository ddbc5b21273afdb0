-- Records that are read are opened, but for a failed reading or want of memory.
use Rattle.std.proofs.Common.{◌≡◌, ◌⊎◌, inl, inr, refl, sym, ◌∙◌, ap, subst, ℕ, true, false, List, [], ◌∷◌, Option, Some, None}
use Rattle.std.specs.Prelude.{is_some, option_and_then}
use Rattle.gix_hash.specs.declared.kind.Kind.{Kind}
use Rattle.gix_ref_format.specs.Packed.{Item, Good, Bad, BadHeader, all_good, with_item}
use Rattle.gix_ref_format.specs.PackedBuffer.{FileFault, first_bad}
use Rattle.gix_ref_format.specs.declared.packed.buffer.Error as buffer
use Rattle.gix_ref_format.specs.declared.packed.buffer.Error.TheVariants.{Iter, HeaderParsing, Io, Memory}
use Rattle.gix_ref_lock.specs.PackedEdits.{IsRead}
use Rattle.gix_ref_lock.specs.PackedErrors.{IsShort}
use Rattle.gix_ref_lock.specs.declared.packed.Error.{Error}
use Rattle.gix_ref_lock.specs.declared.packed.Error.TheVariants.{BufferOpen}

bad_none : (items : List Item) (number : ℕ) → first_bad items ≡ Some number → all_good items ≡ None
bad_none [] number bad = cc
bad_none (Good r ∷ rest) number bad = ap (with_item (Good r)) (bad_none rest number bad)
bad_none (Bad at line ∷ rest) number bad = refl
bad_none (BadHeader line ∷ rest) number bad = refl

pub no_fault : (kind : Kind) (file : Option (List ℕ)) (error : buffer.Error) (Fails : Type 0) → IsRead kind file → FileFault kind file error → (error ≡ Io → Fails) → Fails ⊎ IsShort (BufferOpen error)
no_fault kind file Io Fails read fault fails = inl (fails refl)
no_fault kind file Memory Fails read fault fails = inr tt
no_fault kind None (Iter number) Fails read fault fails = absurd fault
no_fault kind None HeaderParsing Fails read fault fails = absurd fault
no_fault kind (Some text) (Iter number) Fails read (items, are, bad) fails =
    let wrong : true ≡ false = sym read ∙ ap is_some (ap (option_and_then all_good) are ∙ bad_none items number bad) in absurd (cc wrong)
no_fault kind (Some text) HeaderParsing Fails read none fails =
    let wrong : true ≡ false = sym read ∙ ap is_some (ap (option_and_then all_good) none) in absurd (cc wrong)

-- the error that is returned is that one, or a failure was counted, or memory was wanting
pub told_so : (Risen Fails : Type 0) (told : Error) (error : buffer.Error) → (told ≡ BufferOpen error) ⊎ (Risen ⊎ IsShort told) → Fails ⊎ IsShort (BufferOpen error) → (Risen → Fails) → Fails ⊎ IsShort told
told_so Risen Fails told error (inl same) (inl fails) rise = inl fails
told_so Risen Fails told error (inl same) (inr short) rise = inr (subst IsShort (sym same) short)
told_so Risen Fails told error (inr (inl risen)) fault rise = inl (rise risen)
told_so Risen Fails told error (inr (inr short)) fault rise = inr short
