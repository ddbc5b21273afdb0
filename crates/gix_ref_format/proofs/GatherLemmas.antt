-- Records that are gathered one by one.
use Rattle.std.proofs.Common.{◌≡◌, ◌∙◌, ap, refl, sym, ℕ, List, [], ◌∷◌, ◌++◌, Some, option_map}
use Rattle.std.proofs.lemmas.List.{map-append}
use Rattle.gix_ref_format.specs.Packed.{Record, Item, Good, Bad, BadHeader, all_good}
use Rattle.gix_ref_format.specs.PackedBuffer.{entry_record, entry_records, first_bad, GatherFault, ItemFault}
use Rattle.gix_ref_format.specs.declared.packed.buffer.Entry.{Entry}
use Rattle.gix_ref_format.specs.declared.packed.buffer.Error.{Error}
use Rattle.gix_ref_format.specs.declared.packed.buffer.Error.TheVariants.{Iter, HeaderParsing, Io, Memory}

-- the items of these records, and those that are left
abbrev pub gathered : List Record → List Item → List Item
gathered [] left = left
gathered (r ∷ rs) left = Good r ∷ gathered rs left

one_more : (rs : List Record) (r : Record) (left : List Item) → gathered (rs ++ r ∷ []) left ≡ gathered rs (Good r ∷ left)
one_more [] r left = refl
one_more (s ∷ rs) r left = ap (λ l. Good s ∷ l) (one_more rs r left)

pub gathered_on : (all : List Item) (es es' : List Entry) (e : Entry) (item : Item) (left left' : List Item) → all ≡ gathered (entry_records es) left → left ≡ item ∷ left' → item ≡ Good (entry_record e)
    → es' ≡ es ++ e ∷ [] → all ≡ gathered (entry_records es') left'
gathered_on all es es' e item left left' before first good pushed =
    before
    ∙ ap (gathered (entry_records es)) (first ∙ ap (λ i. i ∷ left') good)
    ∙ sym (one_more (entry_records es) (entry_record e) left')
    ∙ ap (λ rs. gathered rs left') (sym (ap entry_records pushed ∙ map-append entry_record es (e ∷ [])))

good_all : (rs : List Record) → all_good (gathered rs []) ≡ Some rs
good_all [] = refl
good_all (r ∷ rs) = ap (option_map (λ more. r ∷ more)) (good_all rs)

pub gathered_all : (all : List Item) (rs : List Record) (left : List Item) → all ≡ gathered rs left → left ≡ [] → all_good all ≡ Some rs
gathered_all all rs left before none = ap all_good (before ∙ ap (gathered rs) none) ∙ good_all rs

bad_first : (item : Item) (rest : List Item) (n : ℕ) → first_bad (item ∷ []) ≡ Some n → first_bad (item ∷ rest) ≡ Some n
bad_first (Good r) rest n e = cc
bad_first (Bad number line) rest n e = e
bad_first (BadHeader line) rest n e = e

bad_behind : (rs : List Record) (left : List Item) → first_bad (gathered rs left) ≡ first_bad left
bad_behind [] left = refl
bad_behind (r ∷ rs) left = bad_behind rs left

pub gathered_fault : (all : List Item) (rs : List Record) (item : Item) (left left' : List Item) (error : Error) → all ≡ gathered rs left → left ≡ item ∷ left' → ItemFault item error → GatherFault all error
gathered_fault all rs item left left' (Iter n) before first bad =
    ap first_bad (before ∙ ap (gathered rs) first) ∙ bad_behind rs (item ∷ left') ∙ bad_first item left' n bad
gathered_fault all rs item left left' HeaderParsing before first bad = absurd bad
gathered_fault all rs item left left' Io before first bad = absurd bad
gathered_fault all rs item left left' Memory before first bad = tt
