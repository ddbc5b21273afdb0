use Rattle.std.proofs.Common.{◌≡◌, ◌∙◌, ap, sym, subst, refl, List, ℕ, Option, None, Some, ◌++◌}
use Rattle.std.specs.Option.{option_map}
use Rattle.bstr.specs.declared.bstr.BStr.{BStr}
use Rattle.bstr.specs.BStr.{bstr_bytes}
use Rattle.gix_object_commit.specs.declared.ref_iter.Stage.TheVariants as at
use Rattle.gix_object_commit.specs.Commit.{encoding_text}
use Rattle.gix_object_commit.specs.Tokens.{Encoding, IsPartAt, part_of}
use Rattle.gix_object_commit.proofs.Results.{if_ok_by}
use Rattle.gix_object_commit.proofs.Stages.{Told, Untold, first_header, first_from}
use Rattle.gix_object_commit.proofs.ref_iter.read_first_header.Goals as goal

named : (o : Option BStr) (name : BStr) (told : List ℕ) → o ≡ Some name → option_map bstr_bytes o ≡ Some told → bstr_bytes name ≡ told
named o name told is shown = let same : Some (bstr_bytes name) ≡ Some told = ap (option_map bstr_bytes) (sym is) ∙ shown in cc

not_named : (o : Option BStr) (name : BStr) → o ≡ Some name → option_map bstr_bytes o ≡ None → ⊥
not_named o name is shown = let clash : Some (bstr_bytes name) ≡ None = ap (option_map bstr_bytes) (sym is) ∙ shown in cc

not_none : (o : Option BStr) (told : List ℕ) → o ≡ None → option_map bstr_bytes o ≡ Some told → ⊥
not_none o told is shown = let clash : None ≡ Some told = ap (option_map bstr_bytes) (sym is) ∙ shown in cc

same_input : (input rest : List ℕ) (o : Option BStr) → o ≡ None → input ≡ encoding_text (option_map bstr_bytes o) ++ rest → input ≡ rest
same_input input rest o is whole = whole ∙ ap (λ x. encoding_text (option_map bstr_bytes x) ++ rest) is

pub returns-in_err-name-clause-every : goal.returns-in_err-name-clause-every
returns-in_err-name-clause-every c = λ kind part rest is.
    absurd (elim (first_header kind c.args.input.now part rest is) [
      | Told name _ lacks whole ↦ c.in_err-name.ensures.every (Some name) rest lacks (λ e. absurd cc) whole
      | Untold none further ↦ c.in_err-name.ensures.every None c.args.input.now tt (λ e. none) refl
    ])

pub returns-in-Some-default-clause-every : goal.returns-in-Some-default-clause-every
returns-in-Some-default-clause-every c = λ kind part rest is.
    elim (first_header kind c.args.input.now part rest is) [
      | Told name told lacks whole ↦
          (let same = c.in_ok-name.ensures.every (Some name) rest lacks (λ e. absurd cc) whole in
          (ap Encoding (named c.in_ok-name.field-0.0 c.in-Some-default.name name c.in-Some-default.is-0 same.0) ∙ sym told, same.1))
      | Untold none further ↦
          absurd (not_named c.in_ok-name.field-0.0 c.in-Some-default.name c.in-Some-default.is-0 (c.in_ok-name.ensures.every None c.args.input.now tt (λ e. none) refl).0)
    ]

pub returns-in-None-default-clause-read : goal.returns-in-None-default-clause-read
returns-in-None-default-clause-read c = λ kind.
    let none = c.in_ok-name.ensures.read.2 (ap (option_map bstr_bytes) c.in-None-default.is-0) in
    let same = same_input c.args.input.now c.in_ok-name.field-0.1.now c.in_ok-name.field-0.0 c.in-None-default.is-0 c.in_ok-name.ensures.read.0 in
    if_ok_by c.read_further_header.result (λ read is. first_from kind c.args.input.now (part_of read.0) read.1.now none (subst (λ i. IsPartAt kind at.Headers i (part_of read.0) read.1.now) (sym same) is)) (c.read_further_header.ensures.read kind)

pub returns-in-None-default-clause-every : goal.returns-in-None-default-clause-every
returns-in-None-default-clause-every c = λ kind part rest is.
    let same = same_input c.args.input.now c.in_ok-name.field-0.1.now c.in_ok-name.field-0.0 c.in-None-default.is-0 c.in_ok-name.ensures.read.0 in
    elim (first_header kind c.args.input.now part rest is) [
      | Told name told lacks whole ↦
          absurd (not_none c.in_ok-name.field-0.0 name c.in-None-default.is-0 (c.in_ok-name.ensures.every (Some name) rest lacks (λ e. absurd cc) whole).0)
      | Untold none further ↦ c.read_further_header.ensures.every kind part rest (subst (λ i. IsPartAt kind at.Headers i part rest) same further)
    ]
