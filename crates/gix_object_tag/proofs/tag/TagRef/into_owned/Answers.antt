use Rattle.std.proofs.Common.{◌≡◌, sym, subst, inl, inr, List, ℕ, Option}
use Rattle.std.specs.Prelude.{◌⊎◌, IsTrue}
use Rattle.std.proofs.lemmas.Result.{err_from_is_err_and}
use Rattle.bstr.specs.BStr.{bstr_bytes}
use Rattle.gix_hash.specs.Id.{id_of}
use Rattle.gix_object_lines.specs.HexLine.{is_id}
use Rattle.gix_object_lines.specs.declared.decode.Error.{Error}
use Rattle.gix_object_lines.specs.declared.decode.Error.TheVariants.{HexDigits, InvalidTime, Memory}
use Rattle.gix_object_lines.specs.Person.{Person}
use Rattle.gix_object_lines.proofs.HexDigits.{spells_none}
use Rattle.gix_object_tag.specs.Format.{TellsWhen}
use Rattle.gix_object_tag.specs.Owned.{SpellsId, OwningFault}
use Rattle.gix_object_tag.specs.Views.{tagger_of}
use Rattle.gix_object_tag.proofs.tag.TagRef.into_owned.Goals as goal

module _ (target : List ℕ) (tagger : Option Person) (error : Error) where
  no_target : error ≡ HexDigits → ¬ IsTrue (is_id target) → OwningFault target tagger error
  no_target digits none = subst (OwningFault target tagger) (sym digits) (λ is. spells_none target none is.0 is.1)

  no_memory : SpellsId target → TellsWhen tagger → error ≡ Memory → OwningFault target tagger error
  no_memory spelled told memory = subst (OwningFault target tagger) (sym memory) (spelled, told)

  no_tagger : SpellsId target → ((error ≡ Memory) × TellsWhen tagger) ⊎ ((error ≡ InvalidTime) × ¬ TellsWhen tagger) → OwningFault target tagger error
  no_tagger spelled (inl memory) = no_memory spelled memory.1 memory.0
  no_tagger spelled (inr untold) = subst (OwningFault target tagger) (sym untold.0) (spelled, untold.1)

pub returns-in_err-target-clause-refused : goal.returns-in_err-target-clause-refused
returns-in_err-target-clause-refused c =
    let p = err_from_is_err_and c.from_residual.result c.from_residual.ensures.1 in
    let fault = c.in_err-target.ensures.refused in
    rw (p.1, p.2) (no_target (bstr_bytes c.args.self.target) (tagger_of c.args.self.tagger) _ fault.0 fault.1)

pub returns-in_err-tagger-clause-refused : goal.returns-in_err-tagger-clause-refused
returns-in_err-tagger-clause-refused c =
    let p = err_from_is_err_and c.from_residual-in_err-tagger.result c.from_residual-in_err-tagger.ensures.1 in
    let spelled : SpellsId (bstr_bytes c.args.self.target) = (id_of c.in_ok-target.target, c.in_ok-target.ensures.own) in
    rw (p.1, p.2) (no_tagger (bstr_bytes c.args.self.target) (tagger_of c.args.self.tagger) _ spelled c.in_err-tagger.ensures.refused)
