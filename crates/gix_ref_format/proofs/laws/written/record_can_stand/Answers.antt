use Rattle.std.proofs.Common.{◌≡◌, List, ℕ, Option, option_map, subst, sym}
use Rattle.std.specs.Prelude.{IfSome, IsTrue}
use Rattle.gix_hash.specs.Id.{Id, id_of}
use Rattle.gix_hash.specs.declared.object_id.ObjectId.{ObjectId}
use Rattle.gix_object_lines.specs.NameTest.{is_full_name}
use Rattle.gix_ref_format.specs.Written.{IsIdOf}
use Rattle.gix_ref_format.proofs.laws.written.record_can_stand.Goals as goal

pub returns-in-Some : goal.returns-in-Some
returns-in-Some c = λ kind has. record {
  name = subst (λ (name : List ℕ). IsTrue (is_full_name name)) c.as_bstr-name.ensures.bytes c.as_bstr-name.ensures.full;
  target = c.id_can_stand.ensures kind has.target;
  peeled = subst (λ (peeled : Option ObjectId). IfSome (option_map id_of peeled) (IsIdOf kind)) (sym c.in-Some.is)
      (c.id_can_stand-in-Some.ensures kind (subst (λ (peeled : Option ObjectId). IfSome (option_map id_of peeled) (λ (id : Id). id.kind ≡ kind)) c.in-Some.is has.peeled));
}

pub returns-in_default : goal.returns-in_default
returns-in_default c = λ kind has. record {
  name = subst (λ (name : List ℕ). IsTrue (is_full_name name)) c.as_bstr-name.ensures.bytes c.as_bstr-name.ensures.full;
  target = c.id_can_stand.ensures kind has.target;
  peeled = subst (λ (peeled : Option ObjectId). IfSome (option_map id_of peeled) (IsIdOf kind)) (sym c.in_default.is) tt;
}
