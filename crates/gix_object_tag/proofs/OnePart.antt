-- One part is at a place.
use Rattle.std.proofs.Common.{◌≡◌, ◌∙◌, refl, sym, ℕ, List, [], Option}
use Rattle.gix_hash.specs.Id.{Id}
use Rattle.gix_hash.specs.Views.{IsHexOfId}
use Rattle.gix_hash.specs.declared.kind.Kind as hash
use Rattle.gix_hash.proofs.LawLemmas.{one_reading}
use Rattle.gix_object_lines.specs.declared.kind.Kind.{Kind}
use Rattle.gix_object_lines.specs.Person.{Person}
use Rattle.gix_object_tag.specs.Tag.{SpellsTarget, SpellsKind, SpellsName, SpellsTagger, SpellsRest}
use Rattle.gix_object_tag.specs.Tokens.{Part, Target, TargetKind, Name, Tagger, Body, IsPartAt}
use Rattle.gix_object_tag.specs.declared.tag.ref_iter.Stage.TheVariants as at

pub one_id : (digits : List ℕ) (a b : Id) → IsHexOfId digits a → IsHexOfId digits b → a ≡ b
one_id digits a b x y = one_reading a b (sym x.whole ∙ y.whole) (sym x.spelled ∙ y.spelled)

-- what is at a place is of its kind of parts
module _ (kind : hash.Kind) (input rest : List ℕ) where
  pub at_target : (part : Part) → IsPartAt kind at.Target input part rest → (id : Id) × (part ≡ Target id) × ((digits : List ℕ) × SpellsTarget kind input digits rest × IsHexOfId digits id)
  at_target (Target id) h = (id, refl, (h.1.digits, h.1.spelled, h.1.id_spelled))
  at_target (TargetKind target) h = absurd (let e : at.Target ≡ at.TargetKind = h.0 in cc)
  at_target (Name name) h = absurd (let e : at.Target ≡ at.Name = h.0 in cc)
  at_target (Tagger tagger) h = absurd (let e : at.Target ≡ at.Tagger = h.0 in cc)
  at_target (Body message signature) h = absurd (let e : at.Target ≡ at.Body = h.0 in cc)

  pub at_kind : (part : Part) → IsPartAt kind at.TargetKind input part rest → (target : Kind) × (part ≡ TargetKind target) × SpellsKind input target rest
  at_kind (Target id) h = absurd (let e : at.TargetKind ≡ at.Target = h.0 in cc)
  at_kind (TargetKind target) h = (target, refl, h.1)
  at_kind (Name name) h = absurd (let e : at.TargetKind ≡ at.Name = h.0 in cc)
  at_kind (Tagger tagger) h = absurd (let e : at.TargetKind ≡ at.Tagger = h.0 in cc)
  at_kind (Body message signature) h = absurd (let e : at.TargetKind ≡ at.Body = h.0 in cc)

  pub at_name : (part : Part) → IsPartAt kind at.Name input part rest → (name : List ℕ) × (part ≡ Name name) × SpellsName input name rest
  at_name (Target id) h = absurd (let e : at.Name ≡ at.Target = h.0 in cc)
  at_name (TargetKind target) h = absurd (let e : at.Name ≡ at.TargetKind = h.0 in cc)
  at_name (Name name) h = (name, refl, h.1)
  at_name (Tagger tagger) h = absurd (let e : at.Name ≡ at.Tagger = h.0 in cc)
  at_name (Body message signature) h = absurd (let e : at.Name ≡ at.Body = h.0 in cc)

  pub at_tagger : (part : Part) → IsPartAt kind at.Tagger input part rest → (tagger : Option Person) × (part ≡ Tagger tagger) × SpellsTagger input tagger rest
  at_tagger (Target id) h = absurd (let e : at.Tagger ≡ at.Target = h.0 in cc)
  at_tagger (TargetKind target) h = absurd (let e : at.Tagger ≡ at.TargetKind = h.0 in cc)
  at_tagger (Name name) h = absurd (let e : at.Tagger ≡ at.Name = h.0 in cc)
  at_tagger (Tagger tagger) h = (tagger, refl, h.1)
  at_tagger (Body message signature) h = absurd (let e : at.Tagger ≡ at.Body = h.0 in cc)

  pub at_body : (part : Part) → IsPartAt kind at.Body input part rest → (message : List ℕ) × (signature : Option (List ℕ)) × (part ≡ Body message signature) × SpellsRest input message signature × (rest ≡ [])
  at_body (Target id) h = absurd (let e : at.Body ≡ at.Target = h.0 in cc)
  at_body (TargetKind target) h = absurd (let e : at.Body ≡ at.TargetKind = h.0 in cc)
  at_body (Name name) h = absurd (let e : at.Body ≡ at.Name = h.0 in cc)
  at_body (Tagger tagger) h = absurd (let e : at.Body ≡ at.Tagger = h.0 in cc)
  at_body (Body message signature) h = (message, signature, refl, h.1, h.2)
