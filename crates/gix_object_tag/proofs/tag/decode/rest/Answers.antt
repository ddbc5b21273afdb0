use Rattle.std.proofs.Common.{◌≡◌, ◌∙◌, sym, subst, [], ◌∷◌, List, ℕ, Option}
use Rattle.bstr.specs.BStr.{bstr_bytes}
use Rattle.gix_object_tag.specs.Tag.{SpellsRest, Nothing, Body, SpellsBody}
use Rattle.gix_object_tag.specs.Views.{text_of}
use Rattle.gix_object_tag.proofs.tag.decode.rest.Goals as goal

pub returns-in-Some-clause-read : goal.returns-in-Some-clause-read
returns-in-Some-clause-read c = Body c.in-Some.text.now c.in-Some.ensures c.body.ensures.read

every : (input text : List ℕ) (m : List ℕ) (s : Option (List ℕ)) → input ≡ 10 ∷ text → ((message : List ℕ) (signature : Option (List ℕ)) → SpellsBody text message signature → (m ≡ message) × (s ≡ signature))
    → (message : List ℕ) (signature : Option (List ℕ)) → SpellsRest input message signature → (m ≡ message) × (s ≡ signature)
every input text m s is h message signature (Nothing none a b) = let both : 10 ∷ text ≡ [] = sym is ∙ none in absurd cc
every input text m s is h message signature (Body body spelled told) = let same : text ≡ body = cc in h message signature (subst (λ t. SpellsBody t message signature) (sym same) told)

pub returns-in-Some-clause-every : goal.returns-in-Some-clause-every
returns-in-Some-clause-every c = every c.args.input.now c.in-Some.text.now (bstr_bytes c.body.result.0) (text_of c.body.result.1) c.in-Some.ensures c.body.ensures.every
