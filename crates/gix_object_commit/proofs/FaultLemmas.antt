-- The part of a commit that fails, after those that are read.
use Rattle.std.proofs.Common.{◌≡◌, ◌≢◌, ◌<◌, ◌∙◌, ap, sym, subst, ℕ, List, [], ◌∷◌, ◌++◌, length, length-append, append_assoc, append-nil, Option, None, inl, inr, arith}
use Rattle.std.proofs.lemmas.Grind.{flat_map-append}
use Rattle.std.proofs.lemmas.List.Elements.{All-nil, All-cons, All-append}
use Rattle.std.specs.Prelude.{◌⊎◌, codes, flat_map, All, IfSome}
use Rattle.gix_object_lines.specs.Actor.{IsUncut, IsUntimed}
use Rattle.gix_object_lines.specs.Bytes.{IsBeginningOf, Lacks}
use Rattle.gix_object_lines.specs.HexLine.{hex_line, IsHex, HexLineFault}
use Rattle.gix_object_lines.specs.declared.decode.Error.{Error}
use Rattle.gix_object_lines.specs.declared.decode.Error.TheVariants.{InvalidActor, InvalidTime, Memory}
use Rattle.gix_object_lines.specs.Person.{Person, actor_line}
use Rattle.gix_object_commit.specs.Commit.{Field, line, encoding_text, field_text, IsPerson, IsField}
use Rattle.gix_object_commit.specs.Faults.{PersonFault, HeaderFault, IsBehindTree, IsBehindParents, IsPersonLine, IsBehindAuthor, IsBehindCommitter, IsBehindEncoding, ParentFault, HeadersFault, HasTwoParents, HasHeader, ForParents, ForHeaders, CommitFault, InParents, InHeaders, NoMemory}
use Rattle.gix_object_commit.specs.Reading.{IsUnspaced}

pub actor_fault : (word input behind text rest : List ℕ) (error : Error) → input ≡ word ++ 32 ∷ behind → behind ≡ text ++ 10 ∷ rest → Lacks 10 text → ((error ≡ InvalidActor) × IsUncut text) ⊎ ((error ≡ InvalidTime) × IsUntimed text)
    → PersonFault word input error
actor_fault word input behind text rest error front cut lacks (inl h) = subst (PersonFault word input) (sym h.0) (text, rest, front ∙ ap (λ t. word ++ 32 ∷ t) cut, lacks, h.1)
actor_fault word input behind text rest error front cut lacks (inr h) = subst (PersonFault word input) (sym h.0) (text, rest, front ∙ ap (λ t. word ++ 32 ∷ t) cut, lacks, h.1)

joined : {X : Type 0} (text : X → List ℕ) (done : List X) (x : X) (after : List ℕ) → flat_map text done ++ (text x ++ after) ≡ flat_map text (done ++ x ∷ []) ++ after
joined text done x after =
    sym (append_assoc (flat_map text done) (text x) after)
    ∙ ap (λ t. t ++ after) (ap (λ t. flat_map text done ++ t) (sym (append-nil (text x))) ∙ sym (flat_map-append text done (x ∷ [])))

-- after the parents that were read
pub next_parent : (n : ℕ) (input : List ℕ) (parents : List (List ℕ)) (rest : List ℕ) (error : Error) → All (IsHex n) parents → input ≡ flat_map (hex_line (codes "parent")) parents ++ rest → IsBeginningOf (codes "parent ") rest
    → HexLineFault (codes "parent") n rest error → ParentFault n input error
next_parent n input parents rest error hex spelled begins fault = record { rest = rest; before = record { parents = parents; hex = hex; spelled = spelled }; begins = begins; fault = fault }

-- after the headers that were read
pub next_header : (input : List ℕ) (fields : List Field) (rest : List ℕ) (error : Error) → All IsField fields → input ≡ flat_map field_text fields ++ rest → (fields ≡ []) ⊎ IsUnspaced rest → ((message : List ℕ) → rest ≢ 10 ∷ message)
    → HeaderFault rest error → HeadersFault input error
next_header input fields rest error fit spelled ended no_message fault = record { rest = rest; before = record { fields = fields; fit = fit; spelled = spelled; ended = ended }; no_message = no_message; fault = fault }

-- no memory was left for a parent after some that were read
pub no_room_for_parent : (n : ℕ) (input : List ℕ) (parents : List (List ℕ)) (parent rest after : List ℕ) → All (IsHex n) parents → IsHex n parent → input ≡ flat_map (hex_line (codes "parent")) parents ++ rest
    → rest ≡ hex_line (codes "parent") parent ++ after → 0 < length parents → HasTwoParents n input
no_room_for_parent n input parents parent rest after hex fits spelled next some = record {
  rest = after;
  some = record {
    parents = parents ++ parent ∷ [];
    hex = All-append (IsHex n) parents (parent ∷ []) hex (All-cons (IsHex n) parent [] fits (All-nil (IsHex n)));
    spelled = spelled ∙ ap (λ t. flat_map (hex_line (codes "parent")) parents ++ t) next ∙ joined (hex_line (codes "parent")) parents parent after;
  };
  two = omega (arith, length-append parents (parent ∷ []));
}

-- no memory was left for a header after some that were read
pub no_room_for_header : (input : List ℕ) (fields : List Field) (field : Field) (rest after : List ℕ) → All IsField fields → IsField field → input ≡ flat_map field_text fields ++ rest
    → rest ≡ field_text field ++ after → IsUnspaced after → HasHeader input
no_room_for_header input fields field rest after fit fits spelled next unspaced = record {
  rest = after;
  some = record {
    fields = fields ++ field ∷ [];
    fit = All-append IsField fields (field ∷ []) fit (All-cons IsField field [] fits (All-nil IsField));
    spelled = spelled ∙ ap (λ t. flat_map field_text fields ++ t) next ∙ joined field_text fields field after;
    ended = inr unspaced;
  };
  one = λ none. no_last fields none;
}
  where
    no_last : (fields : List Field) → fields ++ field ∷ [] ≡ [] → ⊥
    no_last [] e = cc
    no_last (one ∷ more) e = cc

module _ (n count : ℕ) (input : List ℕ) (same : count ≡ n) where
  pub behind_tree : (digits rest : List ℕ) → (input ≡ hex_line (codes "tree") digits ++ rest) × IsHex count digits → IsBehindTree n input rest
  behind_tree digits rest read = record { digits = digits; hex = subst (λ m. IsHex m digits) same read.1; spelled = read.0 }

  pub behind_parents : (after : List ℕ) (parents : List (List ℕ)) (rest : List ℕ) → IsBehindTree n input after
      → (after ≡ flat_map (hex_line (codes "parent")) parents ++ rest) × All (IsHex count) parents × ¬ IsBeginningOf (codes "parent ") rest → IsBehindParents n input rest
  behind_parents after parents rest tree read =
      record { after_tree = after; tree = tree; parents = record { parents = parents; hex = subst (λ m. All (IsHex m) parents) same read.1; spelled = read.0 }; no_more = read.2 }

  pub parents_fault : (after : List ℕ) (error : Error) → IsBehindTree n input after → ParentFault count after error ⊎ ((error ≡ Memory) × HasTwoParents count after) → CommitFault n input error
  parents_fault after error tree (inl fault) = InParents after tree (subst (λ m. ParentFault m after error) same fault)
  parents_fault after error tree (inr memory) = NoMemory memory.0 (ForParents after tree (subst (λ m. HasTwoParents m after) same memory.1))

module _ (n : ℕ) (input : List ℕ) where
  person_line : (word after : List ℕ) (person : Person) (rest : List ℕ) → (after ≡ line word (actor_line person) ++ rest) × IsPerson person → IsPersonLine word after rest
  person_line word after person rest read = record { person = person; fits = read.1; spelled = read.0 }

  pub behind_author : (after : List ℕ) (person : Person) (rest : List ℕ) → IsBehindParents n input after → (after ≡ line (codes "author") (actor_line person) ++ rest) × IsPerson person → IsBehindAuthor n input rest
  behind_author after person rest parents read = record { after_parents = after; parents = parents; author = person_line (codes "author") after person rest read }

  pub behind_committer : (after : List ℕ) (person : Person) (rest : List ℕ) → IsBehindAuthor n input after → (after ≡ line (codes "committer") (actor_line person) ++ rest) × IsPerson person → IsBehindCommitter n input rest
  behind_committer after person rest author read = record { after_author = after; author = author; committer = person_line (codes "committer") after person rest read }

  pub behind_encoding : (after : List ℕ) (encoding : Option (List ℕ)) (rest : List ℕ) → IsBehindCommitter n input after
      → (after ≡ encoding_text encoding ++ rest) × IfSome encoding (Lacks 10) × (encoding ≡ None → ¬ IsBeginningOf (codes "encoding ") after) → IsBehindEncoding n input rest
  behind_encoding after encoding rest committer read = record { after_committer = after; committer = committer; encoding = encoding; in_line = read.1; spelled = read.0; untold = read.2 }

  pub headers_fault : (after : List ℕ) (error : Error) → IsBehindEncoding n input after → HeadersFault after error ⊎ ((error ≡ Memory) × HasHeader after) → CommitFault n input error
  headers_fault after error encoding (inl fault) = InHeaders after encoding fault
  headers_fault after error encoding (inr memory) = NoMemory memory.0 (ForHeaders after encoding memory.1)
