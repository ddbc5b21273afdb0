-- Which parts may come where.
use Rattle.std.proofs.Common.{◌≡◌, ◌∙◌, ap, refl, sym, ℕ, List, [], ◌∷◌, ◌++◌, inl, inr, arith}
use Rattle.std.specs.Prelude.{codes}
use Rattle.gix_hash.specs.declared.kind.Kind.{Kind}
use Rattle.gix_hash.specs.Id.{Id}
use Rattle.gix_object_lines.specs.Bytes.{IsBeginningOf, Lacks}
use Rattle.gix_object_lines.proofs.Cuts.{cut_once}
use Rattle.gix_object_commit.specs.declared.ref_iter.Stage.TheVariants as at
use Rattle.gix_object_commit.specs.Commit.{line}
use Rattle.gix_object_commit.specs.Tokens.{Part, Tree, Parent, Author, Committer, Encoding, Header, Message, IsIdLine, IsPartAt}
use Rattle.gix_object_commit.proofs.Lines.{line_shape, field_no_message}

module _ (kind : Kind) (input : List ℕ) where
  pub at_tree : (part : Part) (rest : List ℕ) → IsPartAt kind at.Tree input part rest → (id : Id) × (part ≡ Tree id) × IsIdLine kind (codes "tree") input id rest
  at_tree (Tree id) rest h = (id, refl, h.1)
  at_tree (Parent id) rest h = absurd (let e : at.Tree ≡ at.Parents = h.0 in cc)
  at_tree (Author person) rest h = absurd (let e : at.Tree ≡ at.Parents = h.0 in cc)
  at_tree (Committer person) rest h = absurd (let e : at.Tree ≡ at.Committer = h.0 in cc)
  at_tree (Encoding name) rest h = absurd (let e : at.Tree ≡ at.Encoding = h.0 in cc)
  at_tree (Header field) rest h = absurd (elim h.0 [ inl e ↦ (let f : at.Tree ≡ at.Headers = e in cc) | inr e ↦ (let f : at.Tree ≡ at.Encoding = e.0 in cc) ])
  at_tree (Message message) rest h = absurd (elim h.0 [ inl e ↦ (let f : at.Tree ≡ at.Encoding = e in cc) | inr e ↦ (let f : at.Tree ≡ at.Headers = e in cc) ])

  -- a parent, where the input begins as one
  pub at_parent : (part : Part) (rest : List ℕ) → IsPartAt kind at.Parents input part rest → IsBeginningOf (codes "parent ") input → (id : Id) × (part ≡ Parent id) × IsIdLine kind (codes "parent") input id rest
  at_parent (Tree id) rest h begins = absurd (let e : at.Parents ≡ at.Tree = h.0 in cc)
  at_parent (Parent id) rest h begins = (id, refl, h.1)
  at_parent (Author person) rest h begins = absurd (let heads : ◌≡◌ {A = ℕ} 97 112 = cc (h.2, begins.1) in omega arith)
  at_parent (Committer person) rest h begins = absurd (let e : at.Parents ≡ at.Committer = h.0 in cc)
  at_parent (Encoding name) rest h begins = absurd (let e : at.Parents ≡ at.Encoding = h.0 in cc)
  at_parent (Header field) rest h begins = absurd (elim h.0 [ inl e ↦ (let f : at.Parents ≡ at.Headers = e in cc) | inr e ↦ (let f : at.Parents ≡ at.Encoding = e.0 in cc) ])
  at_parent (Message message) rest h begins = absurd (elim h.0 [ inl e ↦ (let f : at.Parents ≡ at.Encoding = e in cc) | inr e ↦ (let f : at.Parents ≡ at.Headers = e in cc) ])

  -- the message, where a line feed begins the input
  pub at_message : (part : Part) (rest message : List ℕ) → IsPartAt kind at.Headers input part rest → input ≡ 10 ∷ message → (part ≡ Message message) × (rest ≡ [])
  at_message (Tree id) rest message h is = absurd (let e : at.Headers ≡ at.Tree = h.0 in cc)
  at_message (Parent id) rest message h is = absurd (let e : at.Headers ≡ at.Parents = h.0 in cc)
  at_message (Author person) rest message h is = absurd (let e : at.Headers ≡ at.Parents = h.0 in cc)
  at_message (Committer person) rest message h is = absurd (let e : at.Headers ≡ at.Committer = h.0 in cc)
  at_message (Encoding name) rest message h is = absurd (let e : at.Headers ≡ at.Encoding = h.0 in cc)
  at_message (Header field) rest message h is = absurd (field_no_message field rest message h.1 (sym is ∙ h.3))
  at_message (Message text) rest message h is = (let same : 10 ∷ text ≡ 10 ∷ message = sym h.1 ∙ is in cc, h.2)

  -- a header may come first if it isn't named as the encoding
  pub first_from : (part : Part) (rest : List ℕ) → ¬ IsBeginningOf (codes "encoding ") input → IsPartAt kind at.Headers input part rest → IsPartAt kind at.Encoding input part rest
  first_from (Tree id) rest none h = absurd (let e : at.Headers ≡ at.Tree = h.0 in cc)
  first_from (Parent id) rest none h = absurd (let e : at.Headers ≡ at.Parents = h.0 in cc)
  first_from (Author person) rest none h = absurd (let e : at.Headers ≡ at.Parents = h.0 in cc)
  first_from (Committer person) rest none h = absurd (let e : at.Headers ≡ at.Committer = h.0 in cc)
  first_from (Encoding name) rest none h = absurd (let e : at.Headers ≡ at.Encoding = h.0 in cc)
  first_from (Header field) rest none h = (inr (refl, λ named. none (field.value ++ 10 ∷ rest, h.3 ∙ line_shape field.name field.value rest ∙ ap (λ n. n ++ 32 ∷ (field.value ++ 10 ∷ rest)) named)), h.1, h.2, h.3)
  first_from (Message message) rest none h = (inl refl, h.1, h.2)

  pub first_to : (part : Part) (rest : List ℕ) → ¬ IsBeginningOf (codes "encoding ") input → IsPartAt kind at.Encoding input part rest → IsPartAt kind at.Headers input part rest
  first_to (Tree id) rest none h = absurd (let e : at.Encoding ≡ at.Tree = h.0 in cc)
  first_to (Parent id) rest none h = absurd (let e : at.Encoding ≡ at.Parents = h.0 in cc)
  first_to (Author person) rest none h = absurd (let e : at.Encoding ≡ at.Parents = h.0 in cc)
  first_to (Committer person) rest none h = absurd (let e : at.Encoding ≡ at.Committer = h.0 in cc)
  first_to (Encoding name) rest none h = absurd (none (name ++ 10 ∷ rest, h.2 ∙ line_shape (codes "encoding") name rest))
  first_to (Header field) rest none h = (inl refl, h.1, h.2, h.3)
  first_to (Message message) rest none h = (inr refl, h.1, h.2)

  -- the encoding, where its line begins the input
  pub at_encoding : (part : Part) (rest : List ℕ) → IsPartAt kind at.Encoding input part rest → IsBeginningOf (codes "encoding ") input → (name : List ℕ) × (part ≡ Encoding name) × Lacks 10 name × (input ≡ line (codes "encoding") name ++ rest)
  at_encoding (Tree id) rest h begins = absurd (let e : at.Encoding ≡ at.Tree = h.0 in cc)
  at_encoding (Parent id) rest h begins = absurd (let e : at.Encoding ≡ at.Parents = h.0 in cc)
  at_encoding (Author person) rest h begins = absurd (let e : at.Encoding ≡ at.Parents = h.0 in cc)
  at_encoding (Committer person) rest h begins = absurd (let e : at.Encoding ≡ at.Committer = h.0 in cc)
  at_encoding (Encoding name) rest h begins = (name, refl, h.1, h.2)
  at_encoding (Header field) rest h begins = absurd (elim h.0 [ inl e ↦ (let f : at.Encoding ≡ at.Headers = e in cc) | inr e ↦ e.1 (sym (cut_once 32 (codes "encoding") begins.0 field.name (field.value ++ 10 ∷ rest) refl h.1.name_one_word (sym begins.1 ∙ h.3 ∙ line_shape field.name field.value rest)).0) ])
  at_encoding (Message message) rest h begins = absurd (let heads : ◌≡◌ {A = ℕ} 10 101 = cc (h.1, begins.1) in omega arith)

-- at the place of the encoding: an encoding, or what may be there without one
pub data FirstHeader (kind : Kind) (input : List ℕ) (part : Part) (rest : List ℕ) : Type 0 where
  Told : (name : List ℕ) → part ≡ Encoding name → Lacks 10 name → input ≡ line (codes "encoding") name ++ rest → FirstHeader kind input part rest
  Untold : ¬ IsBeginningOf (codes "encoding ") input → IsPartAt kind at.Headers input part rest → FirstHeader kind input part rest

pub first_header : (kind : Kind) (input : List ℕ) (part : Part) (rest : List ℕ) → IsPartAt kind at.Encoding input part rest → FirstHeader kind input part rest
first_header kind input (Tree id) rest h = absurd (let e : at.Encoding ≡ at.Tree = h.0 in cc)
first_header kind input (Parent id) rest h = absurd (let e : at.Encoding ≡ at.Parents = h.0 in cc)
first_header kind input (Author person) rest h = absurd (let e : at.Encoding ≡ at.Parents = h.0 in cc)
first_header kind input (Committer person) rest h = absurd (let e : at.Encoding ≡ at.Committer = h.0 in cc)
first_header kind input (Encoding name) rest h = Told name refl h.1 h.2
first_header kind input (Header field) rest h =
    let none = λ (begins : IsBeginningOf (codes "encoding ") input). no_part (at_encoding kind input (Header field) rest h begins) in
    Untold none (first_to kind input (Header field) rest none h)
  where
    no_part : (name : List ℕ) × (Header field ≡ Encoding name) × Lacks 10 name × (input ≡ line (codes "encoding") name ++ rest) → ⊥
    no_part found = let clash : Header field ≡ Encoding found.0 = found.1 in cc
first_header kind input (Message message) rest h =
    let none = λ (begins : IsBeginningOf (codes "encoding ") input). no_message (at_encoding kind input (Message message) rest h begins) in
    Untold none (first_to kind input (Message message) rest none h)
  where
    no_message : (name : List ℕ) × (Message message ≡ Encoding name) × Lacks 10 name × (input ≡ line (codes "encoding") name ++ rest) → ⊥
    no_message found = let clash : Message message ≡ Encoding found.0 = found.1 in cc
