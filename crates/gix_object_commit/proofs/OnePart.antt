-- One part is at a place.
use Rattle.std.proofs.Common.{◌≡◌, ◌∙◌, ap, refl, sym, subst, ℕ, List, ◌∷◌, ◌++◌, inl, inr, arith}
use Rattle.std.specs.Prelude.{codes}
use Rattle.gix_hash.specs.declared.kind.Kind.{Kind}
use Rattle.gix_hash.specs.Id.{Id}
use Rattle.gix_hash.specs.Views.{IsHexOfId}
use Rattle.gix_hash.proofs.LawLemmas.{one_reading}
use Rattle.gix_object_lines.proofs.Cuts.{cut_once}
use Rattle.gix_object_commit.specs.declared.ref_iter.Stage.{Stage}
use Rattle.gix_object_commit.specs.declared.ref_iter.Stage.TheVariants as at
use Rattle.gix_object_commit.specs.Commit.{line, IsPerson}
use Rattle.gix_object_lines.specs.Bytes.{IsBeginningOf}
use Rattle.gix_object_lines.specs.Person.{Person, actor_line}
use Rattle.gix_object_commit.specs.Tokens.{Part, Tree, Parent, Author, Committer, Encoding, Header, Message, IsIdLine, IsPartAt, Place, IsNext, stage_after}
use Rattle.gix_object_commit.proofs.Lines.{line_shape, hex_shape, behind_same, field_no_message}
use Rattle.gix_object_commit.proofs.Once.{hex_once, person_once, field_once}
use Rattle.gix_object_commit.proofs.Stages.{at_tree, at_parent, at_message, FirstHeader, Told, Untold, first_header}

abbrev IsSame : Part → List ℕ → Part → List ℕ → Type 0
IsSame a r b s = (a ≡ b) × (r ≡ s)

pub one_id : (digits : List ℕ) (a b : Id) → IsHexOfId digits a → IsHexOfId digits b → a ≡ b
one_id digits a b x y = one_reading a b (sym x.whole ∙ y.whole) (sym x.spelled ∙ y.spelled)

id_once : (kind : Kind) (word input : List ℕ) (a b : Id) (r s : List ℕ) → IsIdLine kind word input a r → IsIdLine kind word input b s → (a ≡ b) × (r ≡ s)
id_once kind word input a b r s x y =
    let same = hex_once word x.digits y.digits r s (x.hex.0 ∙ sym y.hex.0) (sym x.spelled ∙ y.spelled) in
    (one_id x.digits a b x.id_spelled (subst (λ digits. IsHexOfId digits b) (sym same.0) y.id_spelled), same.1)

begins_parent : (kind : Kind) (input : List ℕ) (id : Id) (rest : List ℕ) → IsIdLine kind (codes "parent") input id rest → IsBeginningOf (codes "parent ") input
begins_parent kind input id rest is = (is.digits ++ 10 ∷ rest, is.spelled ∙ hex_shape (codes "parent") is.digits rest)

module _ (kind : Kind) (input : List ℕ) where
  at_author : (part : Part) (rest text : List ℕ) → IsPartAt kind at.Parents input part rest → input ≡ codes "author" ++ text → (person : Person) × (part ≡ Author person) × IsPerson person × (input ≡ line (codes "author") (actor_line person) ++ rest)
  at_author (Tree id) rest text h begins = absurd (let e : at.Parents ≡ at.Tree = h.0 in cc)
  at_author (Parent id) rest text h begins = absurd (let is = begins_parent kind input id rest h.1 in let heads : ◌≡◌ {A = ℕ} 97 112 = cc (begins, is.1) in omega arith)
  at_author (Author person) rest text h begins = (person, refl, h.1, h.2)
  at_author (Committer person) rest text h begins = absurd (let e : at.Parents ≡ at.Committer = h.0 in cc)
  at_author (Encoding name) rest text h begins = absurd (let e : at.Parents ≡ at.Encoding = h.0 in cc)
  at_author (Header field) rest text h begins = absurd (elim h.0 [ inl e ↦ (let f : at.Parents ≡ at.Headers = e in cc) | inr e ↦ (let f : at.Parents ≡ at.Encoding = e.0 in cc) ])
  at_author (Message message) rest text h begins = absurd (elim h.0 [ inl e ↦ (let f : at.Parents ≡ at.Encoding = e in cc) | inr e ↦ (let f : at.Parents ≡ at.Headers = e in cc) ])

  at_committer : (part : Part) (rest : List ℕ) → IsPartAt kind at.Committer input part rest → (person : Person) × (part ≡ Committer person) × IsPerson person × (input ≡ line (codes "committer") (actor_line person) ++ rest)
  at_committer (Tree id) rest h = absurd (let e : at.Committer ≡ at.Tree = h.0 in cc)
  at_committer (Parent id) rest h = absurd (let e : at.Committer ≡ at.Parents = h.0 in cc)
  at_committer (Author person) rest h = absurd (let e : at.Committer ≡ at.Parents = h.0 in cc)
  at_committer (Committer person) rest h = (person, refl, h.1, h.2)
  at_committer (Encoding name) rest h = absurd (let e : at.Committer ≡ at.Encoding = h.0 in cc)
  at_committer (Header field) rest h = absurd (elim h.0 [ inl e ↦ (let f : at.Committer ≡ at.Headers = e in cc) | inr e ↦ (let f : at.Committer ≡ at.Encoding = e.0 in cc) ])
  at_committer (Message message) rest h = absurd (elim h.0 [ inl e ↦ (let f : at.Committer ≡ at.Encoding = e in cc) | inr e ↦ (let f : at.Committer ≡ at.Headers = e in cc) ])

  one_tree : (a b : Part) (r s : List ℕ) → IsPartAt kind at.Tree input a r → IsPartAt kind at.Tree input b s → IsSame a r b s
  one_tree a b r s x y =
      let l = at_tree kind input a r x in
      let m = at_tree kind input b s y in
      let same = id_once kind (codes "tree") input l.0 m.0 r s l.2 m.2 in
      (l.1 ∙ ap (λ i. Tree i) same.0 ∙ sym m.1, same.1)

  one_parent : (a b : Part) (r s : List ℕ) → IsPartAt kind at.Parents input a r → IsPartAt kind at.Parents input b s → IsSame a r b s
  one_parent (Parent id) b r s x y =
      let m = at_parent kind input b s y (begins_parent kind input id r x.1) in
      let same = id_once kind (codes "parent") input id m.0 r s x.1 m.2 in
      (ap (λ i. Parent i) same.0 ∙ sym m.1, same.1)
  one_parent (Author person) b r s x y =
      let m = at_author b s (32 ∷ (actor_line person ++ 10 ∷ r)) y (x.2 ∙ line_shape (codes "author") (actor_line person) r) in
      let same = person_once (codes "author") person m.0 r s x.1 m.2 (sym x.2 ∙ m.3) in
      (ap (λ p. Author p) same.0 ∙ sym m.1, same.1)
  one_parent (Tree id) b r s x y = absurd (let e : at.Parents ≡ at.Tree = x.0 in cc)
  one_parent (Committer person) b r s x y = absurd (let e : at.Parents ≡ at.Committer = x.0 in cc)
  one_parent (Encoding name) b r s x y = absurd (let e : at.Parents ≡ at.Encoding = x.0 in cc)
  one_parent (Header field) b r s x y = absurd (elim x.0 [ inl e ↦ (let f : at.Parents ≡ at.Headers = e in cc) | inr e ↦ (let f : at.Parents ≡ at.Encoding = e.0 in cc) ])
  one_parent (Message message) b r s x y = absurd (elim x.0 [ inl e ↦ (let f : at.Parents ≡ at.Encoding = e in cc) | inr e ↦ (let f : at.Parents ≡ at.Headers = e in cc) ])

  one_committer : (a b : Part) (r s : List ℕ) → IsPartAt kind at.Committer input a r → IsPartAt kind at.Committer input b s → IsSame a r b s
  one_committer a b r s x y =
      let l = at_committer a r x in
      let m = at_committer b s y in
      let same = person_once (codes "committer") l.0 m.0 r s l.2 m.2 (sym l.3 ∙ m.3) in
      (l.1 ∙ ap (λ p. Committer p) same.0 ∙ sym m.1, same.1)

  one_header : (a b : Part) (r s : List ℕ) → IsPartAt kind at.Headers input a r → IsPartAt kind at.Headers input b s → IsSame a r b s
  one_header (Message message) b r s x y =
      let same = at_message kind input b s message y x.1 in
      (sym same.0, x.2 ∙ sym same.1)
  one_header (Header field) (Message message) r s x y = absurd (field_no_message field r message x.1 (sym y.1 ∙ x.3))
  one_header (Header field) (Header other) r s x y =
      let same = field_once field other r s x.1 y.1 x.2 y.2 (sym x.3 ∙ y.3) in
      (ap (λ f. Header f) same.0, same.1)
  one_header (Header field) (Tree id) r s x y = absurd (let e : at.Headers ≡ at.Tree = y.0 in cc)
  one_header (Header field) (Parent id) r s x y = absurd (let e : at.Headers ≡ at.Parents = y.0 in cc)
  one_header (Header field) (Author person) r s x y = absurd (let e : at.Headers ≡ at.Parents = y.0 in cc)
  one_header (Header field) (Committer person) r s x y = absurd (let e : at.Headers ≡ at.Committer = y.0 in cc)
  one_header (Header field) (Encoding name) r s x y = absurd (let e : at.Headers ≡ at.Encoding = y.0 in cc)
  one_header (Tree id) b r s x y = absurd (let e : at.Headers ≡ at.Tree = x.0 in cc)
  one_header (Parent id) b r s x y = absurd (let e : at.Headers ≡ at.Parents = x.0 in cc)
  one_header (Author person) b r s x y = absurd (let e : at.Headers ≡ at.Parents = x.0 in cc)
  one_header (Committer person) b r s x y = absurd (let e : at.Headers ≡ at.Committer = x.0 in cc)
  one_header (Encoding name) b r s x y = absurd (let e : at.Headers ≡ at.Encoding = x.0 in cc)

  begins_encoding : (name rest : List ℕ) → input ≡ line (codes "encoding") name ++ rest → IsBeginningOf (codes "encoding ") input
  begins_encoding name rest is = (name ++ 10 ∷ rest, is ∙ line_shape (codes "encoding") name rest)

  one_first : (a b : Part) (r s : List ℕ) → FirstHeader kind input a r → FirstHeader kind input b s → IsSame a r b s
  one_first a b r s (Told name told lacks whole) (Told name' told' lacks' whole') =
      let behind = behind_same input (codes "encoding") (name ++ 10 ∷ r) (name' ++ 10 ∷ s) (whole ∙ line_shape (codes "encoding") name r) (whole' ∙ line_shape (codes "encoding") name' s) in
      let same = cut_once 10 name r name' s lacks lacks' behind in
      (told ∙ ap (λ n. Encoding n) same.0 ∙ sym told', same.1)
  one_first a b r s (Told name told lacks whole) (Untold none further) = absurd (none (begins_encoding name r whole))
  one_first a b r s (Untold none further) (Told name told lacks whole) = absurd (none (begins_encoding name s whole))
  one_first a b r s (Untold none further) (Untold none' further') = one_header a b r s further further'

  pub one_part : (stage : Stage) (a b : Part) (r s : List ℕ) → IsPartAt kind stage input a r → IsPartAt kind stage input b s → IsSame a r b s
  one_part at.Tree a b r s x y = one_tree a b r s x y
  one_part at.Parents a b r s x y = one_parent a b r s x y
  one_part at.Committer a b r s x y = one_committer a b r s x y
  one_part at.Encoding a b r s x y = one_first a b r s (first_header kind input a r x) (first_header kind input b s y)
  one_part at.Headers a b r s x y = one_header a b r s x y

-- the reader gives it, and is then in one place
pub one_next : (here : Place) (a b : Part) (x y : Place) → IsNext here a x → IsNext here b y → (a ≡ b) × (x ≡ y)
one_next here a b x y p q =
    let same = one_part here.kind here.input here.stage a b x.input y.input p.0 q.0 in
    (same.0, place_same x y (p.2 ∙ sym q.2) (p.1 ∙ ap stage_after same.0 ∙ sym q.1) same.1)
  where
    place_same : (x y : Place) → x.kind ≡ y.kind → x.stage ≡ y.stage → x.input ≡ y.input → x ≡ y
    place_same x y k s i = λ j. record { kind = k j; stage = s j; input = i j }
