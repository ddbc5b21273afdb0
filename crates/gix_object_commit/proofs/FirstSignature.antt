-- A commit's first signature header, and its place.
use Rattle.std.proofs.Common.{◌≡◌, ◌∙◌, ap, refl, sym, subst, ℕ, ◌+◌, ◌-◌, ◌≤◌, Bool, true, List, [], ◌∷◌, ◌++◌, ◌⊎◌, append_assoc, append-nil, length, length-append, take, Option, Some, None, inl, inr, Result, Ok, Err, arith}
use Rattle.std.specs.Prelude.{codes, filter_map, cond}
use Rattle.std.specs.Option.{option_map, ok_or}
use Rattle.std.specs.Cmp.Lexicographic.{same_text}
use Rattle.std.proofs.lemmas.Cmp.{nat_list_eq_equiv}
use Rattle.std.proofs.lemmas.List.{append_cancel_right}
use Rattle.std.proofs.Math.Seq.{take-append_seam}
use Rattle.bstr.specs.declared.bstr.BStr.{BStr}
use Rattle.gix_hash.specs.declared.kind.Kind.{Kind}
use Rattle.gix_hash.specs.declared.object_id.ObjectId.{ObjectId}
use Rattle.gix_object_lines.specs.HexLine.{hex_line}
use Rattle.gix_object_lines.specs.declared.lines.actor.ActorRef.{ActorRef}
use Rattle.gix_object_lines.specs.declared.decode.Error.{Error}
use Rattle.gix_object_lines.specs.declared.decode.Error.TheVariants.{FieldName}
use Rattle.gix_object_lines.specs.Person.{actor_line}
use Rattle.gix_object_commit.specs.declared.ref_iter.Stage.{Stage}
use Rattle.gix_object_commit.specs.declared.ref_iter.Token.{Token}
use Rattle.gix_object_commit.specs.declared.ref_iter.Token.TheVariants as token
use Rattle.gix_object_commit.specs.Commit.{Field, line, field_text}
use Rattle.gix_object_commit.specs.Headers.{is_named}
use Rattle.gix_object_commit.specs.ReadingOn.{Reads, Tells, TellsFirst, TellsNone}
use Rattle.gix_object_commit.specs.Signature.{signature_name}
use Rattle.gix_object_commit.specs.SignedCommit.{Cut, IsSigned, FindsSignature, signature_told}
use Rattle.gix_object_commit.specs.Tokens.{Part, Tree, Parent, Author, Committer, Encoding, Header, Message, Place, start, part_of, IsPartAt, IsNext, GivesToken}
use Rattle.gix_object_commit.specs.LineViews.{field_of}
use Rattle.gix_object_commit.specs.declared.header.HeaderRef.{HeaderRef}
use Rattle.gix_object_commit.proofs.FirstTold.{one_first, none_first}
use Rattle.gix_object_commit.proofs.NoMore.{none_told}
use Rattle.gix_object_commit.proofs.OnePart.{one_next}
use Rattle.gix_object_commit.proofs.Readings.{tells_one}

-- ---- one part is the first with a value, and it is left at one place

module _ {X : Type 0} (told : Part → Option X) where
  silent : (part : Part) (parts : List Part) (x : X) → told part ≡ Some x → filter_map told (part ∷ parts) ≡ [] → ⊥
  silent part parts x is none = let clash : None ≡ Some x = sym (none_told told (told part) (filter_map told parts) none).0 ∙ is in cc

  next_once : (here a b a' b' : Place) (p q : Part) (x y : X) (parts others : List Part) → Reads here parts a → filter_map told parts ≡ [] → IsNext a p b → told p ≡ Some x
      → Reads here others a' → filter_map told others ≡ [] → IsNext a' q b' → told q ≡ Some y → (p ≡ q) × (b ≡ b')
  next_once here a b a' b' p q x y [] [] reads none next is other none' next' is' =
      one_next a p q b b' next (subst (λ h. IsNext h q b') (sym other ∙ reads) next')
  next_once here a b a' b' p q x y [] (first ∷ others) reads none next is other none' next' is' =
      let same = one_next a p first b other.0 next (subst (λ h. IsNext h first other.0) reads other.1) in
      absurd (silent first others x (ap told (sym same.0) ∙ is) none')
  next_once here a b a' b' p q x y (first ∷ parts) [] reads none next is other none' next' is' =
      let same = one_next a' q first b' reads.0 next' (subst (λ h. IsNext h first reads.0) other reads.1) in
      absurd (silent first parts y (ap told (sym same.0) ∙ is') none)
  next_once here a b a' b' p q x y (part ∷ parts) (first ∷ others) reads none next is other none' next' is' =
      let same = one_next here part first reads.0 other.0 reads.1 other.1 in
      next_once reads.0 a b a' b' p q x y parts others reads.2 (none_told told (told part) (filter_map told parts) none).1 next is
      (subst (λ h. Reads h others a') (sym same.1) other.2) (none_told told (told first) (filter_map told others) none').1 next' is'

  pub first_next_once : (here a b a' b' : Place) (p q : Part) (x y : X) → Tells told here [] a → IsNext a p b → told p ≡ Some x → Tells told here [] a' → IsNext a' q b' → told q ≡ Some y → (p ≡ q) × (b ≡ b')
  first_next_once here a b a' b' p q x y tells next is tells' next' is' = next_once here a b a' b' p q x y tells.0 tells'.0 tells.1 tells.2 next is tells'.1 tells'.2 next' is'

-- ---- what a part takes from the input

pub part_text : (kind : Kind) (stage : Stage) (input : List ℕ) (part : Part) (rest : List ℕ) → IsPartAt kind stage input part rest → (text : List ℕ) × (input ≡ text ++ rest)
part_text kind stage input (Tree id) rest h = (hex_line (codes "tree") h.1.digits, h.1.spelled)
part_text kind stage input (Parent id) rest h = (hex_line (codes "parent") h.1.digits, h.1.spelled)
part_text kind stage input (Author person) rest h = (line (codes "author") (actor_line person), h.2)
part_text kind stage input (Committer person) rest h = (line (codes "committer") (actor_line person), h.2)
part_text kind stage input (Encoding name) rest h = (line (codes "encoding") name, h.2)
part_text kind stage input (Header field) rest h = (field_text field, h.3)
part_text kind stage input (Message message) rest h = (input, sym (ap (λ r. input ++ r) h.2 ∙ append-nil input))

-- what was before the rest, and one part more
pub front_more : (input : List ℕ) (mid after : Place) (token : Token) → (front : List ℕ) × (input ≡ front ++ mid.input) → GivesToken mid (Some (Ok token)) after → (front : List ℕ) × (input ≡ front ++ after.input)
front_more input mid after token so_far gives =
    let text = part_text mid.kind mid.stage mid.input (part_of token) after.input gives.0 in
    (so_far.0 ++ text.0, so_far.1 ∙ ap (λ t. so_far.0 ++ t) text.1 ∙ sym (append_assoc so_far.0 text.0 after.input))

pub front_within : (input rest : List ℕ) → (front : List ℕ) × (input ≡ front ++ rest) → length rest ≤ length input
front_within input rest so_far = let whole : length input ≡ length so_far.0 + length rest = ap length so_far.1 ∙ length-append so_far.0 rest in omega arith

pub front_is : (input rest : List ℕ) → (front : List ℕ) × (input ≡ front ++ rest) → input ≡ take (length input - length rest) input ++ rest
front_is input rest so_far =
    let whole : length input ≡ length so_far.0 + length rest = ap length so_far.1 ∙ length-append so_far.0 rest in
    let size : length input - length rest ≡ length so_far.0 = omega arith in
    let front : take (length input - length rest) input ≡ so_far.0 = ap (λ n. take n input) size ∙ ap (take (length so_far.0)) so_far.1 ∙ take-append_seam so_far.0 rest in
    so_far.1 ∙ ap (λ t. t ++ rest) (sym front)

-- ---- what is found

pub told_named : (kind : Kind) (field : Field) → field.name ≡ signature_name kind → signature_told kind (Header field) ≡ Some (Some field)
told_named kind field is =
    let same : is_named (signature_name kind) field ≡ true = ap (λ n. is_named n field) (sym is) ∙ nat_list_eq_equiv.refl field.name in
    ap (λ t. cond t (Some (Some field)) None) same

cut_same : (a b : Cut) → a.before ≡ b.before → a.header ≡ b.header → a.behind ≡ b.behind → a ≡ b
cut_same a b p q r = λ i. record { before = p i; header = q i; behind = r i }

header_same : (a b : Field) → Header a ≡ Header b → a ≡ b
header_same a b e = cc

pub signed_once : (kind : Kind) (input : List ℕ) (a b : Cut) → IsSigned kind input a → IsSigned kind input b → a ≡ b
signed_once kind input a b x y =
    let same = first_next_once (signature_told kind) (start kind input) x.at x.past y.at y.past (Header a.header) (Header b.header) (Some a.header) (Some b.header) x.none_before x.next (told_named kind a.header x.named) y.none_before y.next (told_named kind b.header y.named) in
    let header = header_same a.header b.header same.0 in
    let behind : a.behind ≡ b.behind = x.left ∙ ap (λ (p : Place). p.input) same.1 ∙ sym y.left in
    let tail : field_text a.header ++ a.behind ≡ field_text b.header ++ b.behind = λ i. field_text (header i) ++ behind i in
    cut_same a b (append_cancel_right a.before b.before (field_text b.header ++ b.behind) (ap (λ t. a.before ++ t) (sym tail) ∙ sym x.whole ∙ y.whole)) header behind

-- what is found comes first
pub finds_first : (kind : Kind) (input : List ℕ) (found : Option Cut) → FindsSignature kind input found → TellsFirst (signature_told kind) (start kind input) (option_map (λ (cut : Cut). cut.header) found)
finds_first kind input None first = first
finds_first kind input (Some cut) is =
    (is.past, tells_one (signature_told kind) (start kind input) is.at is.past (Header cut.header) (Some cut.header) is.none_before is.next (told_named kind cut.header is.named))

-- one answer fits
pub finds_once : (kind : Kind) (input : List ℕ) (a b : Option Cut) → FindsSignature kind input a → FindsSignature kind input b → a ≡ b
finds_once kind input None None x y = refl
finds_once kind input None (Some b) x y = absurd (let clash : None ≡ Some b.header = one_first (signature_told kind) (start kind input) None (Some b.header) x (finds_first kind input (Some b) y) in cc)
finds_once kind input (Some a) None x y = absurd (let clash : None ≡ Some a.header = one_first (signature_told kind) (start kind input) None (Some a.header) y (finds_first kind input (Some a) x) in cc)
finds_once kind input (Some a) (Some b) x y = ap (λ c. Some c) (signed_once kind input a b x y)

-- where the reader stops before it, nothing is found
pub none_found : (kind : Kind) (input : List ℕ) (error : Error) (found : Option Cut) → TellsNone (signature_told kind) (start kind input) error → FindsSignature kind input found → ⊥
none_found kind input error found none is = none_first (signature_told kind) (start kind input) error (option_map (λ (cut : Cut). cut.header) found) none (finds_first kind input found is)

-- ---- what the reader gives

given_same : (other given : Result Token Error) → ◌≡◌ {A = Result (Result Token Error) Error} (Ok other) (Ok given) → other ≡ given
given_same other given e = cc

-- the token that a call wants
pub gives_token : (mid after : Place) (o : Option (Result Token Error)) (r : Result (Result Token Error) Error) (given : Result Token Error) → GivesToken mid o after → r ≡ ok_or o FieldName → r ≡ Ok given → GivesToken mid (Some given) after
gives_token mid after None r given gives asked is = absurd (let clash : Err FieldName ≡ Ok given = sym asked ∙ is in cc)
gives_token mid after (Some other) r given gives asked is = subst (λ g. GivesToken mid (Some g) after) (given_same other given (sym asked ∙ is)) gives

-- none is left
pub gives_none : (mid after : Place) (o : Option (Result Token Error)) (r : Result (Result Token Error) Error) (error : Error) → GivesToken mid o after → r ≡ ok_or o FieldName → r ≡ Err error → GivesToken mid None after
gives_none mid after None r error gives asked is = gives
gives_none mid after (Some other) r error gives asked is = absurd (let clash : Ok other ≡ Err error = sym asked ∙ is in cc)

-- ---- what tokens hold

pub before_actors : (kind : Kind) (given : Token) → ((id : ObjectId) × (given ≡ token.Tree id)) ⊎ (((id : ObjectId) × (given ≡ token.Parent id)) ⊎ ((actor : ActorRef) × (given ≡ token.Author actor))) → signature_told kind (part_of given) ≡ None
before_actors kind given (inl is) = ap (λ t. signature_told kind (part_of t)) is.1
before_actors kind given (inr (inl is)) = ap (λ t. signature_told kind (part_of t)) is.1
before_actors kind given (inr (inr is)) = ap (λ t. signature_told kind (part_of t)) is.1

pub before_headers : (kind : Kind) (given : Token) → ((actor : ActorRef) × (given ≡ token.Committer actor)) ⊎ ((name : BStr) × (given ≡ token.Encoding name)) → signature_told kind (part_of given) ≡ None
before_headers kind given (inl is) = ap (λ t. signature_told kind (part_of t)) is.1
before_headers kind given (inr is) = ap (λ t. signature_told kind (part_of t)) is.1

pub told_by_name : (kind : Kind) (name : List ℕ) (field : Field) (found : Bool) → name ≡ signature_name kind → found ≡ is_named name field → signature_told kind (Header field) ≡ cond found (Some (Some field)) None
told_by_name kind name field found same is = ap (λ t. cond t (Some (Some field)) None) (sym (is ∙ ap (λ n. is_named n field) same))

pub named_so : (kind : Kind) (name : List ℕ) (field : Field) (found : Bool) → name ≡ signature_name kind → found ≡ is_named name field → found ≡ true → field.name ≡ signature_name kind
named_so kind name field found same is true_now = same_text field.name name (sym true_now ∙ is) ∙ same

-- ---- the signature that the reader comes to

cut_same_text : (rest front before tail : List ℕ) → front ≡ before → rest ≡ tail → front ++ rest ≡ before ++ tail
cut_same_text rest front before tail a b = λ i. a i ++ b i

pub signed_here : (kind : Kind) (input : List ℕ) (mid after : Place) (given : Result Token Error) (found : Token) (header : HeaderRef) (before behind : List ℕ) → Tells (signature_told kind) (start kind input) [] mid → (front : List ℕ) × (input ≡ front ++ mid.input)
    → GivesToken mid (Some given) after → given ≡ Ok found → found ≡ token.ExtraHeader header → (field_of header).name ≡ signature_name kind → before ≡ take (length input - length mid.input) input → behind ≡ after.input
    → IsSigned kind input (record { before = before; header = field_of header; behind = behind })
signed_here kind input mid after given found header before behind passed front gives ok is named cut left = record {
  at = mid;
  past = after;
  none_before = passed;
  next = next;
  named = named;
  whole = front_is input mid.input front ∙ cut_same_text mid.input (take (length input - length mid.input) input) before (field_text (field_of header) ++ behind) (sym cut) tail;
  left = left;
}
  where
    next : IsNext mid (Header (field_of header)) after
    next = subst (λ g. GivesToken mid (Some g) after) (ok ∙ ap (λ t. Ok t) is) gives

    tail : mid.input ≡ field_text (field_of header) ++ behind
    tail = next.0.3 ∙ ap (λ t. field_text (field_of header) ++ t) (sym left)
