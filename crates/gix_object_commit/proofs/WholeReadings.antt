-- Readings that end with the message are those of commits.
use Rattle.std.proofs.Common.{◌≡◌, ◌∙◌, ap, refl, sym, subst, ℕ, zero, suc, ◌<◌, Bool, true, false, List, [], ◌∷◌, ◌++◌, length, length-append, arith}
use Rattle.std.specs.Prelude.{codes}
use Rattle.gix_hash.specs.declared.kind.Kind.{Kind}
use Rattle.gix_object_lines.specs.Person.{actor_line}
use Rattle.gix_object_commit.specs.declared.ref_iter.Stage.{Stage}
use Rattle.gix_object_commit.specs.Commit.{line}
use Rattle.gix_object_commit.specs.ReadingOn.{Reads}
use Rattle.gix_object_commit.specs.Tokens.{Part, Tree, Parent, Author, Committer, Encoding, Header, Message, IsPartAt, Place, start, stage_after}
use Rattle.gix_object_commit.specs.Whole.{IsCommit, ReadsToMessage, is_message}
use Rattle.gix_object_commit.proofs.Left.{IsFrom, IsReadSoFar, commit_to, has_part, none_read, one_read, step_on, whole_is}
use Rattle.gix_object_commit.proofs.Lines.{field_shorter}

-- ---- a reading to the message is one of a commit

abbrev last_is : Bool → List Part → Bool
last_is whole [] = whole
last_is whole (part ∷ parts) = last_is (is_message part) parts

read_on : (kind : Kind) (input : List ℕ) (here there : Place) (parts : List Part) (whole : Bool) → here.kind ≡ kind → IsReadSoFar kind input here.stage here.input whole → Reads here parts there
    → IsReadSoFar kind input there.stage there.input (last_is whole parts)
read_on kind input here there [] whole same so_far reads = subst (λ (p : Place). IsReadSoFar kind input p.stage p.input whole) reads so_far
read_on kind input here there (part ∷ parts) whole same so_far (next, is, reads) =
    let one = one_read kind input here.stage here.input whole part next.input so_far (subst (λ k. IsPartAt k here.stage here.input part next.input) same is.0) in
    read_on kind input next there parts (is_message part) (is.2 ∙ same) (subst (λ s. IsReadSoFar kind input s next.input (is_message part)) (sym is.1) one) reads

last_message : (whole : Bool) (parts : List Part) (message : List ℕ) → last_is whole (parts ++ Message message ∷ []) ≡ true
last_message whole [] message = refl
last_message whole (part ∷ parts) message = last_message (is_message part) parts message

pub is_commit : (kind : Kind) (input : List ℕ) → ReadsToMessage (start kind input) → IsCommit kind input
is_commit kind input (parts, message, there, reads) =
    let all = parts ++ Message message ∷ [] in
    whole_is kind input there.stage there.input (last_is false all) (read_on kind input (start kind input) there all false refl (none_read kind input) reads) (last_message false parts message)

-- ---- and each commit has one

line_shorter : (word text rest input : List ℕ) → input ≡ line word text ++ rest → length rest < length input
line_shorter word text rest input is = omega (arith, ap length is, length-append (line word text) rest, length-append word (32 ∷ (text ++ 10 ∷ [])))

part_shorter : (kind : Kind) (stage : Stage) (input : List ℕ) (part : Part) (rest : List ℕ) → IsPartAt kind stage input part rest → length rest < length input
part_shorter kind stage input (Tree id) rest is = line_shorter (codes "tree") is.1.digits rest input is.1.spelled
part_shorter kind stage input (Parent id) rest is = line_shorter (codes "parent") is.1.digits rest input is.1.spelled
part_shorter kind stage input (Author person) rest is = line_shorter (codes "author") (actor_line person) rest input is.2
part_shorter kind stage input (Committer person) rest is = line_shorter (codes "committer") (actor_line person) rest input is.2
part_shorter kind stage input (Encoding name) rest is = line_shorter (codes "encoding") name rest input is.2
part_shorter kind stage input (Header field) rest is = field_shorter input rest field is.3
part_shorter kind stage input (Message message) rest is = omega (arith, ap length is.1, ap length is.2)

abbrev behind : Kind → Part → List ℕ → Place
behind kind part rest = record { kind = kind; stage = stage_after part; input = rest }

more : (here : Place) (part : Part) (rest : List ℕ) → IsPartAt here.kind here.stage here.input part rest → ReadsToMessage (behind here.kind part rest) → ReadsToMessage here
more here part rest is (parts, message, there, reads) = (part ∷ parts, message, there, (behind here.kind part rest, (is, refl, refl), reads))

last : (here : Place) (message rest : List ℕ) → IsPartAt here.kind here.stage here.input (Message message) rest → ReadsToMessage here
last here message rest is = ([], message, behind here.kind (Message message) rest, (behind here.kind (Message message) rest, (is, refl, refl), refl))

reading : (n : ℕ) (here : Place) → length here.input < n → IsFrom here.kind here.stage here.input → ReadsToMessage here
reading zero here small from = absurd (omega arith)
reading (suc n) here small from =
    let next = has_part here.kind here.stage here.input from in
    go (λ later. reading n later) next.0 next.1 next.2
  where
    on : ((later : Place) → length later.input < n → IsFrom later.kind later.stage later.input → ReadsToMessage later) → (part : Part) (rest : List ℕ) → IsPartAt here.kind here.stage here.input part rest
        → IsFrom here.kind (stage_after part) rest → ReadsToMessage here
    on further part rest is later =
        let less = part_shorter here.kind here.stage here.input part rest is in
        more here part rest is (further (behind here.kind part rest) (omega (arith, small, less)) later)

    go : ((later : Place) → length later.input < n → IsFrom later.kind later.stage later.input → ReadsToMessage later) → (part : Part) (rest : List ℕ) → IsPartAt here.kind here.stage here.input part rest → ReadsToMessage here
    go further (Tree id) rest is = on further (Tree id) rest is (step_on here.kind here.stage here.input (Tree id) rest is from)
    go further (Parent id) rest is = on further (Parent id) rest is (step_on here.kind here.stage here.input (Parent id) rest is from)
    go further (Author person) rest is = on further (Author person) rest is (step_on here.kind here.stage here.input (Author person) rest is from)
    go further (Committer person) rest is = on further (Committer person) rest is (step_on here.kind here.stage here.input (Committer person) rest is from)
    go further (Encoding name) rest is = on further (Encoding name) rest is (step_on here.kind here.stage here.input (Encoding name) rest is from)
    go further (Header field) rest is = on further (Header field) rest is (step_on here.kind here.stage here.input (Header field) rest is from)
    go further (Message message) rest is = last here message rest is

pub is_read : (kind : Kind) (input : List ℕ) → IsCommit kind input → ReadsToMessage (start kind input)
is_read kind input is = reading (suc (length input)) (start kind input) (omega arith) (commit_to kind input is)
