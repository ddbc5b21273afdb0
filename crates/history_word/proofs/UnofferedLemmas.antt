-- A line of the table that isn't read is at no place of an offered command.
use Rattle.std.proofs.Common.{◌≡◌, Bool, true, false, List, [], ◌∷◌, Option, None, refl, sym, ◌∙◌, bytes_eq, codes, if◌then◌else◌}
use Rattle.std.proofs.lemmas.Slice.Eq.{bytes_eq-Decides}
use Rattle.history_model.specs.Bytes.{Bytes}
use Rattle.history_model.specs.Lines as lines
use Rattle.history_word.specs.LineTable as table
use Rattle.history_word.specs.LineTable.{name_heading_of, heading_of}
use Rattle.history_word.specs.TableRuns.{next_offered}
use Rattle.history_word.specs.declared.heading.Heading.{Heading}
use Rattle.history_word.specs.declared.place.Place.{Place}
use Rattle.history_word.specs.declared.place.Place.TheVariants as place
use Rattle.history_word.specs.Drafts.{place_of, Says}

abbrev pub Nowhere : lines.Heading → Type 0
Nowhere h = (p : Place) → next_offered (place_of p) h ≡ None

-- it is at none of the places, one by one
pub nowhere : (h : lines.Heading) → next_offered table.Start h ≡ None → next_offered table.Parents h ≡ None → next_offered table.Edits h ≡ None → next_offered table.ToCommitter h ≡ None → next_offered table.ToTagger h ≡ None → next_offered table.ToFirst h ≡ None
    → next_offered table.ToMore h ≡ None → next_offered table.ToMessage h ≡ None → next_offered table.ToEnd h ≡ None → Nowhere h
nowhere h start parents edits committer tagger first more message end place.Start = start
nowhere h start parents edits committer tagger first more message end place.Parents = parents
nowhere h start parents edits committer tagger first more message end place.Edits = edits
nowhere h start parents edits committer tagger first more message end place.Committer = committer
nowhere h start parents edits committer tagger first more message end place.Tagger = tagger
nowhere h start parents edits committer tagger first more message end place.ToFirst = first
nowhere h start parents edits committer tagger first more message end place.ToMore = more
nowhere h start parents edits committer tagger first more message end place.Message = message
nowhere h start parents edits committer tagger first more message end place.End = end
nowhere h start parents edits committer tagger first more message end place.Done = refl

-- ---- by the first word

-- the first word isn't this one, if a test for this one fails
pub is_other : (first word name : Bytes) (test : Bool) → (first ≡ word → test ≡ true) → word ≡ name → test ≡ false → bytes_eq first name ≡ false
is_other first word name test finds is fails = at (bytes_eq first name) refl
  where
    at : (b : Bool) → bytes_eq first name ≡ b → b ≡ false
    at true e = sym (finds ((bytes_eq-Decides first name).0 e ∙ sym is)) ∙ fails
    at false e = refl

passed : (said : Option Heading) (b : Bool) (x y : Option lines.Heading) → b ≡ false → Says said y → Says said (if b then x else y)
passed said true x y e f = cc
passed said false x y e f = f

-- a line whose first word is none of those that are tested first
pub said_behind : (said : Option Heading) (first : Bytes) (words : List Bytes) → bytes_eq first (codes "commit") ≡ false → bytes_eq first (codes "parent") ≡ false → bytes_eq first (codes "put") ≡ false → bytes_eq first (codes "remove") ≡ false
    → bytes_eq first (codes "remove-file") ≡ false → bytes_eq first (codes "graft") ≡ false → bytes_eq first (codes "author") ≡ false → bytes_eq first (codes "committer") ≡ false → bytes_eq first (codes "message") ≡ false → bytes_eq first (codes "end") ≡ false
    → bytes_eq first (codes "files") ≡ false → bytes_eq first (codes "show") ≡ false → Says said (name_heading_of first words) → Says said (heading_of (first ∷ words))
said_behind said first words commit parent put remove remove_file graft author committer message end files show names =
    passed said (bytes_eq first (codes "commit")) _ _ commit (
    passed said (bytes_eq first (codes "parent")) _ _ parent (
    passed said (bytes_eq first (codes "put")) _ _ put (
    passed said (bytes_eq first (codes "remove")) _ _ remove (
    passed said (bytes_eq first (codes "remove-file")) _ _ remove_file (
    passed said (bytes_eq first (codes "graft")) _ _ graft (
    passed said (bytes_eq first (codes "author")) _ _ author (
    passed said (bytes_eq first (codes "committer")) _ _ committer (
    passed said (bytes_eq first (codes "message")) _ _ message (
    passed said (bytes_eq first (codes "end")) _ _ end (
    passed said (bytes_eq first (codes "files")) _ _ files (
    passed said (bytes_eq first (codes "show")) _ _ show names)))))))))))

-- a line whose first word is none of those that are read
pub no_line_of : (first : Bytes) (words : List Bytes) → bytes_eq first (codes "tag") ≡ false → bytes_eq first (codes "tagger") ≡ false → bytes_eq first (codes "move") ≡ false → bytes_eq first (codes "to") ≡ false → bytes_eq first (codes "actor") ≡ false
    → bytes_eq first (codes "delete") ≡ false → bytes_eq first (codes "names") ≡ false → bytes_eq first (codes "past") ≡ false → bytes_eq first (codes "log") ≡ false → bytes_eq first (codes "switch") ≡ false → bytes_eq first (codes "rename") ≡ false → bytes_eq first (codes "index") ≡ false → bytes_eq first (codes "pack") ≡ false → Says None (name_heading_of first words)
no_line_of first words tag tagger move to actor delete names past log switch rename index pack =
    passed None (bytes_eq first (codes "tag")) _ _ tag (
    passed None (bytes_eq first (codes "tagger")) _ _ tagger (
    passed None (bytes_eq first (codes "move")) _ _ move (
    passed None (bytes_eq first (codes "to")) _ _ to (
    passed None (bytes_eq first (codes "actor")) _ _ actor (
    passed None (bytes_eq first (codes "rename")) _ _ rename (
    passed None (bytes_eq first (codes "delete")) _ _ delete (
    passed None (bytes_eq first (codes "switch")) _ _ switch (
    passed None (bytes_eq first (codes "pack")) _ _ pack (
    passed None (bytes_eq first (codes "index")) _ _ index (
    passed None (bytes_eq first (codes "names")) _ _ names (
    passed None (bytes_eq first (codes "past")) _ _ past (
    passed None (bytes_eq first (codes "log")) _ _ log tt))))))))))))
