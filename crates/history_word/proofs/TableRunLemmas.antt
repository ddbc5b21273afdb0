-- The parts that lead from the table's start to its end are those of a command.
use Rattle.std.proofs.Common.{◌≡◌, ◌≢◌, ℕ, zero, suc, ◌^◌, ◌<◌, ◌≤◌, Bool, true, false, ◌==◌, List, [], ◌∷◌, ◌++◌, length, map, refl, sym, ap, ◌∙◌, subst, Option, Some, None, option_map, option_and_then, codes, decimal, nat_lt, if◌then◌else◌, flat_map, arith, tests}
use Rattle.std.specs.List.{list_all}
use Rattle.history_model.specs.Bytes.{Bytes}
use Rattle.history_model.specs.Commands.{Command, Commit, Tag, Move, Rename, Delete, Switch, Pack, Index, Names, Files, Past, Log, Show, CommitCommand, Expect, EditLine, PutLine, RemoveLine, RemoveFileLine, GraftLine, To, Order, LogItem}
use Rattle.history_model.specs.Spelling.{Part, Line, Field, parts_of, expect_words, order_words, parents_word, item_word, kind_word, parent_part, edit_parts, to_part, actor_parts, message_parts, end_part, is_part, are_items, has_spelling, has_enough, path_words}
use Rattle.history_model.specs.Commands as commands
use Rattle.history_model.specs.Lines.{Role, Author, Committer, Tagger, Mover, Heading, CommitHeading, ParentHeading, PutHeading, RemoveHeading, RemoveFileHeading, GraftHeading, ActorHeading, MessageHeading, EndHeading, TagHeading, MoveHeading, ToHeading, RenameHeading, DeleteHeading, SwitchHeading, PackHeading, IndexHeading, NamesHeading, FilesHeading, PastHeading, LogHeading, ShowHeading, first_line}
use Rattle.history_model.specs.LineWords.{role_word, words_of, sizes, are_sizes, size_words}
use Rattle.history_word.specs.LineTable.{heading_of, Place, Start, Parents, Edits, ToCommitter, ToTagger, ToFirst, ToMore, ToMessage, ToEnd, Done, next_edit, next}
use Rattle.history_word.specs.TableRuns.{Progress, at, done, is_told, next_of, after_line_of, part_step_of, run_from_of, reached_of}
use Rattle.history_word.proofs.TableLines.{if_some, map_some, then_some, heading_told, heading_reads, some_same}
use Rattle.std.proofs.lemmas.Bool.{and_parts, and_from}

parts_tail : {p q : Part} {ps qs : List Part} → p ∷ ps ≡ q ∷ qs → ps ≡ qs
parts_tail e = cc

no_line : {A : Type 0} {p : Part} {ps : List Part} → [] ≡ p ∷ ps → A
no_line e = cc

-- of the commands whose first lines are offered
module _ (offers : Heading → Bool) where
  abbrev after_line : Place → Heading → Option Progress
  after_line = after_line_of offers

  abbrev part_step : List ℕ → Place → Part → Option Progress
  part_step = part_step_of offers

  abbrev run_from : Progress → List Part → Option Progress
  run_from = run_from_of offers

  abbrev reached : List Part → Option Progress
  reached = reached_of offers

  -- ---- steps

  -- what a line's step was
  pub record LineStep (place : Place) (words : List Bytes) (progress : Progress) : Type 0 where
    pub heading : Heading
    pub words_are : words ≡ words_of heading
    pub sized : are_sizes (sizes heading) ≡ true
    pub known : is_part (Line words) ≡ true
    pub following : Place
    pub stands : next_of offers place heading ≡ Some following
    pub fields : sizes heading ≡ progress.fields
    pub place_is : following ≡ progress.place

  pub line_step : (place : Place) (words : List Bytes) (progress : Progress) → part_step [] place (Line words) ≡ Some progress → LineStep place words progress
  line_step place words progress e =
      let part = if_some (is_part (Line words)) _ progress e in
      let line = then_some (after_line place) (heading_of words) progress part.1 in
      let told = heading_told words line.0 line.1 in
      let goes = map_some (λ following. at (sizes line.0) following) (next_of offers place line.0) progress line.2 in
      record {
        heading = line.0;
        words_are = told.0;
        sized = told.1;
        known = part.0;
        following = goes.0;
        stands = goes.1;
        fields = ap (λ p. p.fields) goes.2;
        place_is = ap (λ p. p.place) goes.2;
      }

  pub line_goes : (place following : Place) (heading : Heading) → next_of offers place heading ≡ Some following → is_part (Line (words_of heading)) ≡ true → are_sizes (sizes heading) ≡ true
      → part_step [] place (Line (words_of heading)) ≡ Some (at (sizes heading) following)
  line_goes place following heading stands known sized =
      taken (is_part (Line (words_of heading))) _ known
      ∙ ap (option_and_then (after_line place)) (heading_reads heading sized)
      ∙ ap (option_map (at (sizes heading))) stands
    where
      taken : {A : Type 0} (b : Bool) (x : Option A) → b ≡ true → (if b then x else None) ≡ x
      taken true x e = refl
      taken false x e = cc

  eq_self : (n : ℕ) → (n == n) ≡ true
  eq_self n = grind (arith, tests)

  pub field_goes : (bytes : Bytes) (fields : List ℕ) (place : Place) → part_step (length bytes ∷ fields) place (Field bytes) ≡ Some (at fields place)
  field_goes bytes fields place = ap (λ b. if b then Some (at fields place) else None) (eq_self (length bytes))

  pub field_step : (size : ℕ) (fields : List ℕ) (place : Place) (bytes : Bytes) (progress : Progress) → part_step (size ∷ fields) place (Field bytes) ≡ Some progress
      → (length bytes ≡ size) × (at fields place ≡ progress)
  field_step size fields place bytes progress e =
      let found = if_some (length bytes == size) (Some (at fields place)) progress e in
      (grind (arith, tests), some_same found.1)

  -- ---- runs

  under_append : (xs ys : List Part) → ((p : Progress) → run_from p (xs ++ ys) ≡ option_and_then (λ after. run_from after ys) (run_from p xs)) → (o : Option Progress)
      → option_and_then (λ after. run_from after (xs ++ ys)) o ≡ option_and_then (λ after. run_from after ys) (option_and_then (λ after. run_from after xs) o)
  under_append xs ys k None = refl
  under_append xs ys k (Some p) = k p

  pub run_append : (progress : Progress) (xs ys : List Part) → run_from progress (xs ++ ys) ≡ option_and_then (λ after. run_from after ys) (run_from progress xs)
  run_append progress [] ys = refl
  run_append progress (x ∷ xs) ys = under_append xs ys (λ p. run_append p xs ys) (part_step progress.fields progress.place x)

  -- parts of the table are parts, if the awaited lengths are lengths
  pub parts_fit : (parts : List Part) (fields : List ℕ) (place : Place) (q : Progress) → are_sizes fields ≡ true → run_from (at fields place) parts ≡ Some q
      → (list_all is_part parts ≡ true) × (are_sizes q.fields ≡ true)
  parts_fit [] fields place q s e = (refl, subst (λ p. are_sizes p.fields ≡ true) (some_same e) s)
  parts_fit (Line words ∷ parts) [] place q s e =
      let st = then_some (λ after. run_from after parts) (part_step [] place (Line words)) q e in
      let line = line_step place words st.0 st.1 in
      let rest = parts_fit parts st.0.fields st.0.place q (subst (λ f. are_sizes f ≡ true) line.fields line.sized) st.2 in
      (and_from (is_part (Line words)) (list_all is_part parts) line.known rest.0, rest.1)
  parts_fit (Line words ∷ parts) (size ∷ fields) place q s e = cc
  parts_fit (Field bytes ∷ parts) [] place q s e = cc
  parts_fit (Field bytes ∷ parts) (size ∷ fields) place q s e =
      let st = then_some (λ after. run_from after parts) (part_step (size ∷ fields) place (Field bytes)) q e in
      let field = field_step size fields place bytes st.0 st.1 in
      let both = and_parts (nat_lt size (2 ^ 64)) (are_sizes fields) s in
      let rest = parts_fit parts st.0.fields st.0.place q (subst (λ p. are_sizes p.fields ≡ true) field.1 both.1) st.2 in
      (and_from (nat_lt (length bytes) (2 ^ 64)) (list_all is_part parts) (subst (λ n. nat_lt n (2 ^ 64) ≡ true) (sym field.0) both.0) rest.0, rest.1)

  -- ---- what leads to the end

  record FieldRun (size : ℕ) (fields : List ℕ) (place : Place) (parts : List Part) : Type 0 where
    bytes : Bytes
    rest : List Part
    long : length bytes ≡ size
    is : parts ≡ Field bytes ∷ rest
    goes : run_from (at fields place) rest ≡ Some done

  field_run : (size : ℕ) (fields : List ℕ) (place : Place) (parts : List Part) → run_from (at (size ∷ fields) place) parts ≡ Some done → FieldRun size fields place parts
  field_run size fields place [] e = no_fields (ap (λ p. p.fields) (some_same e))
    where
      no_fields : {A : Type 0} {n : ℕ} {ns : List ℕ} → n ∷ ns ≡ [] → A
      no_fields e = cc
  field_run size fields place (Line words ∷ parts) e = cc
  field_run size fields place (Field bytes ∷ parts) e =
      let st = then_some (λ after. run_from after parts) (part_step (size ∷ fields) place (Field bytes)) done e in
      let field = field_step size fields place bytes st.0 st.1 in
      record { bytes = bytes; rest = parts; long = field.0; is = refl; goes = subst (λ p. run_from p parts ≡ Some done) (sym field.1) st.2 }

  -- all fields that are to come
  record FieldsRun (sizes : List ℕ) (place : Place) (parts : List Part) : Type 0 where
    fields : List Bytes
    rest : List Part
    long : map length fields ≡ sizes
    is : parts ≡ map Field fields ++ rest
    goes : run_from (at [] place) rest ≡ Some done

  fields_run : (sizes : List ℕ) (place : Place) (parts : List Part) → run_from (at sizes place) parts ≡ Some done → FieldsRun sizes place parts
  fields_run [] place parts e = record { fields = []; rest = parts; long = refl; is = refl; goes = e }
  fields_run (size ∷ sizes) place parts e =
      let first = field_run size sizes place parts e in
      let more = fields_run sizes place first.rest first.goes in
      record {
        fields = first.bytes ∷ more.fields;
        rest = more.rest;
        long = λ i. first.long i ∷ more.long i;
        is = first.is ∙ ap (λ ps. Field first.bytes ∷ ps) more.is;
        goes = more.goes;
      }

  none_behind : (parts : List Part) → parts ++ [] ≡ parts
  none_behind [] = refl
  none_behind (part ∷ parts) = ap (λ ps. part ∷ ps) (none_behind parts)

  -- the words of the paths are those of their lengths
  paths_words : (paths : List Bytes) → flat_map path_words paths ≡ flat_map size_words (map length paths)
  paths_words [] = refl
  paths_words (path ∷ paths) = ap (λ words. path_words path ++ words) (paths_words paths)

  record LineRun (place : Place) (parts : List Part) : Type 0 where
    heading : Heading
    following : Place
    rest : List Part
    is : parts ≡ Line (words_of heading) ∷ rest
    stands : next_of offers place heading ≡ Some following
    goes : run_from (at (sizes heading) following) rest ≡ Some done

  line_run : (place : Place) (parts : List Part) → place ≢ Done → run_from (at [] place) parts ≡ Some done → LineRun place parts
  line_run place [] live e = absurd (live (ap (λ p. p.place) (some_same e)))
  line_run place (Field bytes ∷ parts) live e = cc
  line_run place (Line words ∷ parts) live e =
      let st = then_some (λ after. run_from after parts) (part_step [] place (Line words)) done e in
      let line = line_step place words st.0 st.1 in
      record {
        heading = line.heading;
        following = line.following;
        rest = parts;
        is = ap (λ ws. Line ws ∷ parts) line.words_are;
        stands = line.stands;
        goes = subst (λ p. run_from p parts ≡ Some done) (λ i. at (sym line.fields i) (sym line.place_is i)) st.2;
      }

  -- after the end there is nothing
  done_run : (parts : List Part) → run_from (at [] Done) parts ≡ Some done → parts ≡ []
  done_run [] e = refl
  done_run (Field bytes ∷ parts) e = cc
  done_run (Line words ∷ parts) e =
      let st = then_some (λ after. run_from after parts) (part_step [] Done (Line words)) done e in
      let line = line_step Done words st.0 st.1 in
      nothing line.heading line.following line.stands
    where
      nothing : {A : Type 0} (h : Heading) (following : Place) → next_of offers Done h ≡ Some following → A
      nothing h following e = cc

  -- at the place that follows
  placed : (p q : Place) (fields : List ℕ) (parts : List Part) → Some p ≡ Some q → run_from (at fields q) parts ≡ Some done → run_from (at fields p) parts ≡ Some done
  placed p q fields parts same e = subst (λ place. run_from (at fields place) parts ≡ Some done) (sym (some_same same)) e

  end_line : (h : Heading) (following : Place) (rest : List Part) → next ToEnd h ≡ Some following → run_from (at (sizes h) following) rest ≡ Some done → Line (words_of h) ∷ rest ≡ end_part
  end_line EndHeading following rest s e = ap (λ ps. Line (codes "end" ∷ []) ∷ ps) (done_run rest (placed Done following [] rest s e))
  end_line h following rest s e = cc

  end_run : (parts : List Part) → run_from (at [] ToEnd) parts ≡ Some done → parts ≡ end_part
  end_run parts e = let line = line_run ToEnd parts (λ e. cc) e in line.is ∙ end_line line.heading line.following line.rest line.stands line.goes

  message_line : (h : Heading) (following : Place) (rest : List Part) → next ToMessage h ≡ Some following → run_from (at (sizes h) following) rest ≡ Some done
      → (message : Bytes) × (Line (words_of h) ∷ rest ≡ message_parts message ++ end_part)
  message_line (MessageHeading n) following rest s e =
      let f = field_run n [] following rest e in
      let ends = end_run f.rest (placed ToEnd following [] f.rest s f.goes) in
      let tail = f.is ∙ ap (λ ps. Field f.bytes ∷ ps) ends in
      (f.bytes, λ i. Line (codes "message" ∷ decimal (sym f.long i) ∷ []) ∷ tail i)
  message_line h following rest s e = cc

  message_run : (parts : List Part) → run_from (at [] ToMessage) parts ≡ Some done → (message : Bytes) × (parts ≡ message_parts message ++ end_part)
  message_run parts e =
      let line = line_run ToMessage parts (λ e. cc) e in
      let message = message_line line.heading line.following line.rest line.stands line.goes in
      (message.0, line.is ∙ message.1)

  -- the fields of an actor
  record ActorRun (role : Role) (following : Place) (m n : ℕ) (seconds offset : Bytes) (rest : List Part) : Type 0 where
    actor : commands.ActorLine
    more : List Part
    is : Line (words_of (ActorHeading role m n seconds offset)) ∷ rest ≡ actor_parts (role_word role) actor ++ more
    shorter : length more ≤ length rest
    goes : run_from (at [] following) more ≡ Some done

  actor_run : (role : Role) (following : Place) (m n : ℕ) (seconds offset : Bytes) (rest : List Part) → run_from (at (m ∷ n ∷ []) following) rest ≡ Some done → ActorRun role following m n seconds offset rest
  actor_run role following m n seconds offset rest e =
      let f = field_run m (n ∷ []) following rest e in
      let g = field_run n [] following f.rest f.goes in
      let tail = f.is ∙ ap (λ ps. Field f.bytes ∷ ps) g.is in
      let len : length rest ≡ suc (suc (length g.rest)) = ap length tail in
      record {
        actor = record { name = f.bytes; email = g.bytes; seconds = seconds; offset = offset };
        more = g.rest;
        is = λ i. Line (role_word role ∷ decimal (sym f.long i) ∷ decimal (sym g.long i) ∷ seconds ∷ offset ∷ []) ∷ tail i;
        shorter = omega arith;
        goes = g.goes;
      }

  -- an actor, the message and the end
  record ClosedRun (role : Role) (parts : List Part) : Type 0 where
    actor : commands.ActorLine
    message : Bytes
    is : parts ≡ actor_parts (role_word role) actor ++ (message_parts message ++ end_part)

  closed_run : (role : Role) (following : Place) (m n : ℕ) (seconds offset : Bytes) (rest : List Part) → Some ToMessage ≡ Some following → run_from (at (m ∷ n ∷ []) following) rest ≡ Some done
      → ClosedRun role (Line (words_of (ActorHeading role m n seconds offset)) ∷ rest)
  closed_run role following m n seconds offset rest s e =
      let a = actor_run role following m n seconds offset rest e in
      let message = message_run a.more (placed ToMessage following [] a.more s a.goes) in
      record { actor = a.actor; message = message.0; is = a.is ∙ ap (λ ps. actor_parts (role_word role) a.actor ++ ps) message.1 }

  committer_line : (h : Heading) (following : Place) (rest : List Part) → next ToCommitter h ≡ Some following → run_from (at (sizes h) following) rest ≡ Some done → ClosedRun Committer (Line (words_of h) ∷ rest)
  committer_line (ActorHeading Committer m n seconds offset) following rest s e = closed_run Committer following m n seconds offset rest s e
  committer_line h following rest s e = cc

  committer_run : (parts : List Part) → run_from (at [] ToCommitter) parts ≡ Some done → ClosedRun Committer parts
  committer_run parts e =
      let line = line_run ToCommitter parts (λ e. cc) e in
      let run = committer_line line.heading line.following line.rest line.stands line.goes in
      record { actor = run.actor; message = run.message; is = line.is ∙ run.is }

  tagger_line : (h : Heading) (following : Place) (rest : List Part) → next ToTagger h ≡ Some following → run_from (at (sizes h) following) rest ≡ Some done → ClosedRun Tagger (Line (words_of h) ∷ rest)
  tagger_line (ActorHeading Tagger m n seconds offset) following rest s e = closed_run Tagger following m n seconds offset rest s e
  tagger_line h following rest s e = cc

  tagger_run : (parts : List Part) → run_from (at [] ToTagger) parts ≡ Some done → ClosedRun Tagger parts
  tagger_run parts e =
      let line = line_run ToTagger parts (λ e. cc) e in
      let run = tagger_line line.heading line.following line.rest line.stands line.goes in
      record { actor = run.actor; message = run.message; is = line.is ∙ run.is }

  -- the lines of a move
  record MoveRun (parts : List Part) : Type 0 where
    to : List To
    behind : List Part
    closed : ClosedRun Mover behind
    is : parts ≡ map to_part to ++ behind

  more_line : (h : Heading) (following : Place) (rest : List Part) → ((e : run_from (at [] ToMore) rest ≡ Some done) → MoveRun rest)
      → next ToMore h ≡ Some following → run_from (at (sizes h) following) rest ≡ Some done → MoveRun (Line (words_of h) ∷ rest)
  more_line (ToHeading name expect word) following rest more s e =
      let run = more (placed ToMore following [] rest s e) in
      let to : To = record { name = name; expect = expect; word = word } in
      record { to = to ∷ run.to; behind = run.behind; closed = run.closed; is = ap (λ ps. to_part to ∷ ps) run.is }
  more_line (ActorHeading Mover m n seconds offset) following rest more s e =
      record { to = []; behind = Line (words_of (ActorHeading Mover m n seconds offset)) ∷ rest; closed = closed_run Mover following m n seconds offset rest s e; is = refl }
  more_line h following rest more s e = absurd (nothing h s)
    where
      nothing : (h : Heading) → None ≡ Some following → ⊥
      nothing h e = cc

  more_run : (parts : List Part) → run_from (at [] ToMore) parts ≡ Some done → MoveRun parts
  more_run [] e = no_line (line_run ToMore [] (λ e. cc) e).is
  more_run (Field bytes ∷ parts) e = cc
  more_run (Line words ∷ parts) e =
      let line = line_run ToMore (Line words ∷ parts) (λ e. cc) e in
      let rest : parts ≡ line.rest = parts_tail line.is in
      let run = more_line line.heading line.following parts (λ f. more_run parts f) line.stands (subst (λ ps. run_from (at (sizes line.heading) line.following) ps ≡ Some done) (sym rest) line.goes) in
      record { to = run.to; behind = run.behind; closed = run.closed; is = line.is ∙ ap (λ ps. Line (words_of line.heading) ∷ ps) (sym rest) ∙ run.is }

  -- of which there is one at least
  record FirstRun (parts : List Part) : Type 0 where
    first : To
    more : List Part
    run : MoveRun more
    is : parts ≡ to_part first ∷ more

  first_to : (h : Heading) (following : Place) (rest : List Part) → next ToFirst h ≡ Some following → run_from (at (sizes h) following) rest ≡ Some done → FirstRun (Line (words_of h) ∷ rest)
  first_to (ToHeading name expect word) following rest s e =
      record { first = record { name = name; expect = expect; word = word }; more = rest; run = more_run rest (placed ToMore following [] rest s e); is = refl }
  first_to h following rest s e = absurd (nothing h s)
    where
      nothing : (h : Heading) → None ≡ Some following → ⊥
      nothing h e = cc

  first_run : (parts : List Part) → run_from (at [] ToFirst) parts ≡ Some done → FirstRun parts
  first_run parts e =
      let line = line_run ToFirst parts (λ e. cc) e in
      let run = first_to line.heading line.following line.rest line.stands line.goes in
      record { first = run.first; more = run.more; run = run.run; is = line.is ∙ run.is }

  record EditsRun (parts : List Part) : Type 0 where
    edits : List EditLine
    author : commands.ActorLine
    committer : commands.ActorLine
    message : Bytes
    is : parts ≡ flat_map edit_parts edits ++ (actor_parts (codes "author") author ++ (actor_parts (codes "committer") committer ++ (message_parts message ++ end_part)))

  edits_line : (h : Heading) (following : Place) (rest : List Part) → ((parts : List Part) → length parts ≤ length rest → run_from (at [] Edits) parts ≡ Some done → EditsRun parts)
      → next_edit h ≡ Some following → run_from (at (sizes h) following) rest ≡ Some done → EditsRun (Line (words_of h) ∷ rest)
  edits_line (PutHeading kind m n) following rest more s e =
      let f = field_run m (n ∷ []) following rest e in
      let g = field_run n [] following f.rest f.goes in
      let tail = f.is ∙ ap (λ ps. Field f.bytes ∷ ps) g.is in
      let len : length rest ≡ suc (suc (length g.rest)) = ap length tail in
      let run = more g.rest (omega arith) (placed Edits following [] g.rest s g.goes) in
      let all = tail ∙ ap (λ ps. Field f.bytes ∷ Field g.bytes ∷ ps) run.is in
      record {
        edits = PutLine kind f.bytes g.bytes ∷ run.edits;
        author = run.author;
        committer = run.committer;
        message = run.message;
        is = λ i. Line (codes "put" ∷ kind_word kind ∷ decimal (sym f.long i) ∷ decimal (sym g.long i) ∷ []) ∷ all i;
      }
  edits_line (RemoveHeading m) following rest more s e =
      let f = field_run m [] following rest e in
      let len : length rest ≡ suc (length f.rest) = ap length f.is in
      let run = more f.rest (omega arith) (placed Edits following [] f.rest s f.goes) in
      let all = f.is ∙ ap (λ ps. Field f.bytes ∷ ps) run.is in
      record {
        edits = RemoveLine f.bytes ∷ run.edits;
        author = run.author;
        committer = run.committer;
        message = run.message;
        is = λ i. Line (codes "remove" ∷ decimal (sym f.long i) ∷ []) ∷ all i;
      }
  edits_line (RemoveFileHeading m) following rest more s e =
      let f = field_run m [] following rest e in
      let len : length rest ≡ suc (length f.rest) = ap length f.is in
      let run = more f.rest (omega arith) (placed Edits following [] f.rest s f.goes) in
      let all = f.is ∙ ap (λ ps. Field f.bytes ∷ ps) run.is in
      record {
        edits = RemoveFileLine f.bytes ∷ run.edits;
        author = run.author;
        committer = run.committer;
        message = run.message;
        is = λ i. Line (codes "remove-file" ∷ decimal (sym f.long i) ∷ []) ∷ all i;
      }
  edits_line (GraftHeading m word n) following rest more s e =
      let f = field_run m (n ∷ []) following rest e in
      let g = field_run n [] following f.rest f.goes in
      let tail = f.is ∙ ap (λ ps. Field f.bytes ∷ ps) g.is in
      let len : length rest ≡ suc (suc (length g.rest)) = ap length tail in
      let run = more g.rest (omega arith) (placed Edits following [] g.rest s g.goes) in
      let all = tail ∙ ap (λ ps. Field f.bytes ∷ Field g.bytes ∷ ps) run.is in
      record {
        edits = GraftLine f.bytes word g.bytes ∷ run.edits;
        author = run.author;
        committer = run.committer;
        message = run.message;
        is = λ i. Line (codes "graft" ∷ decimal (sym f.long i) ∷ word ∷ decimal (sym g.long i) ∷ []) ∷ all i;
      }
  edits_line (ActorHeading Author m n seconds offset) following rest more s e =
      let a = actor_run Author following m n seconds offset rest e in
      let run = committer_run a.more (placed ToCommitter following [] a.more s a.goes) in
      record { edits = []; author = a.actor; committer = run.actor; message = run.message; is = a.is ∙ ap (λ ps. actor_parts (codes "author") a.actor ++ ps) run.is }
  edits_line h following rest more s e = cc

  edits_run : (n : ℕ) (parts : List Part) → length parts < n → run_from (at [] Edits) parts ≡ Some done → EditsRun parts
  edits_run zero parts short e = absurd (omega arith)
  edits_run (suc n) parts short e =
      let line = line_run Edits parts (λ e. cc) e in
      let len : length parts ≡ suc (length line.rest) = ap length line.is in
      let run = edits_line line.heading line.following line.rest (λ ps le f. edits_run n ps (omega arith) f) line.stands line.goes in
      record { edits = run.edits; author = run.author; committer = run.committer; message = run.message; is = line.is ∙ run.is }

  record ParentsRun (parts : List Part) : Type 0 where
    parents : List Bytes
    behind : List Part
    edits : EditsRun behind
    is : parts ≡ map parent_part parents ++ behind

  parents_line : (h : Heading) (following : Place) (rest : List Part) → ((e : run_from (at [] Parents) rest ≡ Some done) → ParentsRun rest)
      → next Parents h ≡ Some following → run_from (at (sizes h) following) rest ≡ Some done → ParentsRun (Line (words_of h) ∷ rest)
  parents_line (ParentHeading word) following rest more s e =
      let run = more (placed Parents following [] rest s e) in
      record { parents = word ∷ run.parents; behind = run.behind; edits = run.edits; is = ap (λ ps. parent_part word ∷ ps) run.is }
  parents_line h following rest more s e =
      record { parents = []; behind = Line (words_of h) ∷ rest; edits = edits_line h following rest (λ ps le f. edits_run (suc (length rest)) ps (omega arith) f) s e; is = refl }

  parents_run : (parts : List Part) → run_from (at [] Parents) parts ≡ Some done → ParentsRun parts
  parents_run [] e = no_line (line_run Parents [] (λ e. cc) e).is
  parents_run (Field bytes ∷ parts) e = cc
  parents_run (Line words ∷ parts) e =
      let line = line_run Parents (Line words ∷ parts) (λ e. cc) e in
      let rest : parts ≡ line.rest = parts_tail line.is in
      let run = parents_line line.heading line.following parts (λ f. parents_run parts f) line.stands (subst (λ ps. run_from (at (sizes line.heading) line.following) ps ≡ Some done) (sym rest) line.goes) in
      record { parents = run.parents; behind = run.behind; edits = run.edits; is = line.is ∙ ap (λ ps. Line (words_of line.heading) ∷ ps) (sym rest) ∙ run.is }

  -- ---- commands

  -- the command, but for its parts' limits
  record StartRun (h : Heading) (parts : List Part) : Type 0 where
    command : Command
    enough : has_enough command ≡ true
    first : first_line command ≡ h
    is : parts_of command ≡ parts

  -- a command of one line
  alone : (h : Heading) (following : Place) (rest : List Part) (command : Command) → Some Done ≡ Some following → run_from (at [] following) rest ≡ Some done → has_enough command ≡ true → first_line command ≡ h
      → parts_of command ≡ Line (words_of h) ∷ [] → StartRun h (Line (words_of h) ∷ rest)
  alone h following rest command s e enough first is =
      record { command = command; enough = enough; first = first; is = is ∙ ap (λ ps. Line (words_of h) ∷ ps) (sym (done_run rest (placed Done following [] rest s e))) }

  start_line : (h : Heading) (following : Place) (rest : List Part) → next Start h ≡ Some following → run_from (at (sizes h) following) rest ≡ Some done → StartRun h (Line (words_of h) ∷ rest)
  start_line (CommitHeading name expect) following rest s e =
      let run = parents_run rest (placed Parents following [] rest s e) in
      let edits = run.edits in
      record {
        command = Commit (record { name = name; expect = expect; parents = run.parents; edits = edits.edits; author = edits.author; committer = edits.committer; message = edits.message });
        enough = refl;
        first = refl;
        is = ap (λ ps. Line (codes "commit" ∷ name ∷ expect_words expect) ∷ ps) (sym (run.is ∙ ap (λ ps. map parent_part run.parents ++ ps) edits.is));
      }
  start_line (TagHeading name expect word) following rest s e =
      let run = tagger_run rest (placed ToTagger following [] rest s e) in
      record {
        command = Tag (record { name = name; expect = expect; word = word; tagger = run.actor; message = run.message });
        enough = refl;
        first = refl;
        is = ap (λ ps. Line (codes "tag" ∷ name ∷ (expect_words expect ++ word ∷ [])) ∷ ps) (sym run.is);
      }
  start_line MoveHeading following rest s e =
      let first = first_run rest (placed ToFirst following [] rest s e) in
      let run = first.run in
      record {
        command = Move (record { to = first.first ∷ run.to; actor = run.closed.actor; message = run.closed.message });
        enough = refl;
        first = refl;
        is = ap (λ ps. Line (codes "move" ∷ []) ∷ ps) (sym (first.is ∙ ap (λ ps. to_part first.first ∷ ps) (run.is ∙ ap (λ ps. map to_part run.to ++ ps) run.closed.is)));
      }
  start_line (RenameHeading old new) following rest s e = alone (RenameHeading old new) following rest (Rename old new) s e refl refl refl
  start_line (DeleteHeading name at) following rest s e = alone (DeleteHeading name at) following rest (Delete name at) s e refl refl refl
  start_line (SwitchHeading name) following rest s e = alone (SwitchHeading name) following rest (Switch name) s e refl refl refl
  start_line PackHeading following rest s e = alone PackHeading following rest Pack s e refl refl refl
  start_line IndexHeading following rest s e = alone IndexHeading following rest Index s e refl refl refl
  start_line (NamesHeading folder) following rest s e = alone (NamesHeading folder) following rest (Names folder) s e refl refl refl
  start_line (FilesHeading word) following rest s e = alone (FilesHeading word) following rest (Files word) s e refl refl refl
  start_line (PastHeading name) following rest s e = alone (PastHeading name) following rest (Past name) s e refl refl refl
  start_line (LogHeading order first items ns) following rest s e =
      let found = if_some (are_items items) (Some Done) following s in
      let f = fields_run ns following rest e in
      let tail = f.is ∙ ap (λ ps. map Field f.fields ++ ps) (done_run f.rest (placed Done following [] f.rest found.1 f.goes)) ∙ none_behind (map Field f.fields) in
      record {
        command = Log (record { order = order; first_parents = first; items = items; paths = f.fields });
        enough = found.0;
        first = ap (λ ks. LogHeading order first items ks) f.long;
        is = λ i. Line (codes "log" ∷ (order_words order ++ (parents_word first ∷ (map item_word items ++ (paths_words f.fields ∙ ap (flat_map size_words) f.long) i)))) ∷ sym tail i;
      }
  start_line (ShowHeading word None) following rest s e = alone (ShowHeading word None) following rest (Show word None) s e refl refl refl
  start_line (ShowHeading word (Some n)) following rest s e =
      let f = field_run n [] following rest e in
      let tail = f.is ∙ ap (λ ps. Field f.bytes ∷ ps) (done_run f.rest (placed Done following [] f.rest s f.goes)) in
      record {
        command = Show word (Some f.bytes);
        enough = refl;
        first = ap (λ k. ShowHeading word (Some k)) f.long;
        is = λ i. Line (codes "show" ∷ word ∷ codes "path" ∷ decimal (f.long i) ∷ []) ∷ sym tail i;
      }
  start_line h following rest s e = absurd (nothing h s)
    where
      nothing : (h : Heading) → None ≡ Some following → ⊥
      nothing h e = cc

  pub commands_run : (parts : List Part) → reached parts ≡ Some done → (command : Command) × (is_told offers command ≡ true) × (parts_of command ≡ parts)
  commands_run parts e =
      let line = line_run Start parts (λ e. cc) e in
      let found = if_some (offers line.heading) (next Start line.heading) line.following line.stands in
      let run = start_line line.heading line.following line.rest found.1 line.goes in
      let is = run.is ∙ sym line.is in
      let parts_are = subst (λ ps. list_all is_part ps ≡ true) (sym is) (parts_fit parts [] Start done refl e).0 in (
        run.command,
        and_from (has_spelling run.command) (offers (first_line run.command)) (and_from (list_all is_part (parts_of run.command)) (has_enough run.command) parts_are run.enough) (subst (λ h. offers h ≡ true) (sym run.first) found.0),
        is,
      )
