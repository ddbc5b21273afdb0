-- The table leads from its start to its end over a command's parts, and from anywhere to its end.
use Rattle.std.proofs.Common.{◌≡◌, ◌≢◌, ◌↔◌, ℕ, Bool, true, not, ◌&&◌, List, [], ◌∷◌, ◌++◌, length, map, replicate, refl, sym, ap, ◌∙◌, subst, Option, Some, None, option_and_then, codes, flat_map}
use Rattle.std.specs.List.{list_all, join_with_byte}
use Rattle.std.specs.Fmt.{digits}
use Rattle.history_model.specs.Bytes.{Bytes, line, is_empty}
use Rattle.history_model.specs.Commands.{Command, Commit, Tag, Move, Rename, Delete, Switch, Pack, Index, Names, Files, Past, Log, Show, CommitCommand, Expect, EditLine, PutLine, RemoveLine, RemoveFileLine, GraftLine, To, Order, LogItem}
use Rattle.history_model.specs.Spelling.{Part, Line, Field, parts_of, edit_parts, to_part, actor_parts, message_parts, end_part, signed_parts, parent_part, is_part, are_items, has_spelling, has_enough, order_words, parents_word, item_word, path_words}
use Rattle.history_model.specs.Commands as commands
use Rattle.history_model.specs.Grammar.{GoesOnOf, LineStandsOf, FieldStandsOf, LineFitsOf}
use Rattle.history_word.specs.LineTable as whole
use Rattle.history_model.specs.Lines.{Role, Author, Committer, Tagger, Mover, Heading, CommitHeading, ParentHeading, PutHeading, RemoveHeading, RemoveFileHeading, GraftHeading, ActorHeading, MessageHeading, EndHeading, TagHeading, MoveHeading, ToHeading, RenameHeading, DeleteHeading, SwitchHeading, PackHeading, IndexHeading, NamesHeading, FilesHeading, PastHeading, LogHeading, ShowHeading, first_line}
use Rattle.history_model.specs.LineWords.{role_word, words_of, size_words, sizes, are_sizes}
use Rattle.history_word.specs.LineTable.{Place, Start, Parents, Edits, ToCommitter, ToTagger, ToFirst, ToMore, ToMessage, ToEnd, Done, next_edit}
use Rattle.history_word.specs.TableRuns.{Progress, at, begin, done, is_told, next_of, part_step_of, run_from_of, reached_of, IsLineAtOf}
use Rattle.std.proofs.lemmas.List.{length-replicate}
use Rattle.history_model.proofs.PartLemmas.{head_same, tail_same}
use Rattle.history_word.proofs.TableLines.{if_taken, then_some}
use Rattle.history_word.proofs.TableRunLemmas.{line_step, line_goes, field_goes, run_append, commands_run}
use Rattle.std.proofs.lemmas.Bool.{and_parts, and_from}

-- a field of this length
zeros : ℕ → Bytes
zeros size = replicate size 0

zeros_long : (size : ℕ) → length (zeros size) ≡ size
unfolding zeros
zeros_long size = length-replicate size 0

behind : (parts : List Part) (part : Part) (more : List Part) → (parts ++ part ∷ []) ++ more ≡ parts ++ part ∷ more
behind [] part more = refl
behind (p ∷ parts) part more = ap (λ ps. p ∷ ps) (behind parts part more)

lines_same : (s t : Bytes) → line s ≡ line t → s ≡ t
lines_same [] [] e = refl
lines_same [] (b ∷ []) e = cc
lines_same [] (b ∷ c ∷ t) e = cc
lines_same (b ∷ []) [] e = cc
lines_same (b ∷ c ∷ s) [] e = cc
lines_same (b ∷ s) (c ∷ t) e = λ i. head_same e i ∷ lines_same s t (tail_same e) i

-- of the commands whose first lines are offered, that of `files HEAD` among them
module _ (offers : Heading → Bool) (some_offered : offers (FilesHeading (codes "HEAD")) ≡ true) where
  abbrev next : Place → Heading → Option Place
  next = next_of offers

  abbrev part_step : List ℕ → Place → Part → Option Progress
  part_step = part_step_of offers

  abbrev run_from : Progress → List Part → Option Progress
  run_from = run_from_of offers

  abbrev reached : List Part → Option Progress
  reached = reached_of offers

  abbrev GoesOn : List Part → Part → Type 0
  GoesOn = GoesOnOf (is_told offers)

  abbrev LineStands : List Part → Type 0
  LineStands = LineStandsOf (is_told offers)

  abbrev FieldStands : List Part → ℕ → Type 0
  FieldStands = FieldStandsOf (is_told offers)

  abbrev LineFits : List Part → Bytes → Type 0
  LineFits = LineFitsOf (is_told offers)

  abbrev IsLineAt : Place → Bytes → Type 0
  IsLineAt = IsLineAtOf offers

  -- ---- a command's parts

  run_line : (place following : Place) (h : Heading) (rest : List Part) → next place h ≡ Some following → is_part (Line (words_of h)) ≡ true → are_sizes (sizes h) ≡ true
      → run_from (at [] place) (Line (words_of h) ∷ rest) ≡ run_from (at (sizes h) following) rest
  run_line place following h rest stands known sized = ap (option_and_then (λ after. run_from after rest)) (line_goes offers place following h stands known sized)

  run_field : (bytes : Bytes) (fields : List ℕ) (place : Place) (rest : List Part) → run_from (at (length bytes ∷ fields) place) (Field bytes ∷ rest) ≡ run_from (at fields place) rest
  run_field bytes fields place rest = ap (option_and_then (λ after. run_from after rest)) (field_goes offers bytes fields place)

  -- a line with two fields
  two_fields : (place following : Place) (h : Heading) (a b : Bytes) (rest : List Part) → sizes h ≡ length a ∷ length b ∷ [] → next place h ≡ Some following
      → list_all is_part (Line (words_of h) ∷ Field a ∷ Field b ∷ rest) ≡ true
      → (run_from (at [] place) (Line (words_of h) ∷ Field a ∷ Field b ∷ rest) ≡ run_from (at [] following) rest) × (list_all is_part rest ≡ true)
  two_fields place following h a b rest told stands parts =
      let first = and_parts (is_part (Line (words_of h))) (list_all is_part (Field a ∷ Field b ∷ rest)) parts in
      let second = and_parts (is_part (Field a)) (list_all is_part (Field b ∷ rest)) first.1 in
      let third = and_parts (is_part (Field b)) (list_all is_part rest) second.1 in
      let sized : are_sizes (length a ∷ length b ∷ []) ≡ true = and_from (is_part (Field a)) (is_part (Field b) && true) second.0 (and_from (is_part (Field b)) true third.0 refl) in (
        run_line place following h (Field a ∷ Field b ∷ rest) stands first.0 (subst (λ ns. are_sizes ns ≡ true) (sym told) sized)
            ∙ ap (λ ns. run_from (at ns following) (Field a ∷ Field b ∷ rest)) told
            ∙ run_field a (length b ∷ []) following (Field b ∷ rest)
            ∙ run_field b [] following rest,
        third.1,
      )

  one_field : (place following : Place) (h : Heading) (a : Bytes) (rest : List Part) → sizes h ≡ length a ∷ [] → next place h ≡ Some following
      → list_all is_part (Line (words_of h) ∷ Field a ∷ rest) ≡ true
      → (run_from (at [] place) (Line (words_of h) ∷ Field a ∷ rest) ≡ run_from (at [] following) rest) × (list_all is_part rest ≡ true)
  one_field place following h a rest told stands parts =
      let first = and_parts (is_part (Line (words_of h))) (list_all is_part (Field a ∷ rest)) parts in
      let second = and_parts (is_part (Field a)) (list_all is_part rest) first.1 in
      let sized : are_sizes (length a ∷ []) ≡ true = and_from (is_part (Field a)) true second.0 refl in (
        run_line place following h (Field a ∷ rest) stands first.0 (subst (λ ns. are_sizes ns ≡ true) (sym told) sized)
            ∙ ap (λ ns. run_from (at ns following) (Field a ∷ rest)) told
            ∙ run_field a [] following rest,
        second.1,
      )

  no_field : (place following : Place) (h : Heading) (rest : List Part) → sizes h ≡ [] → next place h ≡ Some following → list_all is_part (Line (words_of h) ∷ rest) ≡ true
      → (run_from (at [] place) (Line (words_of h) ∷ rest) ≡ run_from (at [] following) rest) × (list_all is_part rest ≡ true)
  no_field place following h rest told stands parts =
      let first = and_parts (is_part (Line (words_of h))) (list_all is_part rest) parts in (
        run_line place following h rest stands first.0 (subst (λ ns. are_sizes ns ≡ true) (sym told) refl) ∙ ap (λ ns. run_from (at ns following) rest) told,
        first.1,
      )

  actor_reach : (role : Role) (place following : Place) (a : commands.ActorLine) (rest : List Part) → next place (ActorHeading role (length a.name) (length a.email) a.seconds a.offset) ≡ Some following
      → list_all is_part (actor_parts (role_word role) a ++ rest) ≡ true
      → (run_from (at [] place) (actor_parts (role_word role) a ++ rest) ≡ run_from (at [] following) rest) × (list_all is_part rest ≡ true)
  actor_reach role place following a rest stands parts = two_fields place following (ActorHeading role (length a.name) (length a.email) a.seconds a.offset) a.name a.email rest refl stands parts

  -- after the parents and after an edit, the same lines may follow
  EditPlace : Place → Type 0
  EditPlace place = (h : Heading) (following : Place) → next_edit h ≡ Some following → next place h ≡ Some following

  at_parents : EditPlace Parents
  unfolding EditPlace
  at_parents (ParentHeading word) following s = cc
  at_parents h following s = s

  at_edits : EditPlace Edits
  unfolding EditPlace
  at_edits h following s = s

  edits_reach : (place : Place) (edits : List EditLine) (a : commands.ActorLine) (rest : List Part) → EditPlace place
      → list_all is_part (flat_map edit_parts edits ++ (actor_parts (codes "author") a ++ rest)) ≡ true
      → (run_from (at [] place) (flat_map edit_parts edits ++ (actor_parts (codes "author") a ++ rest)) ≡ run_from (at [] ToCommitter) rest) × (list_all is_part rest ≡ true)
  unfolding EditPlace
  edits_reach place [] a rest here parts = actor_reach Author place ToCommitter a rest (here (ActorHeading Author (length a.name) (length a.email) a.seconds a.offset) ToCommitter refl) parts
  edits_reach place (PutLine kind path content ∷ edits) a rest here parts =
      let behind = flat_map edit_parts edits ++ (actor_parts (codes "author") a ++ rest) in
      let h : Heading = PutHeading kind (length path) (length content) in
      let first = two_fields place Edits h path content behind refl (here h Edits refl) parts in
      let more = edits_reach Edits edits a rest at_edits first.1 in
      (first.0 ∙ more.0, more.1)
  edits_reach place (RemoveLine path ∷ edits) a rest here parts =
      let behind = flat_map edit_parts edits ++ (actor_parts (codes "author") a ++ rest) in
      let h : Heading = RemoveHeading (length path) in
      let first = one_field place Edits h path behind refl (here h Edits refl) parts in
      let more = edits_reach Edits edits a rest at_edits first.1 in
      (first.0 ∙ more.0, more.1)
  edits_reach place (RemoveFileLine path ∷ edits) a rest here parts =
      let behind = flat_map edit_parts edits ++ (actor_parts (codes "author") a ++ rest) in
      let h : Heading = RemoveFileHeading (length path) in
      let first = one_field place Edits h path behind refl (here h Edits refl) parts in
      let more = edits_reach Edits edits a rest at_edits first.1 in
      (first.0 ∙ more.0, more.1)
  edits_reach place (GraftLine path word source ∷ edits) a rest here parts =
      let behind = flat_map edit_parts edits ++ (actor_parts (codes "author") a ++ rest) in
      let h : Heading = GraftHeading (length path) word (length source) in
      let first = two_fields place Edits h path source behind refl (here h Edits refl) parts in
      let more = edits_reach Edits edits a rest at_edits first.1 in
      (first.0 ∙ more.0, more.1)

  parents_reach : (parents : List Bytes) (rest : List Part) → list_all is_part (map parent_part parents ++ rest) ≡ true
      → (run_from (at [] Parents) (map parent_part parents ++ rest) ≡ run_from (at [] Parents) rest) × (list_all is_part rest ≡ true)
  parents_reach [] rest parts = (refl, parts)
  parents_reach (word ∷ parents) rest parts =
      let first = no_field Parents Parents (ParentHeading word) (map parent_part parents ++ rest) refl refl parts in
      let more = parents_reach parents rest first.1 in
      (first.0 ∙ more.0, more.1)

  message_reach : (message : Bytes) → list_all is_part (message_parts message ++ end_part) ≡ true → run_from (at [] ToMessage) (message_parts message ++ end_part) ≡ Some done
  message_reach message parts =
      let first = one_field ToMessage ToEnd (MessageHeading (length message)) message end_part refl refl parts in
      first.0 ∙ (no_field ToEnd Done EndHeading [] refl refl first.1).0

  closed_reach : (role : Role) (place : Place) (a : commands.ActorLine) (message : Bytes) → next place (ActorHeading role (length a.name) (length a.email) a.seconds a.offset) ≡ Some ToMessage
      → list_all is_part (actor_parts (role_word role) a ++ (message_parts message ++ end_part)) ≡ true
      → run_from (at [] place) (actor_parts (role_word role) a ++ (message_parts message ++ end_part)) ≡ Some done
  closed_reach role place a message stands parts =
      let actor = actor_reach role place ToMessage a (message_parts message ++ end_part) stands parts in
      actor.0 ∙ message_reach message actor.1

  to_reach : (lines : List To) (rest : List Part) → list_all is_part (map to_part lines ++ rest) ≡ true
      → (run_from (at [] ToMore) (map to_part lines ++ rest) ≡ run_from (at [] ToMore) rest) × (list_all is_part rest ≡ true)
  to_reach [] rest parts = (refl, parts)
  to_reach (to ∷ lines) rest parts =
      let first = no_field ToMore ToMore (ToHeading to.name to.expect to.word) (map to_part lines ++ rest) refl refl parts in
      let more = to_reach lines rest first.1 in
      (first.0 ∙ more.0, more.1)

  -- the line that begins a command, if it is offered
  begins : (h : Heading) (following : Place) → offers h ≡ true → whole.next Start h ≡ Some following → next Start h ≡ Some following
  begins h following offered stands = if_taken (offers h) (whole.next Start h) offered ∙ stands

  alone_reaches : (h : Heading) → sizes h ≡ [] → whole.next Start h ≡ Some Done → offers h ≡ true → list_all is_part (Line (words_of h) ∷ []) ≡ true → reached (Line (words_of h) ∷ []) ≡ Some done
  alone_reaches h none stands offered parts = (no_field Start Done h [] none (begins h Done offered stands) parts).0

  path_reaches : (h : Heading) (path : Bytes) → sizes h ≡ length path ∷ [] → whole.next Start h ≡ Some Done → offers h ≡ true → list_all is_part (Line (words_of h) ∷ Field path ∷ []) ≡ true
      → reached (Line (words_of h) ∷ Field path ∷ []) ≡ Some done
  path_reaches h path one stands offered parts = (one_field Start Done h path [] one (begins h Done offered stands) parts).0

  fields_reach : (fields : List Bytes) (following : Place) → run_from (at (map length fields) following) (map Field fields) ≡ Some (at [] following)
  fields_reach [] following = refl
  fields_reach (field ∷ fields) following = run_field field (map length fields) following (map Field fields) ∙ fields_reach fields following

  fields_sized : (fields : List Bytes) → list_all is_part (map Field fields) ≡ true → are_sizes (map length fields) ≡ true
  fields_sized [] parts = refl
  fields_sized (field ∷ fields) parts =
      let both = and_parts (is_part (Field field)) (list_all is_part (map Field fields)) parts in
      and_from (is_part (Field field)) (are_sizes (map length fields)) both.0 (fields_sized fields both.1)

  -- a command of one line with these fields after it
  paths_reach : (h : Heading) (paths : List Bytes) → sizes h ≡ map length paths → whole.next Start h ≡ Some Done → offers h ≡ true → list_all is_part (Line (words_of h) ∷ map Field paths) ≡ true
      → reached (Line (words_of h) ∷ map Field paths) ≡ Some done
  paths_reach h paths told stands offered parts =
      let first = and_parts (is_part (Line (words_of h))) (list_all is_part (map Field paths)) parts in
      run_line Start Done h (map Field paths) (begins h Done offered stands) first.0 (subst (λ ns. are_sizes ns ≡ true) (sym told) (fields_sized paths first.1))
      ∙ ap (λ ns. run_from (at ns Done) (map Field paths)) told
      ∙ fields_reach paths Done

  -- the words of the paths are those of their lengths
  paths_words : (paths : List Bytes) → flat_map path_words paths ≡ flat_map size_words (map length paths)
  paths_words [] = refl
  paths_words (path ∷ paths) = ap (λ words. path_words path ++ words) (paths_words paths)

  move_reaches : (to : List To) (a : commands.ActorLine) (message : Bytes) → not (is_empty to) ≡ true → list_all is_part (map to_part to ++ (actor_parts (codes "actor") a ++ (message_parts message ++ end_part))) ≡ true
      → run_from (at [] ToFirst) (map to_part to ++ (actor_parts (codes "actor") a ++ (message_parts message ++ end_part))) ≡ Some done
  move_reaches [] a message some parts = cc
  move_reaches (to ∷ lines) a message some parts =
      let rest = actor_parts (codes "actor") a ++ (message_parts message ++ end_part) in
      let first = no_field ToFirst ToMore (ToHeading to.name to.expect to.word) (map to_part lines ++ rest) refl refl parts in
      let more = to_reach lines rest first.1 in
      first.0 ∙ more.0 ∙ closed_reach Mover ToMore a message refl more.1

  log_reaches : (order : Order) (first : Bool) (items : List LogItem) (paths : List Bytes) → has_enough (Log (record { order = order; first_parents = first; items = items; paths = paths })) ≡ true
      → offers (first_line (Log (record { order = order; first_parents = first; items = items; paths = paths }))) ≡ true
      → list_all is_part (parts_of (Log (record { order = order; first_parents = first; items = items; paths = paths }))) ≡ true
      → reached (parts_of (Log (record { order = order; first_parents = first; items = items; paths = paths }))) ≡ Some done
  log_reaches order first items paths enough offered parts =
      let h : Heading = LogHeading order first items (map length paths) in
      let spelled : parts_of (Log (record { order = order; first_parents = first; items = items; paths = paths })) ≡ Line (words_of h) ∷ map Field paths =
      ap (λ words. Line (codes "log" ∷ (order_words order ++ (parents_word first ∷ (map item_word items ++ words)))) ∷ map Field paths) (paths_words paths) in
      ap reached spelled
      ∙ paths_reach h paths refl (if_taken (are_items items) (Some Done) enough) offered (subst (λ ps. list_all is_part ps ≡ true) spelled parts)

  told_reaches : (command : Command) → has_enough command ≡ true → offers (first_line command) ≡ true → list_all is_part (parts_of command) ≡ true → reached (parts_of command) ≡ Some done
  told_reaches (Commit c) enough offered parts =
      let behind = flat_map edit_parts c.edits ++ signed_parts c in
      let first = no_field Start Parents (CommitHeading c.name c.expect) (map parent_part c.parents ++ behind) refl (begins (CommitHeading c.name c.expect) Parents offered refl) parts in
      let parents = parents_reach c.parents behind first.1 in
      let author = edits_reach Parents c.edits c.author (actor_parts (codes "committer") c.committer ++ (message_parts c.message ++ end_part)) at_parents parents.1 in
      first.0 ∙ parents.0 ∙ author.0 ∙ closed_reach Committer ToCommitter c.committer c.message refl author.1
  told_reaches (Tag c) enough offered parts =
      let h : Heading = TagHeading c.name c.expect c.word in
      let first = no_field Start ToTagger h (actor_parts (codes "tagger") c.tagger ++ (message_parts c.message ++ end_part)) refl (begins h ToTagger offered refl) parts in
      first.0 ∙ closed_reach Tagger ToTagger c.tagger c.message refl first.1
  told_reaches (Move c) enough offered parts =
      let first = no_field Start ToFirst MoveHeading (map to_part c.to ++ (actor_parts (codes "actor") c.actor ++ (message_parts c.message ++ end_part))) refl (begins MoveHeading ToFirst offered refl) parts in
      first.0 ∙ move_reaches c.to c.actor c.message enough first.1
  told_reaches (Rename old new) enough offered parts = alone_reaches (RenameHeading old new) refl refl offered parts
  told_reaches (Delete name at) enough offered parts = alone_reaches (DeleteHeading name at) refl refl offered parts
  told_reaches (Switch name) enough offered parts = alone_reaches (SwitchHeading name) refl refl offered parts
  told_reaches Pack enough offered parts = alone_reaches PackHeading refl refl offered parts
  told_reaches Index enough offered parts = alone_reaches IndexHeading refl refl offered parts
  told_reaches (Names folder) enough offered parts = alone_reaches (NamesHeading folder) refl refl offered parts
  told_reaches (Files word) enough offered parts = alone_reaches (FilesHeading word) refl refl offered parts
  told_reaches (Past name) enough offered parts = alone_reaches (PastHeading name) refl refl offered parts
  told_reaches (Log c) enough offered parts = log_reaches c.order c.first_parents c.items c.paths enough offered parts
  told_reaches (Show word None) enough offered parts = alone_reaches (ShowHeading word None) refl refl offered parts
  told_reaches (Show word (Some path)) enough offered parts = path_reaches (ShowHeading word (Some (length path))) path refl refl offered parts

  command_reaches : (command : Command) → is_told offers command ≡ true → reached (parts_of command) ≡ Some done
  command_reaches command h =
      let both = and_parts (has_spelling command) (offers (first_line command)) h in
      let spelled = and_parts (list_all is_part (parts_of command)) (has_enough command) both.0 in
      told_reaches command spelled.1 both.1 spelled.0

  pub table_tells_commands : (parts : List Part) → (reached parts ≡ Some done) ↔ ((command : Command) × (is_told offers command ≡ true) × (parts_of command ≡ parts))
  table_tells_commands parts = (commands_run offers parts, λ t. subst (λ ps. reached ps ≡ Some done) t.2 (command_reaches t.0 t.1))

  -- ---- what ends

  -- a way to the end
  Ends : List ℕ → Place → Type 0
  Ends fields place = (parts : List Part) × (run_from (at fields place) parts ≡ Some done)

  -- one that begins with a line
  abbrev EndsByLine : Place → Type 0
  EndsByLine place = (words : List Bytes) × (parts : List Part) × (run_from (at [] place) (Line words ∷ parts) ≡ Some done)

  after : (place following : Place) (h : Heading) (fields : List Part) → next place h ≡ Some following → is_part (Line (words_of h)) ≡ true → are_sizes (sizes h) ≡ true
      → run_from (at (sizes h) following) fields ≡ Some done → EndsByLine place
  after place following h fields stands known sized rest = (words_of h, fields, run_line place following h fields stands known sized ∙ rest)

  end_ends : EndsByLine ToEnd
  end_ends = after ToEnd Done EndHeading [] refl refl refl refl

  message_ends : EndsByLine ToMessage
  unfolding digits
  message_ends = after ToMessage ToEnd (MessageHeading 0) (Field [] ∷ Line end_ends.0 ∷ end_ends.1) refl refl refl end_ends.2

  committer_ends : EndsByLine ToCommitter
  unfolding digits
  committer_ends = after ToCommitter ToMessage (ActorHeading Committer 0 0 (codes "0") (codes "0")) (Field [] ∷ Field [] ∷ Line message_ends.0 ∷ message_ends.1) refl refl refl message_ends.2

  edits_ends : EndsByLine Edits
  unfolding digits
  edits_ends = after Edits ToCommitter (ActorHeading Author 0 0 (codes "0") (codes "0")) (Field [] ∷ Field [] ∷ Line committer_ends.0 ∷ committer_ends.1) refl refl refl committer_ends.2

  parents_ends : EndsByLine Parents
  unfolding digits
  parents_ends = after Parents ToCommitter (ActorHeading Author 0 0 (codes "0") (codes "0")) (Field [] ∷ Field [] ∷ Line committer_ends.0 ∷ committer_ends.1) refl refl refl committer_ends.2

  start_ends : EndsByLine Start
  start_ends = after Start Done (FilesHeading (codes "HEAD")) [] (begins (FilesHeading (codes "HEAD")) Done some_offered refl) refl refl refl

  tagger_ends : EndsByLine ToTagger
  unfolding digits
  tagger_ends = after ToTagger ToMessage (ActorHeading Tagger 0 0 (codes "0") (codes "0")) (Field [] ∷ Field [] ∷ Line message_ends.0 ∷ message_ends.1) refl refl refl message_ends.2

  more_ends : EndsByLine ToMore
  unfolding digits
  more_ends = after ToMore ToMessage (ActorHeading Mover 0 0 (codes "0") (codes "0")) (Field [] ∷ Field [] ∷ Line message_ends.0 ∷ message_ends.1) refl refl refl message_ends.2

  first_ends : EndsByLine ToFirst
  first_ends = after ToFirst ToMore (ToHeading (codes "0") commands.Any (codes "0")) (Line more_ends.0 ∷ more_ends.1) refl refl refl more_ends.2

  line_ends : (place : Place) → place ≢ Done → EndsByLine place
  line_ends Start live = start_ends
  line_ends Parents live = parents_ends
  line_ends Edits live = edits_ends
  line_ends ToCommitter live = committer_ends
  line_ends ToTagger live = tagger_ends
  line_ends ToFirst live = first_ends
  line_ends ToMore live = more_ends
  line_ends ToMessage live = message_ends
  line_ends ToEnd live = end_ends
  line_ends Done live = absurd (live refl)

  place_ends : (place : Place) → Ends [] place
  unfolding Ends
  place_ends Done = ([], refl)
  place_ends Start = (Line start_ends.0 ∷ start_ends.1, start_ends.2)
  place_ends Parents = (Line parents_ends.0 ∷ parents_ends.1, parents_ends.2)
  place_ends Edits = (Line edits_ends.0 ∷ edits_ends.1, edits_ends.2)
  place_ends ToCommitter = (Line committer_ends.0 ∷ committer_ends.1, committer_ends.2)
  place_ends ToTagger = (Line tagger_ends.0 ∷ tagger_ends.1, tagger_ends.2)
  place_ends ToFirst = (Line first_ends.0 ∷ first_ends.1, first_ends.2)
  place_ends ToMore = (Line more_ends.0 ∷ more_ends.1, more_ends.2)
  place_ends ToMessage = (Line message_ends.0 ∷ message_ends.1, message_ends.2)
  place_ends ToEnd = (Line end_ends.0 ∷ end_ends.1, end_ends.2)

  field_ends : (size : ℕ) (fields : List ℕ) (place : Place) (parts : List Part) → run_from (at fields place) parts ≡ Some done → run_from (at (size ∷ fields) place) (Field (zeros size) ∷ parts) ≡ Some done
  field_ends size fields place parts e =
      ap (λ n. run_from (at (n ∷ fields) place) (Field (zeros size) ∷ parts)) (sym (zeros_long size)) ∙ run_field (zeros size) fields place parts ∙ e

  ends : (fields : List ℕ) (place : Place) → Ends fields place
  unfolding Ends
  ends [] place = place_ends place
  ends (size ∷ fields) place = let rest = ends fields place in (Field (zeros size) ∷ rest.0, field_ends size fields place rest.0 rest.1)

  -- ---- what goes on

  pub run_on : (parts more : List Part) (p : Progress) → reached parts ≡ Some p → reached (parts ++ more) ≡ run_from p more
  run_on parts more p e = run_append offers begin parts more ∙ ap (option_and_then (λ q. run_from q more)) e

  -- parts that lead to the end go on with each of them
  goes_on : (parts : List Part) (part : Part) (more : List Part) → reached (parts ++ part ∷ more) ≡ Some done → GoesOn parts part
  goes_on parts part more e =
      let found = commands_run offers (parts ++ part ∷ more) e in
      record { command = found.0; known = found.1; more = more; is = found.2 }

  step_goes_on : (parts : List Part) (part : Part) (p : Progress) → reached (parts ++ part ∷ []) ≡ Some p → GoesOn parts part
  unfolding Ends
  step_goes_on parts part p e =
      let rest = ends p.fields p.place in
      goes_on parts part rest.0 (ap reached (sym (behind parts part rest.0)) ∙ run_on (parts ++ part ∷ []) rest.0 p e ∙ rest.1)

  goes_on_step : (parts : List Part) (part : Part) → GoesOn parts part → (p : Progress) × (reached (parts ++ part ∷ []) ≡ Some p)
  goes_on_step parts part g =
      let whole : reached ((parts ++ part ∷ []) ++ g.more) ≡ Some done = ap reached (behind parts part g.more ∙ sym g.is) ∙ command_reaches g.command g.known in
      let cut = then_some (λ q. run_from q g.more) (reached (parts ++ part ∷ [])) done (sym (run_append offers begin (parts ++ part ∷ []) g.more) ∙ whole) in
      (cut.0, cut.1)

  pub table_tells_what_goes_on : (parts : List Part) (part : Part) → GoesOn parts part ↔ ((progress : Progress) × (reached (parts ++ part ∷ []) ≡ Some progress))
  table_tells_what_goes_on parts part = (goes_on_step parts part, λ t. step_goes_on parts part t.0 t.1)

  pub table_tells_fields : (parts : List Part) (size : ℕ) (fields : List ℕ) (place : Place) → reached parts ≡ Some (at (size ∷ fields) place) → FieldStands parts size
  unfolding Ends
  table_tells_fields parts size fields place e =
      let rest = ends fields place in
      (zeros size, zeros_long size, goes_on parts (Field (zeros size)) rest.0 (run_on parts (Field (zeros size) ∷ rest.0) (at (size ∷ fields) place) e ∙ field_ends size fields place rest.0 rest.1))

  pub table_tells_lines : (parts : List Part) (place : Place) → reached parts ≡ Some (at [] place) → place ≢ Done → LineStands parts
  table_tells_lines parts place e live =
      let rest = line_ends place live in
      (rest.0, goes_on parts (Line rest.0) rest.1 (run_on parts (Line rest.0 ∷ rest.1) (at [] place) e ∙ rest.2))

  -- one part more
  pub step_on : (parts : List Part) (part : Part) (fields : List ℕ) (place : Place) (q : Progress) → reached parts ≡ Some (at fields place) → part_step fields place part ≡ Some q → reached (parts ++ part ∷ []) ≡ Some q
  step_on parts part fields place q e s = run_on parts (part ∷ []) (at fields place) e ∙ ap (option_and_then (λ after. run_from after [])) s

  pub table_takes_lines : (parts : List Part) (place following : Place) (heading : Heading) → reached parts ≡ Some (at [] place) → next place heading ≡ Some following
      → is_part (Line (words_of heading)) ≡ true → are_sizes (sizes heading) ≡ true → reached (parts ++ Line (words_of heading) ∷ []) ≡ Some (at (sizes heading) following)
  table_takes_lines parts place following heading e stands known sized = step_on parts (Line (words_of heading)) [] place (at (sizes heading) following) e (line_goes offers place following heading stands known sized)

  pub table_takes_fields : (parts : List Part) (bytes : Bytes) (fields : List ℕ) (place : Place) → reached parts ≡ Some (at (length bytes ∷ fields) place) → reached (parts ++ Field bytes ∷ []) ≡ Some (at fields place)
  table_takes_fields parts bytes fields place e = step_on parts (Field bytes) (length bytes ∷ fields) place (at fields place) e (field_goes offers bytes fields place)

  -- the step that a part that goes on makes
  pub step_of : (parts : List Part) (part : Part) (fields : List ℕ) (place : Place) → reached parts ≡ Some (at fields place) → GoesOn parts part → (q : Progress) × (part_step fields place part ≡ Some q)
  step_of parts part fields place e g =
      let whole = goes_on_step parts part g in
      let cut = then_some (λ q. run_from q []) (part_step fields place part) whole.0 (sym (run_on parts (part ∷ []) (at fields place) e) ∙ whole.1) in
      (cut.0, cut.1)

  line_at : (parts : List Part) (place : Place) → reached parts ≡ Some (at [] place) → (text : Bytes) → LineFits parts text → IsLineAt place text
  line_at parts place e text (words, same, g) =
      let st = step_of parts (Line words) [] place e g in
      let step = line_step offers place words st.0 st.1 in
      record {
        heading = step.heading;
        spelled = lines_same text (join_with_byte 32 words) same ∙ ap (join_with_byte 32) step.words_are;
        known = subst (λ ws. is_part (Line ws) ≡ true) step.words_are step.known;
        sized = step.sized;
        following = step.following;
        stands = step.stands;
      }

  line_fits : (parts : List Part) (place : Place) → reached parts ≡ Some (at [] place) → (text : Bytes) → IsLineAt place text → LineFits parts text
  line_fits parts place e text h =
      (words_of h.heading, ap line h.spelled, step_goes_on parts (Line (words_of h.heading)) (at (sizes h.heading) h.following) (table_takes_lines parts place h.following h.heading e h.stands h.known h.sized))

  pub table_tells_what_fits : (parts : List Part) (place : Place) → reached parts ≡ Some (at [] place) → (text : Bytes) → LineFits parts text ↔ IsLineAt place text
  table_tells_what_fits parts place e text = (line_at parts place e text, line_fits parts place e text)
