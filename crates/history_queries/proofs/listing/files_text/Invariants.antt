use Rattle.std.proofs.Common.{◌≡◌, ◌++◌, map, take}
use Rattle.std.specs.List.{flat_map}
use Rattle.history_model.specs.Replies.{file_parts}
use Rattle.history_model.specs.Spelling.{parts_text}
use Rattle.history_files.specs.Reading.{line_of}
use Rattle.history_queries.proofs.listing.files_text.Given as goal

-- the files so far
abbrev pub invariant-loop-file : goal.invariant-loop-file
invariant-loop-file l = l.text.items ≡ l.initial.text.items ++ parts_text (flat_map file_parts (map line_of (take l.file-index l.files)))
