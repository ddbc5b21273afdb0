-- A tag's name as it is written, as a test: a partial name of a reference (git-check-ref-format,
-- with `--allow-onelevel`) that doesn't begin with a dash (git-tag: such a name would be read as an
-- option). The laws say that the test is these rules.
use Rattle.std.specs.Prelude.{ℕ, List, codes, Option, None, Some, if◌then◌else◌}
use Rattle.gix_object_lines.specs.NameTest.{begins, is_partial_name}
use Rattle.gix_object_lines.specs.declared.write.TagNameError.{TagNameError}
use Rattle.gix_object_lines.specs.declared.write.TagNameError.TheVariants.{StartsWithDash, InvalidRefName}

-- why a name isn't written, if it isn't
abbrev pub name_fault : List ℕ → Option TagNameError
name_fault name =
    if is_partial_name name then (if begins (codes "-") name then Some StartsWithDash else None)
    else Some InvalidRefName
