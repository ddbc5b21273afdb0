use Rattle.std.proofs.Common.{◌∙◌, sym, arith}
use Rattle.std.proofs.lemmas.Option.{slice_get_within}
use Rattle.gix_object_commit.specs.Headers.{is_named}
use Rattle.gix_object_commit.specs.HeaderViews.{headers_of}
use Rattle.gix_object_commit.specs.LineViews.{field_of}
use Rattle.gix_object_commit.proofs.Positions.{from_start, found_here, found_later, found_nowhere}
use Rattle.gix_object_commit.proofs.extra_headers.ExtraHeaders.find_pos.Goals as goal

pub returns-then-is_named : goal.returns-then-is_named
returns-then-is_named c =
    let test = is_named c.args.name.now in
    let fields = headers_of c.args.self.now in
    sym (from_start test fields ∙ sym c.loop-header.invariant ∙ found_here test fields c.loop-header.place (field_of c.in-Some.header) (sym c.in-Some.ensures.given) (sym c.is_named.ensures ∙ c.if-is_named.true))

pub loop-header-smaller : goal.loop-header-smaller
loop-header-smaller c = let within = slice_get_within (headers_of c.args.self.now) c.loop-header.place (field_of c.in-Some.header) (sym c.in-Some.ensures.given) in omega arith

pub loop-header-preserved : goal.loop-header-preserved
loop-header-preserved c =
    sym (found_later (is_named c.args.name.now) (headers_of c.args.self.now) c.loop-header.place (field_of c.in-Some.header) (sym c.in-Some.ensures.given) (sym c.is_named.ensures ∙ c.if-is_named.false)) ∙ c.loop-header.invariant

pub returns : goal.returns
returns c =
    let test = is_named c.args.name.now in
    let fields = headers_of c.args.self.now in
    sym (from_start test fields ∙ sym c.loop-header.invariant ∙ found_nowhere test fields c.loop-header.place (sym c.in_default.ensures.given))
