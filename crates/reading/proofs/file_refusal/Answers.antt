-- The first test that fails gives its number, those before it having passed. Assumes nothing.
use Rattle.std.proofs.Common.{rules}
use mathlib.Core.Path.{◌≡◌, sym, ap, ◌∙◌}
use mathlib.Core.Bool.{true, false}
use lib.ListN.{take}
use Rattle.fills.specs.Lists.{same}
use borrow.Author.Tests.{tests}
use Rattle.field.specs.Lists.{when◌then◌else◌}
use Rattle.plans.specs.Answers.{refusal_number, refused_by}
use Rattle.plans.specs.Refusal.{first_failed, unasked}
use Rattle.files.specs.File.{header_size, file_refusal}
use Rattle.files.proofs.Files.{differ-same}
use Rattle.reading.proofs.file_refusal.Goals as goal

pub returns-then-file-lt-HEADER : goal.returns-then-file-lt-HEADER
unfolding when◌then◌else◌ first_failed file_refusal refusal_number refused_by
returns-then-file-lt-HEADER c = search (rules, tests)

pub returns-then-not-is_known : goal.returns-then-not-is_known
unfolding when◌then◌else◌ first_failed file_refusal refusal_number refused_by
returns-then-not-is_known c = search (rules, tests)

pub returns-then-ne : goal.returns-then-ne
unfolding when◌then◌else◌ first_failed file_refusal refusal_number refused_by
returns-then-ne c =
    let wrong : same (take header_size c.args.file.now) c.header_of-header.result ≡ false = differ-same _ _ c.ne.ensures c.if-ne.true in search (rules, tests)

pub returns-then-file-facts_of : goal.returns-then-file-facts_of
unfolding when◌then◌else◌ first_failed file_refusal refusal_number refused_by
returns-then-file-facts_of c =
    let right : same (take header_size c.args.file.now) c.header_of-header.result ≡ true = differ-same _ _ c.ne.ensures c.if-ne.false in search (rules, tests)

pub returns-then-not-lengths : goal.returns-then-not-lengths
unfolding when◌then◌else◌ first_failed file_refusal refusal_number refused_by
returns-then-not-lengths c =
    let right : same (take header_size c.args.file.now) c.header_of-header.result ≡ true = differ-same _ _ c.ne.ensures c.if-ne.false in search (rules, tests)

pub whole_refusal-requires : goal.whole_refusal-requires
whole_refusal-requires c =
    let right : same (take header_size c.args.file.now) c.header_of-header.result ≡ true = differ-same _ _ c.ne.ensures c.if-ne.false in search (rules, tests)

pub returns : goal.returns
unfolding unasked
returns c = c.whole_refusal.ensures ∙ ap (file_refusal _) (sym c.if-not-lengths.false)
