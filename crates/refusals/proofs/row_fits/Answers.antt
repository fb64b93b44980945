-- Each symbol is below q or marked, or the walk stops at one that is neither. Assumes nothing.
use Rattle.std.proofs.Common.{rules}
use Rattle.std.proofs.iter.runs.Made.{chains}
use borrow.Author.Tests.{tests}
use Rattle.plans.proofs.Scan.{row_decided}
use Rattle.refusals.proofs.row_fits.Goals as goal

pub returns : goal.returns
returns c = row_decided c.args.q c.args.word c.args.row.now c.all.result (search (rules, chains, tests))
