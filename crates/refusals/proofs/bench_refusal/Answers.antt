-- Each test stands behind those before it in the list, which hold there. Assumes nothing.
use Rattle.std.proofs.Common.{rules}
use Rattle.field.specs.Lists.{when◌then◌else◌}
use Rattle.plans.specs.Answers.{refusal_number, refused_by}
use Rattle.plans.specs.Refusal.{first_failed, bench_refusal, bench_tests}
use Rattle.refusals.proofs.bench_refusal.Goals as goal

pub returns-then-not-is_known : goal.returns-then-not-is_known
unfolding when◌then◌else◌ first_failed bench_tests bench_refusal refusal_number refused_by
returns-then-not-is_known c = search rules

pub returns-then-not-level_fits : goal.returns-then-not-level_fits
unfolding when◌then◌else◌ first_failed bench_tests bench_refusal refusal_number refused_by
returns-then-not-level_fits c = search rules

pub returns-then-not-marks_fit : goal.returns-then-not-marks_fit
unfolding when◌then◌else◌ first_failed bench_tests bench_refusal refusal_number refused_by
returns-then-not-marks_fit c = search rules

pub returns-then-not-symbols_fit : goal.returns-then-not-symbols_fit
unfolding when◌then◌else◌ first_failed bench_tests bench_refusal refusal_number refused_by
returns-then-not-symbols_fit c = search rules

pub returns-then-not-row : goal.returns-then-not-row
unfolding when◌then◌else◌ first_failed bench_tests bench_refusal refusal_number refused_by
returns-then-not-row c = search rules

pub returns : goal.returns
unfolding when◌then◌else◌ first_failed bench_tests bench_refusal refusal_number refused_by
returns c = search rules
