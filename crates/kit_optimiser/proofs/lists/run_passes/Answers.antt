use Rattle.std.proofs.Common.{◌≡◌, ◌+◌, List, Err, map, take, drop, length, get_or, refl, sym, ap, ◌∙◌, subst, arith}
use Rattle.std.proofs.Math.Seq.{take-length}
use Rattle.std.proofs.lemmas.Option.{slice_get-get_or}
use Rattle.std.proofs.lemmas.Result.{err_from_is_err_and}
use Rattle.ir_base.specs.declared.growth.GrowError.TheVariants.{CounterFull}
use Rattle.kit_behaviour.specs.PassLists.{Pass}
use Rattle.kit_ops.specs.declared.pass.KitPass.TheVariants.{Sccp}
use Rattle.kit_optimiser.specs.Passed.{IsOptimised, RunsPasses, pass_of}
use Rattle.kit_optimiser.proofs.LeftOutside.{kept_both, kept_none, none_come_both, none_come_none}
use Rattle.kit_optimiser.proofs.LeftOutside.{stays_both, stays_none}
use Rattle.kit_optimiser.proofs.PassLists.{begins, mapped_more, mapped_parts, runs_on}
use Rattle.kit_optimiser.proofs.lists.run_passes.Goals as goal

pub loop-pass-init : goal.loop-pass-init
loop-pass-init c =
    let start = c.args.ctx.now.program in
    let root = c.args.root in
    record {
      optimised = begins c.args.ctx.now root c.requires;
      runs = refl;
      outside = kept_none root start;
      stays = stays_none root start;
      none_come = none_come_none root start;
      types = refl;
    }

pub run_next_pass-requires : goal.run_next_pass-requires
run_next_pass-requires c = c.loop-pass.invariant.optimised.holds

pub loop-pass-preserved : goal.loop-pass-preserved
loop-pass-preserved c =
    let i = c.loop-pass.pass-index in
    let ps = c.args.passes.now in
    let there = slice_get-get_or ps i Sccp c.loop-pass-test.true in
    let root = c.args.root in
    let start = c.args.ctx.now.program in
    let mid = c.loop-pass.ctx.program in
    let new = c.run_next_pass.new.ctx.program in
    let before = c.loop-pass.invariant in
    let done = c.in_ok-run_next_pass.ensures in
    let more = sym (mapped_more ps i (get_or ps i Sccp) there) in
    record {
      optimised = subst (λ (xs : List Pass). IsOptimised xs c.args.ctx.now c.run_next_pass.new.ctx c.args.root) more
          (done.goes_on c.args.ctx.now (map pass_of (take i ps)) before.optimised);
      runs = subst (λ (xs : List Pass). RunsPasses xs c.args.ctx.now c.run_next_pass.new.ctx c.args.root) more
          (runs_on (map pass_of (take i ps)) (pass_of (get_or ps i Sccp)) c.args.ctx.now c.loop-pass.ctx
          c.run_next_pass.new.ctx c.args.root c.loop-pass.invariant.runs c.in_ok-run_next_pass.ensures.passed
          c.in_ok-run_next_pass.ensures.numbers);
      outside = kept_both root start mid new before.outside before.stays done.outside;
      stays = stays_both root start mid new before.stays done.stays;
      none_come = none_come_both root start mid new before.none_come done.none_come;
      types = done.types ∙ before.types;
    }

pub returns-clause-optimised : goal.returns-clause-optimised
returns-clause-optimised c =
    let ps = c.args.passes.now in
    let all : c.loop-pass.pass-index ≡ length ps = omega arith in
    subst (λ (xs : List Pass). IsOptimised xs c.args.ctx.now c.loop-pass.ctx c.args.root)
    (ap (λ n. map pass_of (take n ps)) all ∙ ap (λ l. map pass_of l) (take-length ps)) c.loop-pass.invariant.optimised

pub returns-clause-runs : goal.returns-clause-runs
returns-clause-runs c =
    let ps = c.args.passes.now in
    let all : c.loop-pass.pass-index ≡ length ps = omega arith in
    subst (λ (xs : List Pass). RunsPasses xs c.args.ctx.now c.loop-pass.ctx c.args.root)
    (ap (λ n. map pass_of (take n ps)) all ∙ ap (λ l. map pass_of l) (take-length ps)) c.loop-pass.invariant.runs

pub returns-in_err-run_next_pass-clause-full : goal.returns-in_err-run_next_pass-clause-full
returns-in_err-run_next_pass-clause-full c = λ e.
    let i = c.loop-pass.pass-index in
    let ps = c.args.passes.now in
    let p = err_from_is_err_and c.from_residual.result c.from_residual.ensures.1 in
    let same : Err p.0 ≡ Err CounterFull = sym p.1 ∙ e in
    let inner : p.0 ≡ CounterFull = cc in
    record {
      done = map pass_of (take i ps);
      next = pass_of (get_or ps i Sccp);
      rest = map pass_of (drop (i + 1) ps);
      parts = mapped_parts ps i Sccp c.loop-pass-test.true;
      reached = c.loop-pass.ctx;
      runs = c.loop-pass.invariant.runs;
      full = c.in_err-run_next_pass.ensures.full (ap (λ x. Err x) (sym p.2 ∙ inner));
    }

pub returns-in_err-run_next_pass-clause-outside : goal.returns-in_err-run_next_pass-clause-outside
returns-in_err-run_next_pass-clause-outside c =
    let before = c.loop-pass.invariant in
    kept_both c.args.root c.args.ctx.now.program c.loop-pass.ctx.program c.run_next_pass.new.ctx.program before.outside
    before.stays c.run_next_pass.ensures.outside
