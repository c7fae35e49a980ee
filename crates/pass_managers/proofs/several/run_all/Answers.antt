use Rattle.std.proofs.Common.{rules, ◌≡◌, ◌<◌, length, [], get_or, refl, subst}
use Rattle.std.proofs.lemmas.List.{get_or_default}
use Rattle.std.specs.Prelude.{Err}
use Rattle.opt_dialect.specs.declared.status.OptError.TheVariants.{Memory}
use Rattle.pass_managers.specs.Running.{RunsPass, run_none, all_run, unlisted}
use Rattle.pass_managers.proofs.RanSome.{ran_more, ran_stops, ran_all}
use Rattle.pass_managers.proofs.several.run_all.Goals as goal
use Rattle.pass_outside.specs.Sound.{IsSound}

pub loop-index-init : goal.loop-index-init
loop-index-init g c = record {
  done = [];
  now = [];
  rest = c.args.passes.now;
  olds_are = refl;
  news_are = refl;
  count = refl;
  ran = run_none;
  sound = subst (λ z. IsSound z) c.program.ensures c.know_sound.ensures;
  live = c.requires.live;
}

pub loop-index-preserved : goal.loop-index-preserved
loop-index-preserved g c =
    let p = get_or c.loop-index.passes c.loop-index.index c.index-passes-index.result in
    let within : c.loop-index.index < length c.loop-index.passes = search rules in
    let is : get_or c.loop-index.passes c.loop-index.index p ≡ p = get_or_default c.loop-index.passes c.loop-index.index p c.index-passes-index.result within in
    let run = subst (λ r. RunsPass g.P.Pass.behaviour g.D.Verified.accepts p c.args.op c.loop-index.ctx c.loop-index.analyses r
    c.run_pass.new.pass c.run_pass.new.ctx c.run_pass.new.analyses) c.in_ok-answer.was c.run_pass.ensures.runs in
    let more = ran_more g.P.Pass.behaviour g.D.Verified.accepts g.E.Kind.PartialEq.eq c.args.op c.args.ctx.now c.args.analyses.now c.args.passes.now
    p c.run_pass.new.pass c.in_ok-answer.answer c.loop-index.invariant within is run (record {
      unchanged = c.retain_preserved.ensures.unchanged;
      changed = c.retain_preserved.ensures.changed;
      settings = c.retain_preserved.ensures.data;
    }) c.run_pass.ensures.rest.sound c.run_pass.ensures.rest.live in
    rw c.bitor_assign.ensures more

pub returns-in_err-answer : goal.returns-in_err-answer
returns-in_err-answer g c =
    let p = get_or c.loop-index.passes c.loop-index.index c.index-passes-index.result in
    let within : c.loop-index.index < length c.loop-index.passes = search rules in
    let is : get_or c.loop-index.passes c.loop-index.index p ≡ p = get_or_default c.loop-index.passes c.loop-index.index p c.index-passes-index.result within in
    let run = subst (λ r. RunsPass g.P.Pass.behaviour g.D.Verified.accepts p c.args.op c.loop-index.ctx c.loop-index.analyses r
    c.run_pass.new.pass c.run_pass.new.ctx c.run_pass.new.analyses) c.in_err-answer.was c.run_pass.ensures.runs in
    let stops = ran_stops g.P.Pass.behaviour g.D.Verified.accepts g.E.Kind.PartialEq.eq c.args.op c.args.ctx.now c.args.analyses.now c.args.passes.now
    p c.run_pass.new.pass c.loop-index.invariant within is run in
    let error : c.from_residual.result ≡ Err c.in_err-answer.field-0.0 = search rules in
    rw error stops

pub returns-in_err-still_cached : goal.returns-in_err-still_cached
returns-in_err-still_cached g c =
    let all = ran_all g.P.Pass.behaviour g.D.Verified.accepts g.E.Kind.PartialEq.eq c.args.op c.args.ctx.now c.args.analyses.now c.args.passes.now
    c.loop-index.invariant (search rules) in
    let is : c.from_residual-in_err-still_cached.result ≡ Err Memory = search rules in
    rw is (unlisted all)

pub returns : goal.returns
returns g c =
    let all = ran_all g.P.Pass.behaviour g.D.Verified.accepts g.E.Kind.PartialEq.eq c.args.op c.args.ctx.now c.args.analyses.now c.args.passes.now
    c.loop-index.invariant (search rules) in
    all_run all c.in_ok-still_cached.ensures.0 c.in_ok-still_cached.ensures.1
