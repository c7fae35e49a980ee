use Rattle.std.proofs.Common.{rules, ◌≡◌, ◌<◌, length, get_or, subst}
use Rattle.std.proofs.lemmas.List.{get_or_default}
use Rattle.std.specs.Prelude.{Err}
use Rattle.ir_program.specs.Program.{no_handle}
use Rattle.opt_dialect.specs.declared.status.OptError.TheVariants.{Memory}
use Rattle.pass_managers.specs.Running.{RunsPass, at_none, all_ran, unlisted_then}
use Rattle.pass_managers.proofs.RanNested.{next_child, ran_next, ran_stopped, ran_on_all}
use Rattle.pass_managers.proofs.nested.run_at_each.Goals as goal
use Rattle.pass_outside.specs.Sound.{IsSound}

pub loop-child-init : goal.loop-child-init
loop-child-init g c = record {
  ran = at_none;
  sound = subst (λ z. IsSound z) c.program.ensures c.know_sound.ensures;
  live = c.requires.live;
  nested = c.requires.nested;
}

pub run_pass-requires : goal.run_pass-requires
run_pass-requires g c =
    let item = get_or c.args.nested.now c.loop-child.child-index no_handle in
    let within : c.loop-child.child-index < length c.args.nested.now = search rules in
    let is : get_or c.args.nested.now c.loop-child.child-index item ≡ item = get_or_default c.args.nested.now c.loop-child.child-index item no_handle within in (
      c.type_bounds.static-E-Kind,
      (next_child g.P.Pass.behaviour g.D.Verified.accepts g.E.Kind.PartialEq.eq c.args.op c.args.nested.now c.args.ctx.now c.args.analyses.now c.args.pass.now
          item c.loop-child.invariant within is).in_block.operation,
    )

pub loop-child-preserved : goal.loop-child-preserved
loop-child-preserved g c =
    let item = get_or c.args.nested.now c.loop-child.child-index no_handle in
    let within : c.loop-child.child-index < length c.args.nested.now = search rules in
    let is : get_or c.args.nested.now c.loop-child.child-index item ≡ item = get_or_default c.args.nested.now c.loop-child.child-index item no_handle within in
    let run = subst (λ r. RunsPass g.P.Pass.behaviour g.D.Verified.accepts c.loop-child.pass item c.loop-child.ctx c.loop-child.analyses r
    c.run_pass.new.pass c.run_pass.new.ctx c.run_pass.new.analyses) c.in_ok-answer.was c.run_pass.ensures.runs in
    rw c.bitor_assign.ensures
    (ran_next g.P.Pass.behaviour g.D.Verified.accepts g.E.Kind.PartialEq.eq c.args.op c.args.nested.now c.args.ctx.now c.args.analyses.now c.args.pass.now
    item c.in_ok-answer.answer c.loop-child.invariant within is run c.run_pass.ensures.rest (record {
      unchanged = c.retain_preserved.ensures.unchanged;
      changed = c.retain_preserved.ensures.changed;
      settings = c.retain_preserved.ensures.data;
    }))

pub returns-in_err-answer : goal.returns-in_err-answer
returns-in_err-answer g c =
    let item = get_or c.args.nested.now c.loop-child.child-index no_handle in
    let within : c.loop-child.child-index < length c.args.nested.now = search rules in
    let is : get_or c.args.nested.now c.loop-child.child-index item ≡ item = get_or_default c.args.nested.now c.loop-child.child-index item no_handle within in
    let run = subst (λ r. RunsPass g.P.Pass.behaviour g.D.Verified.accepts c.loop-child.pass item c.loop-child.ctx c.loop-child.analyses r
    c.run_pass.new.pass c.run_pass.new.ctx c.run_pass.new.analyses) c.in_err-answer.was c.run_pass.ensures.runs in
    let error : c.from_residual.result ≡ Err c.in_err-answer.field-0.0 = search rules in
    rw error (ran_stopped g.P.Pass.behaviour g.D.Verified.accepts g.E.Kind.PartialEq.eq c.args.op c.args.nested.now c.args.ctx.now c.args.analyses.now c.args.pass.now
    item c.loop-child.invariant within is run)

pub returns-in_err-still_cached : goal.returns-in_err-still_cached
returns-in_err-still_cached g c =
    let all = ran_on_all g.P.Pass.behaviour g.D.Verified.accepts g.E.Kind.PartialEq.eq c.args.op c.args.nested.now c.args.ctx.now c.args.analyses.now c.args.pass.now
    c.loop-child.invariant (search rules) in
    let is : c.from_residual-in_err-still_cached.result ≡ Err Memory = search rules in
    rw is (unlisted_then all)

pub returns : goal.returns
returns g c =
    let all = ran_on_all g.P.Pass.behaviour g.D.Verified.accepts g.E.Kind.PartialEq.eq c.args.op c.args.nested.now c.args.ctx.now c.args.analyses.now c.args.pass.now
    c.loop-child.invariant (search rules) in
    all_ran all c.in_ok-still_cached.ensures.0 c.in_ok-still_cached.ensures.1
