use Rattle.std.proofs.Common.{◌∙◌, sym, ap, Option, length, drop, map, ◌+◌, ◌<◌, arith}
use Rattle.std.specs.Prelude.{option_and_then}
use Rattle.ir_names.specs.Identifier.{text_of}
use Rattle.ir_program.specs.declared.handles.Ptr.{Ptr}
use Rattle.ir_program.specs.declared.handles.Operation.{Operation}
use Rattle.kit_places.specs.Store.{locate}
use Rattle.kit_places.proofs.Located.{one_step, last_step, located}
use Rattle.kit_places.proofs.places.find_place.Goals as goal

pub returns-in-None-clause-place : goal.returns-in-None-clause-place
returns-in-None-clause-place c =
    let l : c.loop-i.i + 1 < length c.args.path.now = omega (arith, c.loop-i-test.true, c.if-i-path.false) in
    let s = one_step c.args.ctx.now.program c.loop-i.outer c.args.path.now c.loop-i.i
    c.index-path-i-in-loop-i.result l c.index-path-i-in-loop-i.is c.as_str.result.now c.as_str.ensures.text in
    ap (λ (o : Option (Ptr Operation)). option_and_then
    (λ k. locate c.args.ctx.now.program k (map text_of (drop (c.loop-i.i + 1) c.args.path.now))) o)
    c.in-None.ensures.found
    ∙ sym s ∙ c.loop-i.invariant.left

pub loop-i-preserved : goal.loop-i-preserved
loop-i-preserved c =
    let l : c.loop-i.i + 1 < length c.args.path.now = omega (arith, c.loop-i-test.true, c.if-i-path.false) in
    let s = one_step c.args.ctx.now.program c.loop-i.outer c.args.path.now c.loop-i.i
    c.index-path-i-in-loop-i.result l c.index-path-i-in-loop-i.is c.as_str.result.now c.as_str.ensures.text in
    record {
      left = ap (λ (o : Option (Ptr Operation)). option_and_then
          (λ k. locate c.args.ctx.now.program k (map text_of (drop (c.loop-i.i + 1) c.args.path.now))) o)
          c.in-Some.ensures.found
          ∙ sym s ∙ c.loop-i.invariant.left;
      live = c.in-Some.ensures.live;
    }

pub returns-then-i-path-clause-place : goal.returns-then-i-path-clause-place
returns-then-i-path-clause-place c =
    c.place_in.ensures.found
    ∙ sym (last_step c.args.ctx.now.program c.loop-i.outer c.args.path.now c.loop-i.i c.index-path-i.result
    (omega (arith, c.if-i-path.true)) c.index-path-i.is)
    ∙ c.loop-i.invariant.left

pub returns-then-i-path-clause-located : goal.returns-then-i-path-clause-located
returns-then-i-path-clause-located c = located c.args.ctx.now.program c.args.path.now c.loop-i.i
    c.index-path-i.result (omega (arith, c.if-i-path.true)) c.index-path-i.is c.place_in.result c.place_in.ensures.place
