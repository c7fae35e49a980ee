use Rattle.std.proofs.Common.{sym, subst}
use Rattle.kit.specs.Context.{KitProgram}
use Rattle.opt_inside.specs.Numbered.{NumbersInside, numbers_of}
use Rattle.kit_flat.specs.declared.flat.FlatFunction.{FlatFunction}
use Rattle.kit_interpreter.proofs.Bodies.{IsSetting, live_at, numbered_at, lowers_at}
use Rattle.kit_interpreter.proofs.lowering.lower_inside.Goals as goal

pub lower_blocks-requires-clause-live : goal.lower_blocks-requires-clause-live
lower_blocks-requires-clause-live c =
    let set : IsSetting c.args.ctx.now.program c.args.op c.in-Some.region (numbers_of c.args.inside.now)
    c.in_ok-blocks.blocks.keys =
    subst (λ (p : KitProgram). IsSetting p c.args.op c.in-Some.region (numbers_of c.args.inside.now)
    c.in_ok-blocks.blocks.keys) c.program-program.ensures (record {
      region_is = c.in-Some.ensures.region;
      numbers = subst (λ (p : KitProgram). NumbersInside p c.args.op (numbers_of c.args.inside.now))
          (sym c.program-program.ensures) c.requires.numbers;
      stands = c.in-Some.ensures.stands;
      blocks_stand = c.know_lists.ensures.blocks;
      operations_stand = c.know_lists.ensures.operations;
      outside = c.know_lists.ensures.operation_apart;
      keys_are = c.in_ok-blocks.ensures;
    }) in
    live_at c.args.ctx.now c.args.functions.now.outer c.args.op c.in-Some.region (numbers_of c.args.inside.now)
    c.in_ok-blocks.blocks.keys c.requires.can_run set

pub lower_blocks-requires-clause-numbered : goal.lower_blocks-requires-clause-numbered
lower_blocks-requires-clause-numbered c =
    let set : IsSetting c.args.ctx.now.program c.args.op c.in-Some.region (numbers_of c.args.inside.now)
    c.in_ok-blocks.blocks.keys =
    subst (λ (p : KitProgram). IsSetting p c.args.op c.in-Some.region (numbers_of c.args.inside.now)
    c.in_ok-blocks.blocks.keys) c.program-program.ensures (record {
      region_is = c.in-Some.ensures.region;
      numbers = subst (λ (p : KitProgram). NumbersInside p c.args.op (numbers_of c.args.inside.now))
          (sym c.program-program.ensures) c.requires.numbers;
      stands = c.in-Some.ensures.stands;
      blocks_stand = c.know_lists.ensures.blocks;
      operations_stand = c.know_lists.ensures.operations;
      outside = c.know_lists.ensures.operation_apart;
      keys_are = c.in_ok-blocks.ensures;
    }) in
    numbered_at c.args.ctx.now c.args.functions.now.outer c.args.op c.in-Some.region
    (numbers_of c.args.inside.now) c.in_ok-blocks.blocks.keys c.requires.can_run set

pub returns : goal.returns
returns c =
    let set : IsSetting c.args.ctx.now.program c.args.op c.in-Some.region (numbers_of c.args.inside.now)
    c.in_ok-blocks.blocks.keys =
    subst (λ (p : KitProgram). IsSetting p c.args.op c.in-Some.region (numbers_of c.args.inside.now)
    c.in_ok-blocks.blocks.keys) c.program-program.ensures (record {
      region_is = c.in-Some.ensures.region;
      numbers = subst (λ (p : KitProgram). NumbersInside p c.args.op (numbers_of c.args.inside.now))
          (sym c.program-program.ensures) c.requires.numbers;
      stands = c.in-Some.ensures.stands;
      blocks_stand = c.know_lists.ensures.blocks;
      operations_stand = c.know_lists.ensures.operations;
      outside = c.know_lists.ensures.operation_apart;
      keys_are = c.in_ok-blocks.ensures;
    }) in
    let f : FlatFunction = record { values = c.len.result; blocks = c.in_ok-lowered.lowered } in
    lowers_at c.args.ctx.now c.args.functions.now.outer c.args.op c.in-Some.region
    (numbers_of c.args.inside.now) c.in_ok-blocks.blocks.keys c.requires.can_run set
    c.args.functions.now.handles.keys f c.len.ensures.len c.in_ok-lowered.ensures.len c.in_ok-lowered.ensures.each
