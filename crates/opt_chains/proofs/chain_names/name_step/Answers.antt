use Rattle.std.proofs.lemmas.Option.{slice_get-get_or}
use Rattle.ir_program.specs.Program.{no_handle}
use Rattle.opt_chains.proofs.ChainNames.{below_length, step_named, exit_there}
use Rattle.opt_chains.proofs.chain_names.name_step.Goals as goal

pub unreachable-requires : goal.unreachable-requires
unreachable-requires g c =
    let at = slice_get-get_or c.args.blocks.now c.args.step.before no_handle (below_length c.args.blocks.now c.args.step.before c.requires.before c.requires.before_is) in
    exit_there g.D.Meanings.meaning c.args.program.now c.args.blocks.now c.args.step c.requires _ c.bare_exit.result at c.bare_exit.ensures.all c.in_default.is

pub returns : goal.returns
returns g c =
    let at = slice_get-get_or c.args.blocks.now c.args.step.before no_handle (below_length c.args.blocks.now c.args.step.before c.requires.before c.requires.before_is) in
    let first = slice_get-get_or c.args.blocks.now c.args.step.first no_handle c.requires.within in
    step_named g.D.Meanings.meaning c.args.program.now c.args.blocks.now c.args.step c.requires _ _ c.bare_exit.result c.in-Some.exit first at c.bare_exit.ensures.all c.in-Some.is
