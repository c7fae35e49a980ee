use Rattle.std.proofs.Common.{subst}
use Rattle.opt_inside.proofs.Added.{HasValues}
use Rattle.text_frames.proofs.BuildingLemmas.Stood.{HasLists}
use Rattle.irkit_running.proofs.ReadModules.{entered_nowhere, self_contained}
use Rattle.irkit_running.proofs.apart.know_read_module.Goals as goal

pub returns : goal.returns
returns c =
    let s = c.args.ctx.now in
    let root = c.args.root in
    let program = c.program-program.ensures in
    let lists : HasLists s.program = subst HasLists program
    (record {
      operations_once = c.know_lists.ensures.operations_once;
      blocks_once = c.know_lists.ensures.blocks_once;
      regions_once = c.know_lists.ensures.regions_once;
      operations = c.know_lists.ensures.operations;
      blocks = c.know_lists.ensures.blocks;
      regions = c.know_lists.ensures.regions;
    }) in
    let values : HasValues s.program = subst HasValues program
    (record {
      definer = c.know_values.ensures.definer;
      typed = c.know_values.ensures.typed;
      stands = c.know_values.ensures.stands;
    }) in
    record {
      entered = λ start new. entered_nowhere s root lists values start new;
      contained = λ start new. self_contained s root lists values start new;
    }
