-- The phases one after the other.
use Rattle.std.proofs.Common.{◌↔◌, Ok, ap, ◌∙◌, subst}
use Rattle.ir_trees.specs.Stands.{ProgramTree, StandsFor}
use Rattle.opt_dialect.specs.Statuses.{either}
use Rattle.opt_inside.specs.Edges.{FitsEdgesBelow, HasLocalEdgesBelow}
use Rattle.opt_inside.specs.reach.Edges.{FitsEdgesFrom, HasLocalEdgesFrom}
use Rattle.opt_inside.specs.declared.reach.starts.Start.TheVariants.{Operation as AtOperation}
use Rattle.opt_handles.proofs.Handles.{handles_twice}
use Rattle.ir_opts.proofs.ThreePhases.{is_there, begins, nothing_done, removing_stops, joining_stops}
use Rattle.ir_opts.proofs.WholeTrees.{tree_simplified}
use Rattle.ir_opts.proofs.control_flow.simplify_cfg.Goals as goal

pub remove_unreached-requires-clause-live : goal.remove_unreached-requires-clause-live
remove_unreached-requires-clause-live g c =
    let op = c.args.op in
    let tree : (t : ProgramTree g.row.D-Operation.Denot g.row.D-Block.Denot) × StandsFor c.args.ctx.now.program op t =
    subst (λ p. (t : ProgramTree g.row.D-Operation.Denot g.row.D-Block.Denot) × StandsFor p op t)
    c.program.ensures c.know_tree.ensures in
    let first = c.in_ok-status.ensures.decided tree.0 tree.1 in
    is_there c.decide_branches.new.ctx.program op _ first.stands

pub remove_unreached-requires-clause-edges : goal.remove_unreached-requires-clause-edges
remove_unreached-requires-clause-edges g c =
    let t = g.D.Meanings.meaning.is_terminator in
    let under = subst (λ p. HasLocalEdgesBelow t p c.args.op ↔ HasLocalEdgesFrom t p (AtOperation c.args.op))
    c.program-2.ensures c.know_edges_under.ensures.local in
    under.0 (c.in_ok-status.ensures.local c.requires.edges)

pub returns-in_err-remove_unreached-clause-error : goal.returns-in_err-remove_unreached-clause-error
returns-in_err-remove_unreached-clause-error g c =
    removing_stops g.D.Meanings.meaning c.args.ctx.now.program c.decide_branches.new.ctx.program c.args.op
    c.in_ok-status.ensures.decided c.from_residual-in_err-remove_unreached.result c.in_err-remove_unreached.field-0.0
    c.from_residual-in_err-remove_unreached.ensures.1
    (ap (λ x. x.program) c.in_err-remove_unreached.ensures.kept) c.in_err-remove_unreached.ensures.refused

pub merge_chains-requires-clause-live : goal.merge_chains-requires-clause-live
merge_chains-requires-clause-live g c =
    let op = c.args.op in
    let decided = c.decide_branches.new.ctx.program in
    let cut = c.remove_unreached.new.ctx.program in
    let tree : (t : ProgramTree g.row.D-Operation.Denot g.row.D-Block.Denot) × StandsFor c.args.ctx.now.program op t =
    subst (λ p. (t : ProgramTree g.row.D-Operation.Denot g.row.D-Block.Denot) × StandsFor p op t)
    c.program.ensures c.know_tree.ensures in
    let first = c.in_ok-status.ensures.decided tree.0 tree.1 in
    let second = c.in_ok-remove_unreached.ensures.removed _ (begins decided op _ first.stands) _ first.stands in
    is_there cut op second.after second.stands

pub merge_chains-requires-clause-edges : goal.merge_chains-requires-clause-edges
merge_chains-requires-clause-edges g c = c.in_ok-remove_unreached.ensures.edges.local_under

pub merge_chains-requires-clause-fits : goal.merge_chains-requires-clause-fits
merge_chains-requires-clause-fits g c =
    let d = g.D.Meanings.meaning in
    let under = subst (λ p. FitsEdgesBelow d p c.args.op ↔ FitsEdgesFrom d p (AtOperation c.args.op))
    c.program-2.ensures c.know_edges_under.ensures.fits in
    c.in_ok-remove_unreached.ensures.edges.fits_under (under.0 (c.in_ok-status.ensures.fits c.requires.fits))

pub returns-in_err-merge_chains-clause-error : goal.returns-in_err-merge_chains-clause-error
returns-in_err-merge_chains-clause-error g c =
    let decided = c.decide_branches.new.ctx.program in
    joining_stops g.D.Meanings.meaning c.args.ctx.now.program decided c.args.op
    c.in_ok-status.ensures.decided c.from_residual-in_err-merge_chains.result c.in_err-merge_chains.field-0.0
    c.from_residual-in_err-merge_chains.ensures.1
    c.remove_unreached.new.ctx.program
    (λ t stands. c.in_ok-remove_unreached.ensures.removed _ (begins decided c.args.op t stands) t stands)
    (ap (λ x. x.program) c.in_err-merge_chains.ensures.kept) c.in_err-merge_chains.ensures.refused

pub returns-clause-simplified : goal.returns-clause-simplified
returns-clause-simplified g c =
    let op = c.args.op in
    let decided = c.decide_branches.new.ctx.program in
    let cut = c.remove_unreached.new.ctx.program in
    record {
      decided = decided;
      cut = cut;
      decides = c.in_ok-status.ensures.decided;
      removes = λ t stands. c.in_ok-remove_unreached.ensures.removed _ (begins decided op t stands) t stands;
      joins = λ t stands. c.in_ok-merge_chains.ensures.merged _ (begins cut op t stands) t stands;
      loses_none = c.in_ok-remove_unreached.ensures.accepted;
      no_circle = c.in_ok-merge_chains.ensures.accepted;
    }

pub returns-clause-unchanged : goal.returns-clause-unchanged
returns-clause-unchanged g c =
    nothing_done g.D.Meanings.meaning c.args.ctx.now.program c.decide_branches.new.ctx.program
    c.remove_unreached.new.ctx.program c.args.op
    c.in_ok-status.status c.in_ok-remove_unreached.field-0 c.in_ok-merge_chains.field-0 c.bitor_assign-2.new.self
    c.in_ok-status.ensures.exact (λ e. ap (λ x. x.program) (c.in_ok-status.ensures.unchanged (ap Ok e)))
    c.in_ok-remove_unreached.ensures.unchanged (λ e. ap (λ x. x.program) (c.in_ok-remove_unreached.ensures.same e))
    c.in_ok-merge_chains.ensures.unchanged
    (c.bitor_assign-2.ensures ∙ ap (λ s. either s c.in_ok-merge_chains.field-0) c.bitor_assign.ensures)

pub returns-clause-tree : goal.returns-clause-tree
returns-clause-tree g c =
    tree_simplified g.D.Meanings.meaning c.args.ctx.now.program c.merge_chains.new.ctx.program c.args.op
    (returns-clause-simplified g c)

pub returns-in_err-remove_unreached-clause-handles : goal.returns-in_err-remove_unreached-clause-handles
returns-in_err-remove_unreached-clause-handles g c =
    handles_twice c.args.ctx.now.program c.decide_branches.new.ctx.program c.remove_unreached.new.ctx.program c.args.op
    c.decide_branches.ensures.handles c.remove_unreached.ensures.handles

pub returns-in_err-merge_chains-clause-handles : goal.returns-in_err-merge_chains-clause-handles
returns-in_err-merge_chains-clause-handles g c =
    handles_twice c.args.ctx.now.program c.remove_unreached.new.ctx.program c.merge_chains.new.ctx.program c.args.op
    (handles_twice c.args.ctx.now.program c.decide_branches.new.ctx.program c.remove_unreached.new.ctx.program c.args.op
    c.decide_branches.ensures.handles c.remove_unreached.ensures.handles) c.merge_chains.ensures.handles

pub returns-clause-handles : goal.returns-clause-handles
returns-clause-handles g c =
    handles_twice c.args.ctx.now.program c.remove_unreached.new.ctx.program c.merge_chains.new.ctx.program c.args.op
    (handles_twice c.args.ctx.now.program c.decide_branches.new.ctx.program c.remove_unreached.new.ctx.program c.args.op
    c.decide_branches.ensures.handles c.remove_unreached.ensures.handles) c.merge_chains.ensures.handles
