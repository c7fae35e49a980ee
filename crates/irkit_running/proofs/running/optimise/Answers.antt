use Rattle.std.proofs.Common.{IsSome, map, subst, sym}
use Rattle.ir_program.specs.Program.{Program, operation_at}
use Rattle.ir_trees.specs.Stands.{StandsFor}
use Rattle.kit.specs.Context.{KitTree}
use Rattle.kit.specs.Meaning.{KitOperation, KitBlock}
use Rattle.kit_optimiser.specs.Passed.{pass_of}
use Rattle.irkit_running.proofs.PassLemmas.{stays_writable}
use Rattle.irkit_running.proofs.running.optimise.Goals as goal

pub know_tree-requires : goal.know_tree-requires
know_tree-requires c =
    subst (λ (p : Program KitOperation KitBlock). IsSome (operation_at p c.args.root)) (sym c.program.ensures) c.requires.holds.live

pub know_ordinary-requires : goal.know_ordinary-requires
know_ordinary-requires c = c.requires.holds.live

pub know_ordinary-requires-2 : goal.know_ordinary-requires-2
know_ordinary-requires-2 c = c.in_ok-run_passes.ensures.optimised.holds.live

pub returns-clause-writable : goal.returns-clause-writable
returns-clause-writable c =
    let old = c.args.ctx.now in
    let root = c.args.root in
    let found : (t : KitTree) × StandsFor old.program root t =
    subst (λ (p : Program KitOperation KitBlock). (t : KitTree) × StandsFor p root t) c.program.ensures c.know_tree.ensures in
    stays_writable (map pass_of c.args.passes.now) old c.run_passes.new.ctx root found.0 found.1 c.requires.writable
    c.in_ok-run_passes.ensures.optimised

pub returns-clause-holds : goal.returns-clause-holds
returns-clause-holds c = c.in_ok-run_passes.ensures.optimised.holds

pub returns-clause-programs : goal.returns-clause-programs
returns-clause-programs c =
    let old = c.args.ctx.now in
    let root = c.args.root in
    let found : (t : KitTree) × StandsFor old.program root t =
    subst (λ (p : Program KitOperation KitBlock). (t : KitTree) × StandsFor p root t) c.program.ensures c.know_tree.ensures in
    λ numbered numbering.
    c.optimised_modules_have_programs.ensures (map pass_of c.args.passes.now) old c.run_passes.new.ctx root found.0 numbered
    c.requires.holds found.1 c.know_ordinary.ensures c.in_ok-run_passes.ensures.optimised c.know_ordinary-2.ensures numbering
