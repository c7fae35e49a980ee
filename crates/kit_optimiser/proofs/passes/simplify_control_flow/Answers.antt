use Rattle.std.proofs.Common.{inl, subst}
use Rattle.ir_program.specs.Lists.{itself}
use Rattle.ir_program.specs.Program.{Program}
use Rattle.ir_trees.specs.Stands.{StandsFor}
use Rattle.kit.specs.Context.{KitTree}
use Rattle.kit.specs.Meaning.{KitOperation, KitBlock}
use Rattle.kit_optimiser.proofs.Refusals.{memory_of, stops_for_memory}
use Rattle.kit_optimiser.proofs.WhatPassesLeave.{IsLeft, live, simplified}
use Rattle.kit_optimiser.proofs.passes.simplify_control_flow.Goals as goal

pub know_edges-requires-clause-inside : goal.know_edges-requires-clause-inside
know_edges-requires-clause-inside c = itself

pub know_handles_and_types-requires-in-Ok : goal.know_handles_and_types-requires-in-Ok
know_handles_and_types-requires-in-Ok c =
    let old = c.args.ctx.now in
    let new = c.simplify_cfg.new.ctx in
    let root = c.args.root in
    let t : (t : KitTree) × StandsFor old.program root t =
    subst (λ (p : Program KitOperation KitBlock). (t : KitTree) × StandsFor p root t) c.program.ensures
    c.know_tree.ensures in
    let made = c.in-Ok.ensures.tree t.0 t.1 in
    live new.program root _ made.stands

pub shortage_of-requires : goal.shortage_of-requires
shortage_of-requires c =
    let old = c.args.ctx.now in
    let new = c.simplify_cfg.new.ctx in
    inl (stops_for_memory old.program new.program c.args.root c.in-Err.error c.in-Err.ensures.error
    (c.know_no_live_use.ensures new.program))

pub returns-in-Ok-clause-passed : goal.returns-in-Ok-clause-passed
returns-in-Ok-clause-passed c =
    let old = c.args.ctx.now in
    let new = c.simplify_cfg.new.ctx in
    let root = c.args.root in
    let known : IsLeft old new root = record {
      tree = subst (λ (p : Program KitOperation KitBlock). (t : KitTree) × StandsFor p root t) c.program.ensures
          c.know_tree.ensures;
      types = c.in-Ok.ensures.types;
      apart = c.know_handles_and_types.ensures.apart;
      typed = c.know_handles_and_types.ensures.typed;
      typed_after = c.know_handles_and_types-in-Ok.ensures.typed;
      entered = c.simplify_stays_apart.ensures.entered new c.in-Ok.ensures.tree c.requires.entered;
      contained = c.simplify_stays_apart.ensures.contained new c.in-Ok.ensures.tree c.requires.contained;
    } in
    simplified old new root c.requires known c.simplify_keeps_rules.ensures c.simplify_stays_writable.ensures
    c.know_definers.ensures c.know_edges.ensures.local
    (λ t stands. c.simplified_stand_alone.ensures old.program new.program root t
    (λ w says. c.know_surroundings.ensures.constants w says t stands) (c.in-Ok.ensures.tree t stands))

pub returns-in-Err-clause-memory : goal.returns-in-Err-clause-memory
returns-in-Err-clause-memory c =
    let old = c.args.ctx.now in
    let new = c.simplify_cfg.new.ctx in
    memory_of c.in-Err.error c.shortage_of.result c.shortage_of.ensures
    (stops_for_memory old.program new.program c.args.root c.in-Err.error c.in-Err.ensures.error
    (c.know_no_live_use.ensures new.program))

pub returns-in-Ok-clause-outside : goal.returns-in-Ok-clause-outside
returns-in-Ok-clause-outside c =
    (c.know_rest.ensures.simplified c.simplify_cfg.new.ctx.program c.in-Ok.ensures.tree).kept

pub returns-in-Ok-clause-stays : goal.returns-in-Ok-clause-stays
returns-in-Ok-clause-stays c =
    (c.know_rest.ensures.simplified c.simplify_cfg.new.ctx.program c.in-Ok.ensures.tree).stays

pub returns-in-Ok-clause-none_come : goal.returns-in-Ok-clause-none_come
returns-in-Ok-clause-none_come c =
    (c.know_rest.ensures.simplified c.simplify_cfg.new.ctx.program c.in-Ok.ensures.tree).none_come

pub returns-in-Err-clause-outside : goal.returns-in-Err-clause-outside
returns-in-Err-clause-outside c =
    c.know_rest.ensures.stopped c.simplify_cfg.new.ctx.program c.in-Err.error c.in-Err.ensures.error
