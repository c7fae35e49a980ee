use Rattle.std.proofs.Common.{take, subst, refl, sym, ◌∙◌, arith}
use Rattle.std.proofs.lemmas.Option.{slice_get-get_or}
use Rattle.ir_program.specs.Program.{no_handle}
use Rattle.opt_inside.proofs.Around.{HasLists}
use Rattle.opt_chains.specs.declared.merging.Join.{Join}
use Rattle.opt_chains.specs.Merging.{HasJoined}
use Rattle.opt_chains.proofs.MergeSteps.{none_joined, ready_now, one_more, take_more}
use Rattle.opt_chains.proofs.merging.join_all.Goals as goal

-- a step that is never taken
abbrev no_join : Join
no_join = record { first = no_handle; branch = no_handle; block = no_handle }

pub loop-join-init : goal.loop-join-init
loop-join-init g c = record { joined = none_joined c.args.ctx.now.program; types = refl; numbers = refl }

pub join_blocks-requires : goal.join_blocks-requires
join_blocks-requires g c =
    let lists : HasLists c.program.result.now = assumption c.know_lists.ensures in
    let now : HasLists c.loop-join.ctx.program = subst HasLists c.program.ensures lists in
    record { ready = ready_now c.args.ctx.now.program c.loop-join.ctx.program now (take c.loop-join.join-index c.args.joins.now) _ (c.requires.can c.loop-join.join-index _ (slice_get-get_or c.args.joins.now c.loop-join.join-index no_join (omega arith))) c.loop-join.invariant.joined (c.requires.unused _ (c.loop-join.join-index, slice_get-get_or c.args.joins.now c.loop-join.join-index no_join (omega arith))) }

pub loop-join-preserved : goal.loop-join-preserved
loop-join-preserved g c =
    let lists : HasLists c.program.result.now = assumption c.know_lists.ensures in
    let now : HasLists c.loop-join.ctx.program = subst HasLists c.program.ensures lists in
    let here = slice_get-get_or c.args.joins.now c.loop-join.join-index no_join (omega arith) in
    record {
      joined = subst (HasJoined c.args.ctx.now.program c.join_blocks.new.ctx.program) (sym (take_more c.args.joins.now c.loop-join.join-index _ here))
          (one_more c.args.ctx.now.program c.loop-join.ctx.program now (take c.loop-join.join-index c.args.joins.now) _ (c.requires.can c.loop-join.join-index _ here) c.loop-join.invariant.joined c.join_blocks.new.ctx.program c.join_blocks.ensures.joined);
      types = c.join_blocks.ensures.types ∙ c.loop-join.invariant.types;
      numbers = c.join_blocks.ensures.numbers ∙ c.loop-join.invariant.numbers;
    }
