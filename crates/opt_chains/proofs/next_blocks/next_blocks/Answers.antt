use Rattle.std.proofs.Common.{ℕ, List, Option, IsSome, Ok, Err, Result, Vec, Global, subst}
use Rattle.std.specs.Prelude.{IfOk}
use Rattle.ir_program.specs.Program.{block_at}
use Rattle.ir_trees.specs.Stands.{by_handle, ProgramTree, StandsFor}
use Rattle.opt_inside.proofs.Around.{HasLists}
use Rattle.opt_inside.specs.Numbered.{numbers_of}
use Rattle.opt_steps.specs.ChainsJoined.{AreJoined}
use Rattle.opt_trees.specs.Simplify.{StartingRegions}
use Rattle.opt_inside.specs.reach.Starts.{IsStartIn}
use Rattle.opt_inside.specs.declared.reach.fates.Fate.{Fate}
use Rattle.opt_chains.specs.Chained.{LeadsWhereJoinable}
use Rattle.opt_chains.specs.NextBlocks.{AreChainBlocks}
use Rattle.opt_chains.proofs.NextJoinable.{Occurs, leads_where_joinable}
use Rattle.opt_chains.proofs.next_blocks.next_blocks.Goals as goal

pub chain_blocks-requires-clause-live : goal.chain_blocks-requires-clause-live
chain_blocks-requires-clause-live g c k b h =
    let x = c.know_occurrences.ensures.blocks_found c.know_tree.ensures.0 c.know_tree.ensures.1 b ((c.requires.numbered.blocks b).0 (k, h)) in
    let i = c.know_occurrences.ensures.blocks_sound c.know_tree.ensures.0 c.know_tree.ensures.1 x.0 x.1 in
    subst (λ z. IsSome (block_at c.args.program.now z)) x.2 i.spot.in_region.block

mapped : {X E : Type 0} (r : Result X E) (P Q : X → Type 0) → ((x : X) → P x → Q x) → IfOk r P → IfOk r Q
mapped (Ok x) P Q f h = f x h
mapped (Err e) P Q f h = h

pub returns : goal.returns
returns g c = mapped c.joined.result (λ (next : Vec (Option ℕ) Global). AreJoined c.as_slice-2.result.now next.items)
    (λ (next : Vec (Option ℕ) Global). (p : StartingRegions by_handle) → IsStartIn c.args.program.now c.args.start p → (t : ProgramTree g.row.D-Operation.Denot g.row.D-Block.Denot) → StandsFor c.args.program.now c.args.op t → LeadsWhereJoinable g.D.Meanings.meaning p t c.args.inside.now.blocks.keys next.items)
    (λ next joined p begins t stands.
    let lists : HasLists c.args.program.now = assumption c.know_lists.ensures in
    let occurs : Occurs c.args.program.now c.args.op t = record {
      sound = c.know_occurrences.ensures.sound t stands;
      found = c.know_occurrences.ensures.found t stands;
      one = c.know_occurrences.ensures.one t stands;
      blocks_sound = c.know_occurrences.ensures.blocks_sound t stands;
      blocks_found = c.know_occurrences.ensures.blocks_found t stands;
      blocks_one = c.know_occurrences.ensures.blocks_one t stands;
      site = c.know_occurrences.ensures.site t stands;
      operations = c.know_occurrences.ensures.operations t stands;
    } in
    let seen = subst (λ (fs : List Fate). AreChainBlocks g.D.Meanings.meaning c.args.program.now c.args.inside.now.blocks.keys fs c.in_ok-seen.seen.items) c.as_slice.ensures.value c.in_ok-seen.ensures in
    leads_where_joinable g.D.Meanings.meaning p c.args.program.now c.args.op t lists c.args.start begins c.requires.edges occurs (numbers_of c.args.inside.now) c.requires.numbered c.in_ok-fates.fates.items c.in_ok-fates.ensures.len (c.in_ok-fates.ensures.fates p begins t stands)
    c.in_ok-seen.seen.items seen next.items (subst (λ bs. AreJoined bs next.items) c.as_slice-2.ensures.value joined))
    c.joined.ensures
