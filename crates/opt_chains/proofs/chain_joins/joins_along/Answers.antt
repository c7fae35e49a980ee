use Rattle.std.proofs.Common.{◌≡◌, ℕ, ◌<◌, true, length, Some, slice_get, subst, sym, ap, ◌∙◌}
use Rattle.std.specs.Prelude.{◌↔◌, IfOk}
use Rattle.std.proofs.Common.{Ok, Err, Result, Vec, Global}
use Rattle.ir_trees.specs.Stands.{by_handle, ProgramTree, StandsFor}
use Rattle.opt_trees.specs.Simplify.{StartingRegions}
use Rattle.opt_inside.specs.reach.Starts.{IsStartIn}
use Rattle.opt_chains.specs.Chained.{AreChains}
use Rattle.opt_chains.specs.declared.merging.Join.{Join}
use Rattle.ir_trees.specs.Searched.{AreDistinct}
use Rattle.opt_inside.proofs.Around.{HasLists}
use Rattle.opt_chains.specs.ChainSteps.{AreLinks, AreWalked, IsFirst}
use Rattle.opt_chains.specs.NamedSteps.{HasExit, AreNamedSteps}
use Rattle.opt_chains.proofs.ChainGlue.{exits_of_steps, chains_of_steps}
use Rattle.opt_chains.proofs.ChainPaths.{links_named}
use Rattle.opt_chains.proofs.chain_joins.joins_along.Goals as goal

pub firsts-requires : goal.firsts-requires
firsts-requires g c =
    let lists : HasLists c.args.program.now = assumption c.know_lists.ensures in
    let leads = c.requires.next c.requires.begins.0 c.requires.begins.1 c.know_tree.ensures.0 c.know_tree.ensures.1 in
    let once : AreDistinct c.args.inside.now.blocks.keys = c.requires.numbered.blocks_once in
    let links : AreLinks c.args.next.now = links_named g.D.Meanings.meaning c.requires.begins.0 c.args.program.now c.args.op c.know_tree.ensures.0 lists c.args._start c.requires.begins.1 c.requires.edges (c.know_occurrences.ensures.sound c.know_tree.ensures.0 c.know_tree.ensures.1) (c.know_occurrences.ensures.found c.know_tree.ensures.0 c.know_tree.ensures.1) (c.know_occurrences.ensures.blocks_sound c.know_tree.ensures.0 c.know_tree.ensures.1) (c.know_occurrences.ensures.blocks_one c.know_tree.ensures.0 c.know_tree.ensures.1) c.args.inside.now.blocks.keys once c.args.next.now leads.len leads.named in
    record { within = links.within }

pub chain_steps-requires-clause-links : goal.chain_steps-requires-clause-links
chain_steps-requires-clause-links g c =
    let lists : HasLists c.args.program.now = assumption c.know_lists.ensures in
    let leads = c.requires.next c.requires.begins.0 c.requires.begins.1 c.know_tree.ensures.0 c.know_tree.ensures.1 in
    let once : AreDistinct c.args.inside.now.blocks.keys = c.requires.numbered.blocks_once in
    let links : AreLinks c.args.next.now = links_named g.D.Meanings.meaning c.requires.begins.0 c.args.program.now c.args.op c.know_tree.ensures.0 lists c.args._start c.requires.begins.1 c.requires.edges (c.know_occurrences.ensures.sound c.know_tree.ensures.0 c.know_tree.ensures.1) (c.know_occurrences.ensures.found c.know_tree.ensures.0 c.know_tree.ensures.1) (c.know_occurrences.ensures.blocks_sound c.know_tree.ensures.0 c.know_tree.ensures.1) (c.know_occurrences.ensures.blocks_one c.know_tree.ensures.0 c.know_tree.ensures.1) c.args.inside.now.blocks.keys once c.args.next.now leads.len leads.named in
    links

pub chain_steps-requires-clause-len : goal.chain_steps-requires-clause-len
chain_steps-requires-clause-len g c = ap length c.as_slice.ensures.value ∙ c.in_ok-marks.ensures.len

pub chain_steps-requires-clause-firsts : goal.chain_steps-requires-clause-firsts
chain_steps-requires-clause-firsts g c = subst (λ w. (f : ℕ) → f < length c.args.next.now → (slice_get w f ≡ Some true) ↔ IsFirst c.args.next.now f) (sym c.as_slice.ensures.value) c.in_ok-marks.ensures.firsts

pub name_steps-requires : goal.name_steps-requires
name_steps-requires g c k s here =
    let lists : HasLists c.args.program.now = assumption c.know_lists.ensures in
    let leads = c.requires.next c.requires.begins.0 c.requires.begins.1 c.know_tree.ensures.0 c.know_tree.ensures.1 in
    let once : AreDistinct c.args.inside.now.blocks.keys = c.requires.numbered.blocks_once in
    let walked : AreWalked c.args.next.now c.in_ok-steps.steps.items = c.in_ok-steps.ensures in
    subst (λ l. HasExit g.D.Meanings.meaning c.args.program.now l s) (sym c.as_slice-2.ensures.keys)
    (exits_of_steps g.D.Meanings.meaning c.requires.begins.0 c.args.program.now c.args.op c.know_tree.ensures.0 lists c.args._start c.requires.begins.1 c.requires.edges (c.know_occurrences.ensures.sound c.know_tree.ensures.0 c.know_tree.ensures.1) (c.know_occurrences.ensures.found c.know_tree.ensures.0 c.know_tree.ensures.1) (c.know_occurrences.ensures.blocks_sound c.know_tree.ensures.0 c.know_tree.ensures.1) (c.know_occurrences.ensures.blocks_one c.know_tree.ensures.0 c.know_tree.ensures.1) c.args.inside.now.blocks.keys once c.args.next.now leads c.in_ok-steps.steps.items walked.steps k s (ap (λ l. slice_get l k) (sym c.as_slice-3.ensures.value) ∙ here))

mapped : {X E : Type 0} (r : Result X E) (P Q : X → Type 0) → ((x : X) → P x → Q x) → IfOk r P → IfOk r Q
mapped (Ok x) P Q f h = f x h
mapped (Err e) P Q f h = h

pub returns : goal.returns
returns g c = mapped c.name_steps.result (λ (joins : Vec Join Global). AreNamedSteps g.D.Meanings.meaning c.args.program.now c.as_slice-2.result.now c.as_slice-3.result.now joins.items)
    (λ (joins : Vec Join Global). (p : StartingRegions by_handle) → IsStartIn c.args.program.now c.args._start p → (t : ProgramTree g.row.D-Operation.Denot g.row.D-Block.Denot) → StandsFor c.args.program.now c.args.op t → AreChains g.D.Meanings.meaning p c.args.program.now t joins.items)
    (λ joins names p begins t stands.
    let lists : HasLists c.args.program.now = assumption c.know_lists.ensures in
    let leads = c.requires.next p begins t stands in
    let once : AreDistinct c.args.inside.now.blocks.keys = c.requires.numbered.blocks_once in
    let walked : AreWalked c.args.next.now c.in_ok-steps.steps.items = c.in_ok-steps.ensures in
    let named = subst (λ l. AreNamedSteps g.D.Meanings.meaning c.args.program.now l c.in_ok-steps.steps.items joins.items) c.as_slice-2.ensures.keys (subst (λ l. AreNamedSteps g.D.Meanings.meaning c.args.program.now c.as_slice-2.result.now l joins.items) c.as_slice-3.ensures.value names) in
    chains_of_steps g.D.Meanings.meaning p c.args.program.now c.args.op t lists c.args._start begins c.requires.edges (c.know_occurrences.ensures.sound t stands) (c.know_occurrences.ensures.found t stands) (c.know_occurrences.ensures.blocks_sound t stands) (c.know_occurrences.ensures.blocks_one t stands) c.args.inside.now.blocks.keys once c.args.next.now leads c.in_ok-steps.steps.items walked joins.items named)
    c.name_steps.ensures
