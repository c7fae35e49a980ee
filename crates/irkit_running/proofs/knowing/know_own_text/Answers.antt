use Rattle.std.proofs.Common.{◌≡◌, subst}
use Rattle.ir_program.specs.Program.{Program, IsLiveValue}
use Rattle.ir_program.specs.Lists.{itself}
use Rattle.ir_program.specs.declared.handles.Value.{Value}
use Rattle.ir_trees.specs.Stands.{StandsFor}
use Rattle.kit.specs.Context.{KitTree}
use Rattle.kit.specs.Meaning.{KitOperation, KitBlock}
use Rattle.opt_inside.proofs.Around.{HasLists}
use Rattle.opt_inside.proofs.Values.{defined}
use Rattle.opt_trees.specs.Occurrences.{Has, defined_in}
use Rattle.irkit_running.proofs.HoldingLemmas.{AreTypedAtDefiners, live_below, module_gives_nothing, module_goes_nowhere}
use Rattle.irkit_running.proofs.knowing.know_own_text.Goals as goal

pub know_holding-requires : goal.know_holding-requires
know_holding-requires c = c.requires.holds.live

pub know_edges-requires-clause-inside : goal.know_edges-requires-clause-inside
know_edges-requires-clause-inside c = itself

pub returns : goal.returns
returns c =
    let s = c.args.ctx.now in
    let root = c.args.root in
    let program = c.program-program.ensures in
    let found : (t : KitTree) × StandsFor s.program root t =
    subst (λ (p : Program KitOperation KitBlock). (t : KitTree) × StandsFor p root t) program c.know_tree.ensures in
    let t = found.0 in
    let stands = found.1 in
    let lists : HasLists s.program = subst HasLists program (record {
      operations_once = c.know_lists.ensures.operations_once;
      blocks_once = c.know_lists.ensures.blocks_once;
      regions_once = c.know_lists.ensures.regions_once;
      operations = c.know_lists.ensures.operations;
      blocks = c.know_lists.ensures.blocks;
      regions = c.know_lists.ensures.regions;
      operation_apart = c.know_lists.ensures.operation_apart;
      block_apart = c.know_lists.ensures.block_apart;
    }) in
    let typed : AreTypedAtDefiners s.program = subst AreTypedAtDefiners program c.know_values.ensures.typed in
    let own : (v w : Value) → IsLiveValue s.program v → IsLiveValue s.program w → v.number ≡ w.number → v ≡ w =
    subst (λ (p : Program KitOperation KitBlock). (v w : Value) → IsLiveValue p v → IsLiveValue p w → v.number ≡ w.number → v ≡ w)
    program c.know_values.ensures.own in
    let live : (v : Value) → Has v (defined_in t.regions) → IsLiveValue s.program v =
    (λ v has. live_below s.program typed root v ((defined s.program lists root t stands v).0 has)) in
    let text = c.writable_trees_have_texts.ensures s root t stands (c.requires.writable t stands)
    (module_gives_nothing s t (c.requires.holds.rules t stands)) (c.know_scopes.ensures.scoped.root_takes_none t stands)
    (module_goes_nowhere s t (c.requires.holds.rules t stands)) (c.know_scopes.ensures.scoped.inside t stands)
    (c.know_edges.ensures.scoped t stands) (c.know_ordinary.ensures t stands).0.values
    (λ v w h k e. own v w (live v h) (live w k) e) (c.know_ordinary.ensures t stands).0.blocks in
    record {
      tree = text.text;
      holds = c.know_holding.ensures text.text text.numbering text.distinct text.stands text.closed text.numbered;
      closed = text.closed;
      numbered = text.numbered;
    }
