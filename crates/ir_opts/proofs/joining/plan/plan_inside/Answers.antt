use Rattle.std.proofs.Common.{◌≡◌, List, [], Ok, sym, ap, ◌∙◌, subst}
use Rattle.opt_chains.specs.Chained.{AreChains, StartsSomewhere, IsJoiningPlan}
use Rattle.opt_chains.specs.declared.merging.Join.{Join}
use Rattle.ir_opts.proofs.JoiningLemmas.SomeJoined.{empty_list, no_empty, none_joinable, some_joinable, begins_somewhere}
use Rattle.ir_opts.proofs.joining.plan.plan_inside.Goals as goal

pub returns-then-is_empty-clause-found : goal.returns-then-is_empty-clause-found
returns-then-is_empty-clause-found g c =
    none_joinable g.D.Meanings.meaning c.args.program.now c.args.op c.args.start c.in_ok-joins.joins.items c.in_ok-joins.ensures.chains
    (empty_list c.in_ok-joins.joins.items _ c.in_ok-joins.joins.ok.0 (sym c.is_empty.ensures ∙ c.if-is_empty.true))

pub find_stand_ins-requires-clause-chains : goal.find_stand_ins-requires-clause-chains
find_stand_ins-requires-clause-chains g c p begins t stands =
    subst (λ (js : List Join). AreChains g.D.Meanings.meaning p c.args.program.now t js) (sym c.as_slice.ensures.value) (c.in_ok-joins.ensures.chains p begins t stands)

pub returns-in-Some-clause-found : goal.returns-in-Some-clause-found
returns-in-Some-clause-found g c =
    let d = g.D.Meanings.meaning in
    let program = c.args.program.now in
    let js = c.in_ok-joins.joins.items in
    let some : js ≡ [] → ⊥ = no_empty js _ c.in_ok-joins.joins.ok.0 (sym c.is_empty.ensures ∙ c.if-is_empty.false) in
    let begins : StartsSomewhere program c.args.start = begins_somewhere d program c.args.op c.args.start js c.in_ok-joins.ensures.chains some c.in_ok-joins.ensures.begins in
    record {
      begins = begins;
      some = some_joinable d program c.args.op c.args.start js c.in_ok-joins.ensures.chains some begins c.know_tree.ensures;
      plan = λ p is t stands. subst (λ (l : List Join). IsJoiningPlan d p program t l c.in-Some.stand_ins.items) c.as_slice.ensures.value (c.in_ok-found.ensures.plan c.in-Some.stand_ins (ap Ok c.in-Some.is) p is t stands);
    }
