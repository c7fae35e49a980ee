use Rattle.std.proofs.Common.{◌≡◌, ◌∙◌, ◌≤◌, ◌+◌, List, [], Some, length, take, ap, subst, refl}
use Rattle.std.proofs.lemmas.List.{take_all}
use Rattle.ir_program.specs.declared.handles.Value.{Value}
use Rattle.text_dialect.specs.Seen.{seen}
use Rattle.text_frames.specs.building.Loose.{IsDefinedValue}
use Rattle.text_frames.specs.building.Made.{LinksOperands}
use Rattle.text_frames.proofs.BuildingLemmas.Later.{links_later, defined_later}
use Rattle.text_frames.proofs.BuildingLemmas.Linked.{links_none}
use Rattle.text_frames.proofs.BuildingLemmas.Numbers.{gives_none, gives_still}
use Rattle.text_frames.proofs.Linked.{named_value, one_defined, linked_more, holds_links}
use Rattle.text_frames.proofs.Opening.{as_many}
use Rattle.text_frames.proofs.linking.link_one.Goals as goal
use Rattle.text_frames.proofs.linking.link_one.Goals.{in-Some+in_ok-link_operands, in_default}

pub loop-token-init : goal.loop-token-init
loop-token-init g c = record {
  linked = λ vs said. links_none (seen c.args.ctx.now) c.args.op;
  numbers =
      gives_none c.args.ctx.now.program;
  types = refl;
}

pub link_operands-requires-clause-values : goal.link_operands-requires-clause-values
link_operands-requires-clause-values g c =
    let said = c.requires.meant in
    let s = seen c.args.ctx.now in
    let t = seen c.loop-token.ctx in
    let it = named_value s c.args.values.now c.args.resolution.now.definitions said.0
    c.args.tokens.now c.args.tokens.now c.loop-token.token-index c.value_of.result
    refl said.1 c.loop-token-test.true c.value_of.ensures in
    let same : it.0 ≡ c.in-Some.value = cc (it.2, c.in-Some.is) in
    let later = links_later s t c.args.op (take c.loop-token.token-index said.0) []
    (c.loop-token.invariant.linked said.0 said.1) in
    one_defined t c.in-Some.value (subst (λ (v : Value). IsDefinedValue t v) same (defined_later s t later it.0 it.3))

pub returns-in_err-link_operands-clause-held : goal.returns-in_err-link_operands-clause-held
returns-in_err-link_operands-clause-held g c start xs holds new =
    let said = c.requires.meant in
    let op = c.args.op in
    let front = c.in_err-link_operands.ensures.err in
    holds_links start (seen c.loop-token.ctx) (seen c.link_operands.new.ctx) op (take front.0 _) [] xs front.2 new
    (holds_links start (seen c.args.ctx.now) (seen c.loop-token.ctx) op (take c.loop-token.token-index said.0) [] xs
    (c.loop-token.invariant.linked said.0 said.1) new holds)

pub returns-in_err-link_operands-clause-numbers : goal.returns-in_err-link_operands-clause-numbers
returns-in_err-link_operands-clause-numbers g c =
    gives_still c.args.ctx.now.program c.loop-token.ctx.program c.link_operands.new.ctx.program 0
    c.loop-token.invariant.numbers c.link_operands.ensures.numbers

pub loop-token-preserved : goal.loop-token-preserved
loop-token-preserved g c =
    let now = c.loop-token.invariant in
    let s = seen c.args.ctx.now in
    let op = c.args.op in
    let i = c.loop-token.token-index in
    elim c.match-value_of.branch [
      | in-Some+in_ok-link_operands w ↦ rw w.ctx-is (record {
        linked = λ vs said.
            let it = named_value s c.args.values.now c.args.resolution.now.definitions vs
            c.args.tokens.now c.args.tokens.now i c.value_of.result
            refl said c.loop-token-test.true c.value_of.ensures in
            let same : it.0 ≡ w.in-Some.value = cc (it.2, w.in-Some.is) in
            linked_more s (seen c.loop-token.ctx) (seen w.link_operands.new.ctx) op vs i w.in-Some.value
            (now.linked vs said) (it.1 ∙ ap Some same) w.in_ok-link_operands.ensures.linked;
        numbers = gives_still c.args.ctx.now.program c.loop-token.ctx.program w.link_operands.new.ctx.program 0
            now.numbers w.link_operands.ensures.numbers;
        types = w.link_operands.ensures.types ∙ now.types;
      })
      | in_default w ↦ rw w.ctx-is (record {
        linked = λ vs said.
            let it = named_value s c.args.values.now c.args.resolution.now.definitions vs
            c.args.tokens.now c.args.tokens.now i c.value_of.result
            refl said c.loop-token-test.true c.value_of.ensures in
            let out : ⊥ = cc (it.2, w.in_default.is) in
            absurd {A = LinksOperands s (seen c.loop-token.ctx) op (take (i + 1) vs)} out;
        numbers = now.numbers;
        types = now.types;
      })
    ]

pub returns-clause-linked : goal.returns-clause-linked
returns-clause-linked g c vs said =
    let many : length vs ≡ length c.args.tokens.now = as_many _ vs c.args.tokens.now said in
    let few : length vs ≤ c.loop-token.token-index = rw many c.loop-token-test.false in
    subst (λ (ws : List Value). LinksOperands (seen c.args.ctx.now) (seen c.loop-token.ctx) c.args.op ws)
    (take_all c.loop-token.token-index vs few) (c.loop-token.invariant.linked vs said)

pub returns-clause-held : goal.returns-clause-held
returns-clause-held g c start xs holds new =
    let said = c.requires.meant in
    holds_links start (seen c.args.ctx.now) (seen c.loop-token.ctx) c.args.op
    (take c.loop-token.token-index said.0) [] xs (c.loop-token.invariant.linked said.0 said.1) new holds
