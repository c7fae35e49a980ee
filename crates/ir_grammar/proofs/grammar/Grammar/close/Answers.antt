use Rattle.std.proofs.Common.{◌≡◌, [], ◌∷◌, drop, sym, ap, ◌∙◌}
use Rattle.ir_grammar.specs.declared.grammar.Symbol.TheVariants.{Sign, Part, Act}
use Rattle.ir_grammar.specs.Pending.{unread}
use Rattle.ir_grammar.proofs.Depths.{tooks_acted}
use Rattle.ir_grammar.proofs.Closing.{closes_acted, closes_expanded, stops_sign, stops_part, closes_all}
use Rattle.ir_grammar.proofs.Steps.{closing_at, closing_within, step_fine, step_known, step_lower}
use Rattle.ir_grammar.proofs.grammar.Grammar.close.Goals as goal
use Rattle.ir_grammar.proofs.grammar.Grammar.close.Goals.{In-Sign, In-Part, In-Act, In_ok-expand-in-Some-closing, In_default}

-- what comes first
signed : (c : In-Sign) → unread c.loop-symbol.pending ≡ Sign c.in-Sign.field-0 ∷ drop 1 (unread c.first.new.self)
signed c = sym c.in-Some.ensures.same ∙ (c.in-Some.ensures.first.1 ∙ ap (λ x. x ∷ drop 1 (unread c.first.new.self)) c.in-Sign.is)

parted : (c : In-Part) → unread c.loop-symbol.pending ≡ Part c.in-Part.part ∷ drop 1 (unread c.first.new.self)
parted c = sym c.in-Some.ensures.same ∙ (c.in-Some.ensures.first.1 ∙ ap (λ x. x ∷ drop 1 (unread c.first.new.self)) c.in-Part.is)

acted : (c : In-Act) → unread c.loop-symbol.pending ≡ Act c.in-Act.action ∷ drop 1 (unread c.first.new.self)
acted c = sym c.in-Some.ensures.same ∙ (c.in-Some.ensures.first.1 ∙ ap (λ x. x ∷ drop 1 (unread c.first.new.self)) c.in-Act.is)

pub returns-in-Sign-clause-ends : goal.returns-in-Sign-clause-ends
returns-in-Sign-clause-ends c root done l =
    let top = signed (goal.at.returns-in-Sign-clause-ends c).In-Sign in
    let known = rw top at c.loop-symbol.invariant.known in
    let closes = rw top at (c.loop-symbol.invariant.closes root done l) in
    stops_sign c.args.self.now c.requires.predictive root done _ _ _ known closes

pub loop-symbol-preserved-in-Continue-1 : goal.loop-symbol-preserved-in-Continue-1
loop-symbol-preserved-in-Continue-1 c =
    let did = c.in_ok-act-in-Act.ensures in
    let top = acted (goal.at.loop-symbol-preserved-in-Continue-1 c).In-Act in
    let fine = rw top at c.loop-symbol.invariant.fine in
    let known = rw top at c.loop-symbol.invariant.known in
    record {
      closes = λ root done l. let closes = rw top at (c.loop-symbol.invariant.closes root done l) in
          rw (did.unread, did.events) (closes_acted c.args.self.now c.requires.predictive root done _ _ _ closes);
      fine = rw did.unread fine;
      known = rw did.unread known;
      took = rw did.events (tooks_acted c.loop-symbol.events.items c.in-Act.action _ c.loop-symbol.invariant.took);
      depth = did.depth _ c.loop-symbol.invariant.took c.loop-symbol.invariant.depth;
    }

pub returns-in-None-clause-ends : goal.returns-in-None-clause-ends
returns-in-None-clause-ends c root done l =
    let top = parted (goal.at.returns-in-None-clause-ends c).In-Part in
    let fine = rw top at c.loop-symbol.invariant.fine in
    let known = rw top at c.loop-symbol.invariant.known in
    let closes = rw top at (c.loop-symbol.invariant.closes root done l) in
    stops_part c.args.self.now c.requires.predictive root done _ _ _ fine known (sym c.in-None.ensures) closes

pub expand-requires-clause-rule : goal.expand-requires-clause-rule
expand-requires-clause-rule c =
    closing_within c.args.self.now c.requires.predictive _ c.in-Some-closing.rule (sym c.in-Some-closing.ensures)

of : (c : In_ok-expand-in-Some-closing) → c.in_ok-expand-in-Some-closing.ensures.0.part ≡ c.in-Part.part
of c = closing_at c.args.self.now c.requires.predictive _ _ _ (sym c.in-Some-closing.ensures) c.in_ok-expand-in-Some-closing.ensures.1

pub loop-symbol-smaller : goal.loop-symbol-smaller
loop-symbol-smaller c =
    let d = (goal.at.loop-symbol-smaller c).In_ok-expand-in-Some-closing in
    let put = c.in_ok-expand-in-Some-closing.ensures in
    step_lower c.args.self.now c.requires.predictive _ _ _ _ _ _ (parted (goal.at.loop-symbol-smaller c).In-Part) (of d) put.1 put.2

pub loop-symbol-preserved : goal.loop-symbol-preserved
loop-symbol-preserved c =
    let g = c.args.self.now in
    let d = (goal.at.loop-symbol-preserved c).In_ok-expand-in-Some-closing in
    let put = c.in_ok-expand-in-Some-closing.ensures in
    let top = parted (goal.at.loop-symbol-preserved c).In-Part in
    let fine = c.loop-symbol.invariant.fine in
    let fine' = rw top at fine in
    record {
      closes = λ root done l. let closes = rw top at (c.loop-symbol.invariant.closes root done l) in
          rw put.2 (closes_expanded g c.requires.predictive root done _ _ _ _ _ fine' (sym c.in-Some-closing.ensures) put.1 (of d) closes);
      fine = step_fine g c.requires.predictive _ _ _ _ _ _ top (of d) put.1 put.2 fine;
      known = step_known g c.requires.predictive _ _ _ _ _ _ top put.1 put.2 c.loop-symbol.invariant.known;
      took = c.loop-symbol.invariant.took;
      depth = c.loop-symbol.invariant.depth;
    }

empty : (c : In_default) → unread c.loop-symbol.pending ≡ []
empty c = sym c.in_default.ensures.same ∙ c.in_default.ensures.first

pub returns-clause-ends : goal.returns-clause-ends
returns-clause-ends c root done l =
    let closes = rw (empty (goal.at.returns-clause-ends c).In_default) at (c.loop-symbol.invariant.closes root done l) in
    closes_all c.args.self.now c.requires.predictive root done _ closes
