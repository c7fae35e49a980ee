use Rattle.std.proofs.Common.{◌≡◌, ◌+◌, [], ◌∷◌, add-one, drop, refl, sym, ap, ◌∙◌, arith, inl}
use Rattle.ir_grammar.specs.declared.grammar.Symbol.TheVariants.{Sign, Part, Act}
use Rattle.ir_grammar.specs.Table.{IsFine, AreKnownSymbols}
use Rattle.ir_grammar.specs.Run.{LeadsToStack}
use Rattle.ir_grammar.specs.Pending.{unread}
use Rattle.ir_grammar.proofs.Derivations.{leads_at, stuck_end}
use Rattle.ir_grammar.proofs.Closing.{closes_first, prefix_self, prefix_more}
use Rattle.ir_grammar.proofs.Depths.{tooks_acted}
use Rattle.ir_grammar.proofs.Steps.{rule_at, rule_within, step_leads, step_acted, step_fine, step_known, step_lower, stuck_at, on_acted, on_expanded, off_part, off_end, token_advances, token_grows, token_symbols, token_depth}
use Rattle.ir_grammar.proofs.grammar.Grammar.advance.Goals as goal
use Rattle.ir_grammar.proofs.grammar.Grammar.advance.Goals.{In-Sign, In-Part, In-Act, In_ok-expand-in-Some-pick, In_default}

-- what comes first
signed : (c : In-Sign) → unread c.loop-symbol.pending ≡ Sign c.in-Sign.sign ∷ drop 1 (unread c.first.new.self)
signed c = sym c.in-Some.ensures.same ∙ (c.in-Some.ensures.first.1 ∙ ap (λ x. x ∷ drop 1 (unread c.first.new.self)) c.in-Sign.is)

parted : (c : In-Part) → unread c.loop-symbol.pending ≡ Part c.in-Part.part ∷ drop 1 (unread c.first.new.self)
parted c = sym c.in-Some.ensures.same ∙ (c.in-Some.ensures.first.1 ∙ ap (λ x. x ∷ drop 1 (unread c.first.new.self)) c.in-Part.is)

acted : (c : In-Act) → unread c.loop-symbol.pending ≡ Act c.in-Act.action ∷ drop 1 (unread c.first.new.self)
acted c = sym c.in-Some.ensures.same ∙ (c.in-Some.ensures.first.1 ∙ ap (λ x. x ∷ drop 1 (unread c.first.new.self)) c.in-Act.is)

pub loop-symbol-init : goal.loop-symbol-init
loop-symbol-init c = record {
  leads = λ root done l. leads_at c.args.self.now c.requires.predictive root done _ _ (c.args.kind + 1) l;
  grows = prefix_self _;
  on = inl (λ root done l. closes_first c.args.self.now c.requires.predictive root done _ _ l);
  fine = c.requires.fine;
  known = c.requires.known;
  took = refl;
  depth = c.requires.depth;
}

-- the symbols at the token, and the ones behind it
unread_of : (c : In-Sign) → unread c.first.new.self ≡ Sign c.in-Sign.sign ∷ drop 1 (unread c.first.new.self)
unread_of c = c.in-Some.ensures.same ∙ signed c

pub returns-in-Sign-clause-advanced : goal.returns-in-Sign-clause-advanced
returns-in-Sign-clause-advanced c =
    let g = c.args.self.now in
    let same = sym c.in-Some.ensures.same in
    let on = rw same at c.loop-symbol.invariant.on in
    token_advances g c.requires.predictive (λ root done. LeadsToStack g root done c.args.events.now.items (unread c.args.pending.now)) c.take.result _ _ c.in-Sign.sign c.args.kind _ _ _
    (unread_of (goal.at.returns-in-Sign-clause-advanced c).In-Sign) on (λ root done l. rw c.in-Some.ensures.same (c.loop-symbol.invariant.leads root done l))
    c.take.ensures.accepts c.take.ensures.unread c.take.ensures.events

pub returns-in-Sign-clause-grows : goal.returns-in-Sign-clause-grows
returns-in-Sign-clause-grows c = token_grows c.take.result _ c.loop-symbol.events.items _ c.loop-symbol.invariant.grows c.take.ensures.events

pub returns-in-Sign-clause-fine : goal.returns-in-Sign-clause-fine
returns-in-Sign-clause-fine c =
    let fine = rw (sym c.in-Some.ensures.same) at c.loop-symbol.invariant.fine in
    let rest = rw (unread_of (goal.at.returns-in-Sign-clause-fine c).In-Sign) at fine in
    token_symbols (IsFine c.args.self.now) c.take.result _ _ _ fine rest c.take.ensures.unread

pub returns-in-Sign-clause-known : goal.returns-in-Sign-clause-known
returns-in-Sign-clause-known c =
    let known = rw (sym c.in-Some.ensures.same) at c.loop-symbol.invariant.known in
    let rest = rw (unread_of (goal.at.returns-in-Sign-clause-known c).In-Sign) at known in
    token_symbols (AreKnownSymbols c.args.self.now) c.take.result _ _ _ known rest.1 c.take.ensures.unread

pub returns-in-Sign-clause-depth : goal.returns-in-Sign-clause-depth
returns-in-Sign-clause-depth c =
    token_depth c.take.result c.args.deepest _ c.loop-symbol.events.items _ c.loop-symbol.depth c.loop-symbol.invariant.took c.loop-symbol.invariant.depth c.take.ensures.events

pub loop-symbol-preserved-in-Continue-1 : goal.loop-symbol-preserved-in-Continue-1
loop-symbol-preserved-in-Continue-1 c =
    let g = c.args.self.now in
    let did = c.in_ok-act-in-Act.ensures in
    let top = acted (goal.at.loop-symbol-preserved-in-Continue-1 c).In-Act in
    let fine = rw top at c.loop-symbol.invariant.fine in
    let known = rw top at c.loop-symbol.invariant.known in
    record {
      leads = λ root done l. rw did.unread (step_acted g c.requires.predictive root done _ _ _ _ _ (c.args.kind + 1) top did.events (c.loop-symbol.invariant.leads root done l));
      grows = rw did.events (prefix_more _ _ _ c.loop-symbol.invariant.grows);
      on = rw did.unread (on_acted g c.requires.predictive _ _ _ _ _ _ (c.args.kind + 1) top did.events c.loop-symbol.invariant.on);
      fine = rw did.unread fine;
      known = rw did.unread known;
      took = rw did.events (tooks_acted c.loop-symbol.events.items c.in-Act.action _ c.loop-symbol.invariant.took);
      depth = did.depth _ c.loop-symbol.invariant.took c.loop-symbol.invariant.depth;
    }

pub returns-in-None-clause-advanced : goal.returns-in-None-clause-advanced
returns-in-None-clause-advanced c root done l =
    let g = c.args.self.now in
    let top = parted (goal.at.returns-in-None-clause-advanced c).In-Part in
    let none = sym c.in-None.ensures in (
      rw (← add-one c.args.kind) (stuck_at g c.requires.predictive root done _ _ _ _ (c.args.kind + 1) top none c.loop-symbol.invariant.fine (c.loop-symbol.invariant.leads root done l)),
      rw c.in-Some.ensures.same (off_part g c.requires.predictive _ _ _ _ _ (c.args.kind + 1) top none c.loop-symbol.invariant.on root done l),
    )

pub expand-requires-clause-rule : goal.expand-requires-clause-rule
expand-requires-clause-rule c =
    rule_within c.args.self.now c.requires.predictive _ (c.args.kind + 1) c.in-Some-pick.rule (sym c.in-Some-pick.ensures)

of : (c : In_ok-expand-in-Some-pick) → c.in_ok-expand-in-Some-pick.ensures.0.part ≡ c.in-Part.part
of c = rule_at c.args.self.now c.requires.predictive _ (c.args.kind + 1) _ _ (sym c.in-Some-pick.ensures) c.in_ok-expand-in-Some-pick.ensures.1

pub loop-symbol-smaller : goal.loop-symbol-smaller
loop-symbol-smaller c =
    let d = (goal.at.loop-symbol-smaller c).In_ok-expand-in-Some-pick in
    let put = c.in_ok-expand-in-Some-pick.ensures in
    step_lower c.args.self.now c.requires.predictive _ _ _ _ _ _ (parted (goal.at.loop-symbol-smaller c).In-Part) (of d) put.1 put.2

pub loop-symbol-preserved : goal.loop-symbol-preserved
loop-symbol-preserved c =
    let g = c.args.self.now in
    let d = (goal.at.loop-symbol-preserved c).In_ok-expand-in-Some-pick in
    let put = c.in_ok-expand-in-Some-pick.ensures in
    let top = parted (goal.at.loop-symbol-preserved c).In-Part in
    let fine = c.loop-symbol.invariant.fine in
    let t = sym c.in-Some-pick.ensures in
    record {
      leads = λ root done l. step_leads g c.requires.predictive root done _ _ _ _ _ (c.args.kind + 1) _ _ top t put.1 put.2 fine (c.loop-symbol.invariant.leads root done l);
      grows = c.loop-symbol.invariant.grows;
      on = on_expanded g c.requires.predictive _ _ _ _ _ _ (c.args.kind + 1) _ _ top t put.1 put.2 fine c.loop-symbol.invariant.on;
      fine = step_fine g c.requires.predictive _ _ _ _ _ _ top (of d) put.1 put.2 fine;
      known = step_known g c.requires.predictive _ _ _ _ _ _ top put.1 put.2 c.loop-symbol.invariant.known;
      took = c.loop-symbol.invariant.took;
      depth = c.loop-symbol.invariant.depth;
    }

empty : (c : In_default) → unread c.loop-symbol.pending ≡ []
empty c = sym c.in_default.ensures.same ∙ c.in_default.ensures.first

pub returns-clause-advanced : goal.returns-clause-advanced
returns-clause-advanced c root done l =
    let g = c.args.self.now in
    let none = empty (goal.at.returns-clause-advanced c).In_default in
    let leads = rw none at (c.loop-symbol.invariant.leads root done l) in
    let on = rw none at c.loop-symbol.invariant.on in (
      rw (← add-one c.args.kind) (stuck_end g c.requires.predictive root done _ (c.args.kind + 1) (λ e. absurd (omega arith)) leads),
      rw c.in_default.ensures.first (off_end g c.requires.predictive _ _ (c.args.kind + 1) on root done l),
    )
