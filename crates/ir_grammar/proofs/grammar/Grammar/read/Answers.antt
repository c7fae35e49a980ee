use Rattle.std.proofs.Common.{false, ◌∷◌, ◌++◌, [], take, length, get_or, ap, not, ◌≡◌, ◌∙◌, arith, sym, subst, ◌≤◌}
use Rattle.std.proofs.lemmas.List.{take_more, length-take-le}
use Rattle.ir_grammar.specs.Run.{Advances, LeadsToStack, IsDepth}
use Rattle.ir_grammar.specs.Pending.{unread}
use Rattle.ir_grammar.proofs.Closing.{closes_first}
use Rattle.ir_grammar.proofs.Ends.{longest, reads_at, tooks_taken, cut}
use Rattle.ir_grammar.proofs.Depths.{depth_none, depth_some}
use Rattle.ir_grammar.proofs.grammar.Grammar.read.Goals as goal
use Rattle.ir_grammar.proofs.grammar.Grammar.read.Goals.{Then-not-branch, After-is_none}

-- a token is refused
refused : (c : Then-not-branch) → Advances c.args.self.now c.args.root (take c.loop-taken.taken c.args.kinds.now) (get_or c.args.kinds.now c.loop-taken.taken 0) false c.advance.new.events.items (unread c.advance.new.pending)
refused c = rw c.if-not-branch.true at (c.in_ok-advance.ensures.advanced c.args.root _ c.loop-taken.invariant.leads)

pub finish-requires-clause-took : goal.finish-requires-clause-took
finish-requires-clause-took c =
    let r = refused c in
    r.1.took ∙ length-take-le c.loop-taken.taken c.args.kinds.now (omega arith)

pub returns-then-not-branch-clause-reads : goal.returns-then-not-branch-clause-reads
returns-then-not-branch-clause-reads c =
    let g = c.args.self.now in
    let r = refused (goal.at.returns-then-not-branch-clause-reads c).Then-not-branch in
    let n : c.loop-taken.taken ≤ length c.args.kinds.now = omega arith in
    reads_at g c.args.root c.args.deepest c.args.kinds.now c.loop-taken.taken _ _ _
    (longest g c.requires.predictive c.args.root c.args.kinds.now _ _ c.loop-taken.taken n c.loop-taken.invariant.known c.loop-taken.invariant.leads (λ _. r.0))
    r.1 c.finish.ensures.taken c.finish.ensures.ends

-- a token is taken
taken : (c : After-is_none) → LeadsToStack c.args.self.now c.args.root (take c.loop-taken.taken c.args.kinds.now ++ get_or c.args.kinds.now c.loop-taken.taken 0 ∷ []) c.advance.new.events.items (unread c.advance.new.pending)
taken c =
    let h = rw c.if-not-branch.false at (c.in_ok-advance.ensures.advanced c.args.root _ c.loop-taken.invariant.leads) in
    h

pub returns-then-is_none-clause-reads : goal.returns-then-is_none-clause-reads
returns-then-is_none-clause-reads c =
    let d = (goal.at.returns-then-is_none-clause-reads c).After-is_none in
    cut c.args.self.now c.requires.predictive c.args.root c.args.deepest c.args.kinds.now _ _ _ c.loop-taken.taken _ c.loop-taken-test.true c.in_ok-advance.ensures.known
    (c.in_ok-advance.ensures.grows c.if-not-branch.false) (taken d) (depth_none c.args.deepest _ c.advance.new.events.items c.advance.new.depth (c.is_none.ensures ∙ ap not c.if-is_none.true) c.in_ok-advance.ensures.depth)

pub returns-then-is_none-clause-deep : goal.returns-then-is_none-clause-deep
returns-then-is_none-clause-deep c =
    let took = tooks_taken c.loop-taken.taken c.args.kinds.now (c.loop-taken.invariant.leads) (omega arith) in
    c.deep_at.ensures c.args.deepest c.advance.new.events.items (subst (λ n. IsDepth c.args.deepest n c.advance.new.events.items c.advance.new.depth) took c.in_ok-advance.ensures.depth)

pub loop-taken-preserved : goal.loop-taken-preserved
loop-taken-preserved c = record {
  leads = rw (take_more c.args.kinds.now c.loop-taken.taken 0 c.loop-taken-test.true) (taken (goal.at.loop-taken-preserved c).After-is_none);
  depth = depth_some c.args.deepest _ _ c.advance.new.events.items c.advance.new.depth (c.is_none.ensures ∙ ap not c.if-is_none.false) c.in_ok-advance.ensures.depth;
  fine = c.in_ok-advance.ensures.fine;
  known = c.in_ok-advance.ensures.known;
}

pub returns-clause-reads : goal.returns-clause-reads
returns-clause-reads c =
    let g = c.args.self.now in
    let e : c.loop-taken.taken ≡ length c.args.kinds.now = omega arith in
    let l = longest g c.requires.predictive c.args.root c.args.kinds.now _ _ c.loop-taken.taken (omega arith) c.loop-taken.invariant.known c.loop-taken.invariant.leads (λ lt. absurd (omega arith)) in
    let h = rw e at l in
    let leads = rw e at c.loop-taken.invariant.leads in
    reads_at g c.args.root c.args.deepest c.args.kinds.now (length c.args.kinds.now) _ _ _ h (closes_first g c.requires.predictive c.args.root _ _ _ leads) c.finish-2.ensures.taken c.finish-2.ensures.ends

pub advance-requires-clause-depth : goal.advance-requires-clause-depth
advance-requires-clause-depth c =
    let took = tooks_taken c.loop-taken.taken c.args.kinds.now c.loop-taken.invariant.leads (omega arith) in
    subst (λ n. IsDepth c.args.deepest n c.loop-taken.events.items c.loop-taken.depth) (sym took) c.loop-taken.invariant.depth

pub advance-requires-clause-fine : goal.advance-requires-clause-fine
advance-requires-clause-fine c = c.loop-taken.invariant.fine

pub finish-requires-clause-fine : goal.finish-requires-clause-fine
finish-requires-clause-fine c = c.in_ok-advance.ensures.fine

pub finish-requires-clause-known : goal.finish-requires-clause-known
finish-requires-clause-known c = c.in_ok-advance.ensures.known

pub finish-requires-clause-depth : goal.finish-requires-clause-depth
finish-requires-clause-depth c =
    let took = tooks_taken c.loop-taken.taken c.args.kinds.now c.loop-taken.invariant.leads (omega arith) in
    subst (λ n. IsDepth c.args.deepest n c.advance.new.events.items c.advance.new.depth) took c.in_ok-advance.ensures.depth

pub finish-requires-2-clause-depth : goal.finish-requires-2-clause-depth
finish-requires-2-clause-depth c =
    let e : c.loop-taken.taken ≡ length c.args.kinds.now = omega arith in
    subst (λ n. IsDepth c.args.deepest n c.loop-taken.events.items c.loop-taken.depth) e c.loop-taken.invariant.depth

pub finish-requires-2-clause-took : goal.finish-requires-2-clause-took
finish-requires-2-clause-took c =
    let e : c.loop-taken.taken ≡ length c.args.kinds.now = omega arith in
    tooks_taken c.loop-taken.taken c.args.kinds.now c.loop-taken.invariant.leads (omega arith) ∙ e

pub returns-then-not-branch-clause-deep : goal.returns-then-not-branch-clause-deep
returns-then-not-branch-clause-deep c = c.finish.ensures.deep

pub returns-clause-deep : goal.returns-clause-deep
returns-clause-deep c = c.finish-2.ensures.deep
