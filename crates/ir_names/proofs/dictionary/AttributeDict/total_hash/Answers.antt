use Rattle.std.proofs.Common.{sym, ap, subst, ◌∙◌, ◌%◌, ◌^◌, ◌+◌, ℕ}
use Rattle.ir_names.proofs.HashTotal.{IsHashedTo, hash_begin, hash_next, hash_end}
use Rattle.ir_names.proofs.dictionary.AttributeDict.total_hash.Goals as goal

pub loop-name-init : goal.loop-name-init
loop-name-init g c =
    subst (λ left. IsHashedTo g.D.Attr.Hash.hash_input c.args.self.now left 0) (sym (c.into_iter-name-iterator.ensures.into_iter_gives ∙ c.iter-name-items.ensures.left))
    (hash_begin g.D.Attr.Hash.hash_input c.args.self.now)

pub loop-name-preserved : goal.loop-name-preserved
loop-name-preserved g c =
    hash_next g.D.Attr.Hash.hash_input c.args.self.now c.next.new.self (c.in-Some.name.now, c.in-Some.attr.now) c.loop-name.total _
    (subst (λ left. IsHashedTo g.D.Attr.Hash.hash_input c.args.self.now left c.loop-name.total) c.in-Some.ensures.steps c.loop-name.invariant)
    (ap (λ (n : ℕ). (c.loop-name.total + n) % 2 ^ 64) c.entry_hash-total.ensures)

pub returns : goal.returns
returns g c =
    hash_end g.D.Attr.Hash.hash_input c.args.self.now c.loop-name.total c.know_distinct.ensures
    (subst (λ left. IsHashedTo g.D.Attr.Hash.hash_input c.args.self.now left c.loop-name.total) c.in-None.ensures.steps.0 c.loop-name.invariant)
