use Rattle.std.proofs.Common.{◌≡◌, length, sym, ◌∙◌}
use Rattle.ir_names.proofs.Equalled.{unequal_length, equal_within}
use Rattle.ir_names.proofs.dictionary.AttributeDictPartialEq.eq.Goals as goal

pub returns-then-len : goal.returns-then-len
returns-then-len g c =
    let same : length c.args.self.now ≡ length c.args.other.now = sym c.len.ensures ∙ (c.if-len.true ∙ c.len-2.ensures) in
    c.is_within.ensures ∙ equal_within g.D.Attr.PartialEq.eq c.args.self.now c.args.other.now c.know_distinct.ensures c.know_distinct-2.ensures same

pub returns-else-len : goal.returns-else-len
returns-else-len g c =
    rw (c.len.ensures, c.len-2.ensures) (unequal_length g.D.Attr.PartialEq.eq c.args.self.now c.args.other.now c.know_distinct.ensures c.know_distinct-2.ensures
    (λ same. c.if-len.false (c.len.ensures ∙ (same ∙ sym c.len-2.ensures))))
