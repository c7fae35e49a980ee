use Rattle.std.proofs.Common.{map}
use Rattle.ir_formats.specs.Making.{kind_of}
use Rattle.ir_formats.proofs.Numbered.{kind_here, no_kind_left}
use Rattle.ir_formats.proofs.Makes.{kind_words_more, kind_words_done}
use Rattle.ir_formats.proofs.rules.add_kinds.Goals as goal

pub returns : goal.returns
returns c =
    let ks = c.args.kinds.now in
    let i = c.loop-kind.kind-index in
    kind_words_done (map kind_of ks) i _ _ (no_kind_left ks i c.loop-kind-test.false) c.loop-kind.invariant

pub loop-kind-preserved : goal.loop-kind-preserved
loop-kind-preserved c =
    let ks = c.args.kinds.now in
    let i = c.loop-kind.kind-index in
    kind_words_more (map kind_of ks) i _ _ _ _ _ (kind_here ks i _ c.loop-kind-test.true) c.loop-kind.invariant
    c.in_ok-add_word.ensures c.in_ok-add_format.ensures
