use Rattle.std.proofs.Common.{◌≡◌, slice_index, ◌-◌, arith, true, false, sym, ◌∙◌, ap}
use Rattle.std.proofs.lemmas.Slice.{between_from_start}
use Rattle.std.specs.Char.{is_whitespace}
use Rattle.ir_characters.specs.Texts.{codes_of}
use Rattle.ir_characters.proofs.Trimming.{trimmed_one_less, trimmed_front, trimmed_none}
use Rattle.ir_characters.proofs.text.Text.trim_end.Goals as goal
use Rattle.ir_characters.proofs.text.Text.trim_end.Goals.{then-loop-end-test+else-is_whitespace, else-loop-end-test}

pub loop-end-preserved : goal.loop-end-preserved
loop-end-preserved c =
    let white : is_whitespace (slice_index (codes_of c.args.self) (c.loop-end.end - 1)) ≡ true =
    ap is_whitespace (sym c.at.ensures.character) ∙ (sym c.is_whitespace.ensures ∙ c.if-is_whitespace.true) in
    let shorter = trimmed_one_less (codes_of c.args.self) c.loop-end.end (omega arith) (omega arith) white in
    (omega arith, shorter ∙ c.loop-end.invariant.1)

pub returns : goal.returns
returns c = elim c.loop-end-test.branch [
  | then-loop-end-test+else-is_whitespace w ↦
      let visible : is_whitespace (slice_index (codes_of c.args.self) (c.loop-end.end - 1)) ≡ false =
      ap is_whitespace (sym w.at.ensures.character) ∙ (sym w.is_whitespace.ensures ∙ w.if-is_whitespace.false) in
      let same = trimmed_front (codes_of c.args.self) c.loop-end.end (omega arith) (omega arith) visible in
      c.slice.ensures ∙ (between_from_start _ _ ∙ (sym same ∙ c.loop-end.invariant.1))
  | else-loop-end-test w ↦
      let same = trimmed_none (codes_of c.args.self) c.loop-end.end (omega arith) in
      c.slice.ensures ∙ (between_from_start _ _ ∙ (sym same ∙ c.loop-end.invariant.1))
]
