use Rattle.std.proofs.Common.{◌≡◌, ℕ, ap, arith, sym, slice_index, true, Vec}
use Rattle.std.specs.Char.{is_whitespace}
use Rattle.std.specs.Global.{Global}
use Rattle.ir_characters.specs.Texts.{codes_of}
use Rattle.ir_tokens.proofs.TokenSteps.{spells_after}
use Rattle.ir_formats.proofs.Classifying.{classifying_none, classifying_gap, classifying_more, classifying_done, classifying_bad}
use Rattle.ir_formats.proofs.words.Spellings.classify.Goals as goal

pub reading-init : goal.reading-init
reading-init c = (classifying_none _ _ _ _ _ _ _ c.requires.words c.requires.starts c.requires.kinds c.requires.names, c.requires.signs)

pub reading-preserved-then-is_blank : goal.reading-preserved-then-is_blank
reading-preserved-then-is_blank c =
    let white : is_whitespace (slice_index (codes_of c.args.chars) c.reading.at) ≡ true =
    rw (← c.at.ensures.character) (sym c.if-is_blank.ensures) in
    (classifying_gap _ (codes_of c.args.chars) _ c.reading.at _ _ _ _ _ (omega arith) white c.reading.invariant.0, c.reading.invariant.1)

pub classed-requires-clause-visible : goal.classed-requires-clause-visible
classed-requires-clause-visible c = rw (← c.at.ensures.character) (sym c.if-is_blank.ensures)

pub returns-in-Bad : goal.returns-in-Bad
returns-in-Bad c =
    let same = ap (λ (v : Vec ℕ Global). v.items) c.classed.ensures.words in
    classifying_bad _ (codes_of c.args.chars) _ c.reading.at _ _ _ _ _ _ _ _ _ _ c.in_ok-next.next.token _ _
    c.reading.invariant.0 c.in_ok-next.ensures.start c.in_ok-next.ensures.token c.in-Bad.is
    c.in_ok-next.ensures.known same c.in_ok-next.ensures.kind c.in_ok-next.ensures.name
    c.in_ok-add.ensures.starts c.in_ok-add.ensures.kinds c.in_ok-add.ensures.names

pub reading-smaller : goal.reading-smaller
reading-smaller c =
    let token = c.in_ok-next.ensures.token in
    let after = spells_after (codes_of c.args.chars) _ _ _ token.spelled c.in_default.not-Bad in
    omega (arith, after, c.in_ok-next.ensures.start, token.inside)

pub reading-preserved : goal.reading-preserved
reading-preserved c =
    let same = ap (λ (v : Vec ℕ Global). v.items) c.classed.ensures.words in (
      classifying_more _ (codes_of c.args.chars) _ c.reading.at _ _ _ _ _ _ _ _ _ _ c.in_ok-next.next.token _ _
          c.reading.invariant.0 c.in_ok-next.ensures.start c.in_ok-next.ensures.token c.in_default.not-Bad
          c.in_ok-next.ensures.known same c.in_ok-next.ensures.kind c.in_ok-next.ensures.name
          c.in_ok-add.ensures.starts c.in_ok-add.ensures.kinds c.in_ok-add.ensures.names,
      c.in_ok-next.ensures.signs,
    )

pub returns : goal.returns
returns c = classifying_done _ (codes_of c.args.chars) _ c.reading.at _ _ _ _ _ (omega arith) c.reading.invariant.0
