use Rattle.std.proofs.Common.{ap, map, subst, arith, ◌≡◌, ◌∙◌}
use Rattle.std.specs.Str.{chars}
use Rattle.ir_characters.specs.Texts.{codes_of}
use Rattle.ir_formats.specs.Words.{spellings, kind_of}
use Rattle.ir_formats.specs.Rules.{texts, words_of}
use Rattle.ir_grammar.specs.Reading.{Reads}
use Rattle.text_reading.proofs.reading.read_text.Goals as goal

pub returns-clause-reading : goal.returns-clause-reading
returns-clause-reading g c =
    let d = g.D.TextDialect in
    let cs = codes_of c.args.chars in
    let ts = c.in_ok-classified.ensures.0 in
    let cut = c.in_ok-classified.ensures.1 in
    let r = c.in_ok-reading.reading in
    let known = c.in_ok-language.ensures in
    let words : spellings c.deref-2.result.now ≡ map chars (words_of d.formats) =
    ap spellings c.deref-2.ensures.value ∙ (c.in_ok-words.ensures ∙ ap (λ ws. map chars (texts ws)) c.deref.ensures.value) ∙ ap (map chars) known.words in
    let kinds : c.deref-3.result.now ≡ map (kind_of (map chars (words_of d.formats)) cs) ts =
    c.deref-3.ensures.value ∙ (cut.kinds ∙ ap (λ ws. map (kind_of ws cs) ts) words) in
    let many = cut.many in (
      ts,
      cut.places,
      record {
        tokens = cut.tokens;
        numbered = omega (arith, many);
        alike = cut.alike;
        reads = (c.in_ok-language.language.grammar, record { rules = known.rules; signs = known.signs; readable = known.can_read }, subst (λ ks. Reads c.in_ok-language.language.grammar 0 64 ks r.stop r.taken r.events.items) kinds c.in_ok-reading.ensures.reads);
      },
    )
