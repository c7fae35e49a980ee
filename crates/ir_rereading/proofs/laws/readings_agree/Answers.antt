use Rattle.std.proofs.Common.{List, map, sym, subst, ◌∙◌}
use Rattle.ir_tokens.specs.declared.tokens.Token.{Token}
use Rattle.std.specs.Str.{chars}
use Rattle.ir_formats.specs.Words.{kind_of}
use Rattle.ir_formats.specs.Rules.{words_of}
use Rattle.ir_grammar.specs.Reading.{Reads}
use Rattle.ir_tokens.proofs.TokenUnique.{one_reading_lem}
use Rattle.ir_rereading.proofs.verdicts.Agreeing.{reads_there, one_stop}
use Rattle.ir_rereading.proofs.laws.readings_agree.Goals as goal

pub returns : goal.returns
returns c = record {
  tokens = λ l cs ts us names numbers stop halt n m es fs r s. one_reading_lem cs 0 ts us r.tokens s.tokens;
  stops = λ l cs ts us names numbers stop halt n m es fs r s.
      let here = r.reads in
      let there = s.reads in
      let kinds = λ (xs : List Token). map (kind_of (map chars (words_of l.formats)) cs) xs in
      one_stop here.0 0 64 (kinds ts) stop halt n m es fs here.2
      (reads_there there.0 here.0 (there.1.rules ∙ sym here.1.rules) (there.1.signs ∙ sym here.1.signs) 0 64 (kinds ts) halt m fs
      (subst (λ xs. Reads there.0 0 64 (kinds xs) halt m fs) (sym (one_reading_lem cs 0 ts us r.tokens s.tokens)) there.2));
}
