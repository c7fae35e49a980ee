-- How many tokens reading takes.
use Rattle.std.proofs.Common.{ℕ, ◌≤◌, List, map, length, take, ap, arith}
use Rattle.std.proofs.lemmas.List.{length-take-le, length-map}
use Rattle.std.specs.Str.{chars}
use Rattle.ir_grammar.specs.declared.grammar.Event.{Event}
use Rattle.ir_grammar.specs.declared.grammar.Grammar.{Grammar}
use Rattle.ir_grammar.specs.declared.grammar.Stop.{Stop}
use Rattle.ir_grammar.specs.declared.grammar.Stop.TheVariants as stops
use Rattle.ir_tokens.specs.declared.tokens.Token.{Token}
use Rattle.ir_grammar.specs.Reading.{tooks, through, IsMostly, Reads}
use Rattle.ir_formats.specs.Rules.{words_of}
use Rattle.ir_formats.specs.Words.{kind_of}
use Rattle.ir_rereading.specs.Texts.{IsReading}
use Rattle.ir_forest.specs.Language.{Language}
use Rattle.ir_grammar.proofs.Derivations.{tooks_append}
use Rattle.ir_rereading.proofs.verdicts.Identifiers.{through_tooks}

most_taken : (front : List ℕ) (all es : List Event) → IsMostly (through all (length front)) es → tooks es ≤ length front
most_taken front all es m = omega (arith, through_tooks all (length front), tooks_append es m.0, ap tooks m.1)

reads_taken : (g : Grammar) (many n : ℕ) (ks : List ℕ) (stop : Stop) (es : List Event) → Reads g 0 many ks stop n es → tooks es ≤ length ks
reads_taken g many n ks stops.Text es r = let few = most_taken (take n ks) r.1.some.1 es r.1.some.3 in omega (arith, length-take-le n ks r.0.within, r.0.within)
reads_taken g many n ks stops.Stuck es r = let few = most_taken (take n ks) r.1.some.1 es r.1.some.3 in omega (arith, length-take-le n ks r.0.within, r.0.within)
reads_taken g many n ks stops.Deep es r = omega (arith, r.took, r.within)

-- reading takes no more tokens than there are
pub reading_taken : (l : Language) (cs : List ℕ) (ts : List Token) (names : List ℕ) (stop : Stop) (n : ℕ) (es : List Event) → IsReading l cs ts names stop n es → tooks es ≤ length ts
reading_taken l cs ts names stop n es r =
    let kind : Token → ℕ = kind_of (map chars (words_of l.formats)) cs in
    let few = reads_taken r.reads.0 64 n (map kind ts) stop es r.reads.2 in
    omega (arith, few, length-map ts kind)
