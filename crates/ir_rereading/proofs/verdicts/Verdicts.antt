-- A text has one first fault, or none.
use Rattle.std.proofs.Common.{length, ◌≤◌, ◌≡◌, ℕ, true, List, Option, Some, None, map, sym, subst, ap, ◌∙◌}
use Rattle.std.specs.Str.{chars}
use Rattle.ir_grammar.specs.declared.grammar.Event.{Event}
use Rattle.ir_grammar.specs.declared.grammar.Stop.{Stop}
use Rattle.ir_tokens.specs.declared.tokens.Token.{Token}
use Rattle.ir_print.specs.Pieces.{Entity}
use Rattle.ir_tokens.specs.declared.faults.Fault.{Fault}
use Rattle.ir_tokens.specs.declared.faults.TextFault.{TextFault}
use Rattle.ir_formats.specs.Words.{kind_of, AlikeInNumber}
use Rattle.ir_formats.specs.Rules.{words_of, rules_of}
use Rattle.ir_formats.specs.Ordered.{PartPositions, is_ordered}
use Rattle.ir_tokens.specs.Faults.{IsNamed}
use Rattle.ir_rereading.specs.Texts.{IsReading, HasFault, IsTextFault, Says, tell, place_of}
use Rattle.ir_forest.specs.Language.{Language}
use Rattle.ir_tokens.proofs.TokenUnique.{one_reading_lem}
use Rattle.ir_formats.proofs.Ordered.{orders_texts}
use Rattle.ir_tokens.proofs.FirstFault.{named_along}
use Rattle.ir_rereading.proofs.verdicts.Agreeing.{reads_there}
use Rattle.ir_rereading.proofs.verdicts.DeepReadings.{verdict}
use Rattle.ir_rereading.proofs.verdicts.Renumbering.{renumbered}

-- the same reading, with other tokens that are the same and other numbers of names
renamed_reading : (l : Language) (cs : List ℕ) (ts : List Token) (names numbers : List ℕ) (stop : Stop) (n : ℕ) (es : List Event) → IsReading l cs ts names stop n es → AlikeInNumber cs ts numbers
    → length ts ≤ length numbers → IsReading l cs ts numbers stop n es
renamed_reading l cs ts names numbers stop n es r alike many = record { tokens = r.tokens; numbered = many; alike = alike; reads = r.reads }

-- where the numbers are the same
near : (l : Language) (leads : PartPositions) → is_ordered leads (rules_of l.formats) ≡ true → (cs : List ℕ) (ts : List Token) (names : List ℕ) (stop halt : Stop) (n m : ℕ) (es fs : List Event) (f g : Option Fault)
    → IsReading l cs ts names stop n es → IsReading l cs ts names halt m fs → IsNamed (HasFault l cs ts names stop n es) f → IsNamed (HasFault l cs ts names halt m fs) g → f ≡ g
near l leads ok cs ts names stop halt n m es fs f g r s named other =
    let here = r.reads in
    let there = s.reads in
    let ks = map (kind_of (map chars (words_of l.formats)) cs) ts in
    verdict l cs ts names here.0 (orders_texts here.0 leads (ap (is_ordered leads) here.1.rules ∙ ok)) ks stop halt n m es fs here.2
    (reads_there there.0 here.0 (there.1.rules ∙ sym here.1.rules) (there.1.signs ∙ sym here.1.signs) 0 64 ks halt m fs there.2) f g named other

pub one_verdict : (l : Language) (leads : PartPositions) → is_ordered leads (rules_of l.formats) ≡ true
    → (cs : List ℕ) (ts us : List Token) (names numbers : List ℕ) (stop halt : Stop) (n m : ℕ) (es fs : List Event) (f g : Option Fault)
    → IsReading l cs ts names stop n es → IsReading l cs us numbers halt m fs
    → IsNamed (HasFault l cs ts names stop n es) f → IsNamed (HasFault l cs us numbers halt m fs) g → f ≡ g
one_verdict l leads ok cs ts us names numbers stop halt n m es fs f g r s named other =
    let same = sym (one_reading_lem cs 0 ts us r.tokens s.tokens) in
    go (subst (λ xs. IsReading l cs xs numbers halt m fs) same s) (subst (λ xs. IsNamed (HasFault l cs xs numbers halt m fs) g) same other)
  where
    go : IsReading l cs ts numbers halt m fs → IsNamed (HasFault l cs ts numbers halt m fs) g → f ≡ g
    go q known =
        near l leads ok cs ts names stop halt n m es fs f g r (renamed_reading l cs ts numbers names halt m fs q r.alike r.numbered) named
        (named_along (HasFault l cs ts numbers halt m fs) (HasFault l cs ts names halt m fs) g (renumbered l cs ts numbers names halt m fs q r.alike)
        (renumbered l cs ts names numbers halt m fs (renamed_reading l cs ts numbers names halt m fs q r.alike r.numbered) q.alike) known)

pub one_told : (l : Language) (leads : PartPositions) → is_ordered leads (rules_of l.formats) ≡ true → (cs : List ℕ) (f g : TextFault) → IsTextFault l cs f → IsTextFault l cs g → f ≡ g
one_told l leads ok cs f g (ts, names, stop, n, es, x, r, named, told) (us, numbers, halt, m, fs, y, s, other, also) =
    let one : Some x ≡ Some y = one_verdict l leads ok cs ts us names numbers stop halt n m es fs (Some x) (Some y) r s named other in
    let same : x ≡ y = cc in
    told ∙ ap (λ z. tell z.kind (place_of cs ts z.place)) same ∙ ap (λ xs. tell y.kind (place_of cs xs y.place)) (one_reading_lem cs 0 ts us r.tokens s.tokens) ∙ sym also

pub no_fault_said : (l : Language) (leads : PartPositions) → is_ordered leads (rules_of l.formats) ≡ true → (cs : List ℕ) (f : TextFault) (tree : Entity ℕ) → IsTextFault l cs f → Says l cs tree → ⊥
no_fault_said l leads ok cs f tree (ts, names, stop, n, es, x, r, named, told) (us, numbers, halt, m, fs, forest, t, resolution, s, none, grown, within, resolved, is) =
    let one : Some x ≡ None = one_verdict l leads ok cs ts us names numbers stop halt n m es fs (Some x) None r s named none in cc
