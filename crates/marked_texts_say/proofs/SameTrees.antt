-- What alike texts say.
use Rattle.std.proofs.Common.{◌≡◌, ◌↔◌, ℕ, ◌≤◌, inl, inr, List, [], length, map, arith, sym, subst}
use Rattle.std.specs.Prelude.{chars}
use Rattle.ir_characters.specs.Texts.{owned_codes}
use Rattle.ir_forest.specs.Language.{Language}
use Rattle.ir_forest.specs.Meaning.{operations_in}
use Rattle.ir_forest.specs.ValueFaults.{HasNumberFault, HasNamesFault}
use Rattle.ir_formats.specs.Rules.{words_of}
use Rattle.ir_grammar.specs.declared.grammar.Event.{Event}
use Rattle.ir_grammar.specs.declared.grammar.Stop.{Stop}
use Rattle.ir_grammar.specs.Reading.{Reads}
use Rattle.ir_print.specs.Pieces.{Entity, an_entity, no_entity}
use Rattle.ir_rereading.specs.Texts.{HasFault, IsReading, IsSyntaxFault, Says}
use Rattle.ir_tokens.specs.declared.faults.Fault.{Fault}
use Rattle.ir_tokens.specs.declared.tokens.Token.{Token}
use Rattle.ir_tokens.specs.Tokens.{ReadsAs}
use Rattle.ir_tokens.proofs.TokenUnique.{one_reading_lem}
use Rattle.text_marking.specs.declared.taking.MarkedText.{MarkedText}
use Rattle.text_marking.specs.Marks.{marks_of, without_marks}
use Rattle.text_marking.specs.PutAndTaken.{CanPut, GivesBack}
use Rattle.text_marking.specs.Putting.{with_marks}
use Rattle.text_marking.specs.Taking.{TakesMarks}
use Rattle.text_marking.proofs.PutAndTaken.{put_and_taken}
use Rattle.marked_texts_say.specs.Alike.{AreAlike}
use Rattle.marked_texts_say.proofs.SameTokens.{alike_back, same_kinds, same_length, same_numbers, same_token_texts}

-- they are read alike
pub reads_alike : (l : Language) (cs ds : List ℕ) (ts us : List Token) → AreAlike cs ts ds us → (names : List ℕ) (stop : Stop) (n : ℕ) (es : List Event)
    → IsReading l cs ts names stop n es → IsReading l ds us names stop n es
reads_alike l cs ds ts us h names stop n es r =
    let numbered : length ts ≤ length names = r.numbered in
    let many = same_length cs ds ts us h in
    let g = r.reads in
    record {
      tokens = h.second;
      numbered = omega arith;
      alike = same_numbers cs ds ts us names h r.alike;
      reads = (g.0, g.1, subst (λ (kinds : List ℕ). Reads g.0 0 64 kinds stop n es) (sym (same_kinds (map chars (words_of l.formats)) cs ds ts us h)) g.2);
    }

-- and have the same faults
pub faults_alike : (l : Language) (cs ds : List ℕ) (ts us : List Token) → AreAlike cs ts ds us → (names : List ℕ) (stop : Stop) (n : ℕ) (es : List Event) (f : Fault)
    → HasFault l cs ts names stop n es f → HasFault l ds us names stop n es f
faults_alike l cs ds ts us h names stop n es f has =
    let texts = same_token_texts cs ds ts us h in
    elim has [
      | inl a ↦ inl (subst (λ (all : ℕ). IsSyntaxFault stop n all f) (sym (same_length cs ds ts us h)) a)
      | inr (inl a) ↦ inr (inl (subst (λ (text : ℕ → List ℕ). HasNumberFault l.values text es f) texts a))
      | inr (inr (inl a)) ↦ inr (inr (inl (subst (λ (text : ℕ → List ℕ). HasNamesFault l.values text es f) texts a)))
      | inr (inr (inr a)) ↦ inr (inr (inr a))
    ]

-- and say the same
says_alike : (l : Language) (cs ds : List ℕ) (ts us : List Token) → AreAlike cs ts ds us → (tree : Entity ℕ) → Says l cs tree → Says l ds tree
says_alike l cs ds ts us h tree (vs, names, stop, n, es, forest, t, r, reading, named, is_forest, says, resolved, is) =
    let same : vs ≡ ts = one_reading_lem cs 0 vs ts reading.tokens h.first in
    let alike : AreAlike cs vs ds us = subst (λ (xs : List Token). AreAlike cs xs ds us) (sym same) h in (
      us,
      names,
      stop,
      n,
      es,
      forest,
      t,
      r,
      reads_alike l cs ds vs us alike names stop n es reading,
      (λ f has. named f (faults_alike l ds cs us vs (alike_back cs ds vs us alike) names stop n es f has)),
      is_forest,
      subst (λ (text : ℕ → List ℕ). operations_in l.values text [] forest ≡ an_entity t no_entity) (same_token_texts cs ds vs us alike) says,
      resolved,
      is,
    )

pub say_the_same : (l : Language) (cs ds : List ℕ) (ts us : List Token) → AreAlike cs ts ds us → (tree : Entity ℕ) → Says l cs tree ↔ Says l ds tree
say_the_same l cs ds ts us h tree = (says_alike l cs ds ts us h tree, says_alike l ds cs us ts (alike_back cs ds ts us h) tree)

-- a bare text, and what is left of it with marks where they are taken again
pub marked_say_the_same : (l : Language) (cs : List ℕ) (ts : List Token) (ms : List (ℕ × ℕ)) (taken : MarkedText) → ReadsAs cs 0 ts → marks_of cs ts ≡ []
    → CanPut cs ts 0 ms → TakesMarks (with_marks cs ms) taken → (tree : Entity ℕ) → Says l cs tree ↔ Says l (owned_codes taken.bare) tree
marked_say_the_same l cs ts ms taken reads none can takes tree =
    let back : GivesBack cs ts ms taken = put_and_taken cs ts ms taken reads none can takes in
    let us : List Token = without_marks takes.tokens in
    say_the_same l cs (owned_codes taken.bare) ts us
    (record { first = reads; second = takes.others; same = back.tokens us takes.others }) tree
