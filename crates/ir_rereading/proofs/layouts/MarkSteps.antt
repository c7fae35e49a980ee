-- What marks derive from, read from behind.
use Rattle.std.proofs.Common.{◌≡◌, ℕ, List, [], ◌∷◌, ◌++◌, Option, Some, None, true, map, refl, sym, subst, ap, inl, inr, append_assoc, slice_get}
use Rattle.ir_print.specs.Formats as step
use Rattle.ir_print.specs.Formats.{Formats, Kind, Step, Steps, no_steps}
use Rattle.ir_print.specs.Layout.{Before, an_id, a_word, a_part, leaf_text}
use Rattle.ir_print.specs.Pieces.{Leaf}
use Rattle.ir_print.specs.Shapes.{parts_in}
use Rattle.ir_grammar.specs.declared.grammar.Action.{Action}
use Rattle.ir_grammar.specs.declared.grammar.Action.TheVariants as act
use Rattle.ir_grammar.specs.declared.grammar.Symbol.{Symbol}
use Rattle.ir_grammar.specs.declared.grammar.Symbol.TheVariants.{Sign, Part, Act}
use Rattle.ir_grammar.specs.declared.grammar.Grammar.{Grammar}
use Rattle.ir_formats.specs.declared.rules.Sort.{Sort}
use Rattle.ir_grammar.specs.Grammar.{accepts, Derives, Shifted, Acted, Expanded}
use Rattle.ir_formats.specs.Rules.{IsGrammarOf, sign, words_in_step, words_in, words_of, step_made, steps_made, part_of, begin_of, end_of, kinds_of, rules_of, plain_rules}
use Rattle.ir_rereading.proofs.layouts.Marks.{Mark, white, token, word, one_leaf, did, Marker, tokens, events, kind_by, format_on, kind_on}
use Rattle.ir_rereading.proofs.layouts.Among.{IsAmong, AreAmong, fronts_among, backs_among, kind_among}
use Rattle.ir_rereading.proofs.layouts.PlainWords.{Tested}
use Rattle.ir_rereading.proofs.layouts.PlainKinds.{word_accepted}
use Rattle.ir_rereading.proofs.layouts.FormatRules.{HasKind, kind_has, rule_number}

-- The tokens of the marks derive from the symbols, with what the marks do.
pub record DerivesMarks (g : Grammar) (f : Formats) (ss : List Symbol) (ms : List Mark) : Type 0 where
  pub derived : Derives g ss (map (kind_by (words_of f)) (tokens ms)) (events ms)

-- ---- one step after another

pub shift : {g : Grammar} {f : Formats} {s : ℕ} {ss : List Symbol} {cs : List ℕ} {ms : List Mark} → accepts g s (kind_by (words_of f) cs) ≡ true → DerivesMarks g f ss ms → DerivesMarks g f (Sign s ∷ ss) (token cs ∷ ms)
shift a d = record { derived = Shifted a d.derived }

pub shift_leaf : {g : Grammar} {f : Formats} {s : ℕ} {ss : List Symbol} {x : Leaf} {ms : List Mark} → accepts g s (kind_by (words_of f) (leaf_text x)) ≡ true → DerivesMarks g f ss ms
    → DerivesMarks g f (Sign s ∷ ss) (one_leaf x ∷ ms)
shift_leaf a d = record { derived = Shifted a d.derived }

pub shift_word : {g : Grammar} {f : Formats} {s : ℕ} {ss : List Symbol} {printed text : List ℕ} {ms : List Mark} → accepts g s (kind_by (words_of f) text) ≡ true → DerivesMarks g f ss ms
    → DerivesMarks g f (Sign s ∷ ss) (word printed text ∷ ms)
shift_word a d = record { derived = Shifted a d.derived }

pub blank : {g : Grammar} {f : Formats} {ss : List Symbol} {cs : List ℕ} {ms : List Mark} → DerivesMarks g f ss ms → DerivesMarks g f ss (white cs ∷ ms)
blank d = record { derived = d.derived }

pub acted : {g : Grammar} {f : Formats} {a : Action} {ss : List Symbol} {ms : List Mark} → DerivesMarks g f ss ms → DerivesMarks g f (Act a ∷ ss) (did a ∷ ms)
acted d = record { derived = Acted d.derived }

pub regroup : {g : Grammar} {f : Formats} {ms : List Mark} (a b ss : List Symbol) → DerivesMarks g f (a ++ (b ++ ss)) ms → DerivesMarks g f ((a ++ b) ++ ss) ms
regroup {g} {f} {ms} a b ss d = subst (λ x. DerivesMarks g f x ms) (sym (append_assoc a b ss)) d

expand_by : {g : Grammar} {f : Formats} {ss : List Symbol} {ms : List Mark} (n : ℕ) (body : List Symbol) → IsAmong (n, body) (plain_rules g.rules.items) → DerivesMarks g f (body ++ ss) ms → DerivesMarks g f (Part n ∷ ss) ms
expand_by {g} {f} {ss} {ms} n body h d =
    let r = rule_number g.rules.items (n, body) h in
    let same : r.1.body.items ≡ body = ap (λ x. x.1) r.3 in
    record { derived = Expanded r.0 r.1 r.2 (ap (λ x. x.0) r.3) (subst (λ b. Derives g (b ++ ss) (map (kind_by (words_of f)) (tokens ms)) (events ms)) (sym same) d.derived) }

pub expand : {g : Grammar} {f : Formats} {ss : List Symbol} {ms : List Mark} → IsGrammarOf f g → (n : ℕ) (body : List Symbol) → IsAmong (n, body) (rules_of f) → DerivesMarks g f (body ++ ss) ms → DerivesMarks g f (Part n ∷ ss) ms
expand known n body h d = expand_by n body (subst (IsAmong (n, body)) (sym known.rules) h) d

-- ---- steps of formats

-- The grammar has the rules that a step makes from this part on, and its words.
pub record Placed (f : Formats) (s : Step) (n : ℕ) : Type 0 where
  pub rules : AreAmong (step_made (words_of f) s n).rules (rules_of f)
  pub words : AreAmong (words_in_step s) (words_of f)

-- the same of steps
pub record AllPlaced (f : Formats) (ss : Steps) (n : ℕ) : Type 0 where
  pub rules : AreAmong (steps_made (words_of f) ss n).rules (rules_of f)
  pub words : AreAmong (words_in ss) (words_of f)

-- what is marked for a part; for no operands it is that there are none
abbrev pub option_on : Option Marker → Marker
option_on None s ms = did act.BeginOperands ∷ did act.EndOperands ∷ ms
option_on (Some p) s ms = p s ms

-- The part derives from the symbols of the step.
pub record IsReadAt (g : Grammar) (f : Formats) (s : Step) (p : Option Marker) : Type 0 where
  pub reads : (n : ℕ) (ss : List Symbol) (ms : List Mark) → Placed f s n → DerivesMarks g f ss ms → DerivesMarks g f ((step_made (words_of f) s n).symbols ++ ss) (option_on p s ms)

-- each part derives from its step
abbrev pub AreReadAt : Grammar → Formats → List Step → List (Option Marker) → Type 0
AreReadAt g f [] [] = Unit {0}
AreReadAt g f (s ∷ ss) (p ∷ ps) = IsReadAt g f s p × AreReadAt g f ss ps
AreReadAt g f _ _ = ⊥

first_placed : (f : Formats) (s : Step) (ss : Steps) (n : ℕ) → AllPlaced f (step.step s ss) n → Placed f s n
first_placed f s ss n h =
    let a = step_made (words_of f) s n in
    record { rules = fronts_among a.rules (steps_made (words_of f) ss a.next).rules (rules_of f) h.rules; words = fronts_among (words_in_step s) (words_in ss) (words_of f) h.words }

rest_placed : (f : Formats) (s : Step) (ss : Steps) (n : ℕ) → AllPlaced f (step.step s ss) n → AllPlaced f ss (step_made (words_of f) s n).next
rest_placed f s ss n h =
    let a = step_made (words_of f) s n in
    record { rules = backs_among a.rules (steps_made (words_of f) ss a.next).rules (rules_of f) h.rules; words = backs_among (words_in_step s) (words_in ss) (words_of f) h.words }

module _ (g : Grammar) (f : Formats) (known : IsGrammarOf f g) (t : Tested f) where
  -- a word of the formats stands for its sign
  pub took_word : (w : List ℕ) (ss : List Symbol) (printed : List ℕ) (ms : List Mark) → IsAmong w (words_of f) → DerivesMarks g f ss ms → DerivesMarks g f (sign (words_of f) w ∷ ss) (word printed w ∷ ms)
  took_word w ss printed ms h d = shift_word (word_accepted g f known.signs t w h) d

  pub took : (w : List ℕ) (ss : List Symbol) (ms : List Mark) → IsAmong w (words_of f) → DerivesMarks g f ss ms → DerivesMarks g f (sign (words_of f) w ∷ ss) (token w ∷ ms)
  took w ss ms h d = shift (word_accepted g f known.signs t w h) d

  part_reads : (s : Step) (p : Option Marker) (n : ℕ) (b ss : List Symbol) (ms : List Mark) → IsReadAt g f s p → Placed f s n → DerivesMarks g f (b ++ ss) ms
      → DerivesMarks g f (((step_made (words_of f) s n).symbols ++ b) ++ ss) (option_on p s ms)
  part_reads s p n b ss ms r placed d = regroup (step_made (words_of f) s n).symbols b ss (r.reads n (b ++ ss) ms placed d)

  -- What a format says derives from its symbols, if each part does.
  pub format_reads : (fs : Steps) (before : Before) (n : ℕ) (ps : List (Option Marker)) (ss : List Symbol) (ms : List Mark) → AllPlaced f fs n → AreReadAt g f (parts_in fs) ps → DerivesMarks g f ss ms
      → DerivesMarks g f ((steps_made (words_of f) fs n).symbols ++ ss) (format_on before fs ps ms)
  format_reads no_steps before n ps ss ms placed r d = d
  format_reads (step.step (step.word printed text) fs) before n ps ss ms placed r d =
      blank (took_word text ((steps_made (words_of f) fs n).symbols ++ ss) printed (format_on a_word fs ps ms) (placed.words.among text (inl refl))
      (format_reads fs a_word n ps ss ms (rest_placed f (step.word printed text) fs n placed) r d))
  format_reads (step.step s fs) before n [] ss ms placed r d = absurd r
  format_reads (step.step s fs) before n (None ∷ ps) ss ms placed r d =
      let next = (step_made (words_of f) s n).next in
      part_reads s None n (steps_made (words_of f) fs next).symbols ss (format_on before fs ps ms) r.0 (first_placed f s fs n placed) (format_reads fs before next ps ss ms (rest_placed f s fs n placed) r.1 d)
  format_reads (step.step s fs) before n (Some p ∷ ps) ss ms placed r d =
      let next = (step_made (words_of f) s n).next in
      blank (part_reads s (Some p) n (steps_made (words_of f) fs next).symbols ss (format_on a_part fs ps ms) r.0 (first_placed f s fs n placed) (format_reads fs a_part next ps ss ms (rest_placed f s fs n placed) r.1 d))

  kind_by_rules : (s : Sort) (i : ℕ) (k : Kind) (h : HasKind f s i k) (ps : List (Option Marker)) (ss : List Symbol) (ms : List Mark) → AreAmong (k.id ∷ words_in k.format) (words_of f) → AreReadAt g f (parts_in k.format) ps
      → DerivesMarks g f ss ms → DerivesMarks g f (Part (part_of s) ∷ ss) (kind_on (Some k) (begin_of s i) (end_of s) ps ms)
  kind_by_rules s i k h ps ss ms words r d =
      let m = steps_made (words_of f) k.format h.part in
      expand known (part_of s) (sign (words_of f) k.id ∷ Act (begin_of s i) ∷ (m.symbols ++ Act (end_of s) ∷ [])) h.rule
      (took k.id _ _ (words.among k.id (inl refl)) (acted (regroup m.symbols (Act (end_of s) ∷ []) ss
      (format_reads k.format an_id h.part ps (Act (end_of s) ∷ ss) (did (end_of s) ∷ ms) (record { rules = h.rules; words = record { among = λ w i. words.among w (inr i) } }) r (acted d)))))

  -- What a kind says derives from the part of its sort, if each part of its format does.
  pub kind_reads : (s : Sort) (i : ℕ) (o : Option Kind) (k : Kind) (ps : List (Option Marker)) (ss : List Symbol) (ms : List Mark) → slice_get (kinds_of f s) i ≡ Some k → o ≡ Some k → AreReadAt g f (parts_in k.format) ps
      → DerivesMarks g f ss ms → DerivesMarks g f (Part (part_of s) ∷ ss) (kind_on o (begin_of s i) (end_of s) ps ms)
  kind_reads s i o k ps ss ms e same r d =
      subst (λ x. DerivesMarks g f (Part (part_of s) ∷ ss) (kind_on x (begin_of s i) (end_of s) ps ms)) (sym same) (kind_by_rules s i k (kind_has f s i k e) ps ss ms (kind_among f s i k e) r d)
