-- Steps of the making of rules.
use Rattle.std.proofs.Common.{zero, suc, ◌+◌, ◌<◌, add-one, zero-add, drop, get_or, length, Some, None, Bool, slice_get, ◌≡◌, ℕ, List, [], ◌∷◌, ◌++◌, refl, sym, ap, ◌∙◌, append_assoc, append-nil, subst, map, arith, ◌≤◌, false, Bor, Vec}
use Rattle.std.specs.Global.{Global}
use Rattle.ir_names.specs.Text.{is_identifier}
use Rattle.std.proofs.Math.Seq.{drop-cons}
use Rattle.std.specs.List.{range_with_len}
use Rattle.std.proofs.lemmas.List.{map-append}
use Rattle.std.proofs.lemmas.List.FromFn.{map-range_with_len_more}
use Rattle.ir_print.specs.declared.format.Directive.{Directive}
use Rattle.ir_print.specs.Formats.{Kind, Steps, Choices, choice_of, step_of, steps_of, choices_of}
use Rattle.ir_grammar.specs.declared.grammar.Action.TheVariants as act
use Rattle.ir_grammar.specs.declared.grammar.Symbol.{Symbol}
use Rattle.ir_grammar.specs.declared.grammar.Symbol.TheVariants.{Part, Act}
use Rattle.ir_grammar.specs.declared.grammar.Class.{Class}
use Rattle.ir_formats.specs.declared.rules.Sort.{Sort}
use Rattle.ir_formats.specs.declared.rules.RuleMaker.{RuleMaker}
use Rattle.ir_formats.specs.Rules.{MadeOfSteps, PlainRule, operation_rules, region_rules, block_rules, argument_rules, is_name, both, texts, plain_rules, plain_classes, with_word, with_words, words_in, words_in_step, words_in_choices, words_of_kinds, up, step_made, steps_made, alternative_made, choices_made, kind_made, kinds_made}
use Rattle.ir_formats.specs.Making.{frame_rules, AddsRules, AddsSymbolsAndRules, AddsMade}

-- ---- lists

-- what stands at a place, and behind it
pub drop_some : {A : Type 0} (xs : List A) (n : ℕ) (x : A) → slice_get xs n ≡ Some x → drop n xs ≡ x ∷ drop (n + 1) xs
drop_some [] n x e = cc
drop_some (y ∷ ys) zero x e = cc
drop_some (y ∷ ys) (suc n) x e = rw (add-one) (drop_some ys n x e ∙ ap (λ k. x ∷ drop k ys) (add-one n))

pub drop_none : {A : Type 0} (xs : List A) (n : ℕ) → slice_get xs n ≡ None → drop n xs ≡ []
drop_none [] zero e = refl
drop_none [] (suc n) e = refl
drop_none (y ∷ ys) zero e = cc
drop_none (y ∷ ys) (suc n) e = drop_none ys n e

pub drop_past : {A : Type 0} (xs : List A) (n : ℕ) → length xs ≤ n → drop n xs ≡ []
drop_past [] zero le = refl
drop_past [] (suc n) le = refl
drop_past (y ∷ ys) zero le = absurd (omega arith)
drop_past (y ∷ ys) (suc n) le = drop_past ys n (omega arith)

-- the item at a place within
pub drop_item : {A : Type 0} (xs : List A) (i : ℕ) (x : A) → i < length xs → x ≡ get_or xs i x → drop i xs ≡ x ∷ drop (i + 1) xs
drop_item xs i x lt e = drop-cons xs i x lt ∙ (ap (λ y. y ∷ drop (suc i) xs) (sym e) ∙ ap (λ n. x ∷ drop n xs) (sym (add-one i)))

-- what stands at a place within, and behind it
drop_at : {A : Type 0} (xs : List A) (i : ℕ) (x : A) → i < length xs → drop i xs ≡ get_or xs i x ∷ drop (i + 1) xs
drop_at xs i x lt = drop-cons xs i x lt ∙ ap (λ n. get_or xs i x ∷ drop n xs) (sym (add-one i))

-- one mark more
pub marks_more : {A : Type 0} (f : ℕ → A) (k : ℕ) (xs ys : List A) (b : A) → xs ≡ map f (range_with_len 0 k) → b ≡ f k → ys ≡ xs ++ b ∷ [] → ys ≡ map f (range_with_len 0 (k + 1))
marks_more {A} f k xs ys b all one e = let more = map-range_with_len_more f 0 k k (zero-add k) in cc

-- one sign more
pub classes_more : (f : ℕ → List Bool) (k : ℕ) (xs ys : List Class) (c : Class) → plain_classes xs ≡ map f (range_with_len 0 k) → c.kinds.items ≡ f k → ys ≡ xs ++ c ∷ [] → plain_classes ys ≡ map f (range_with_len 0 (k + 1))
classes_more f k xs ys c all one e =
    let more = map-range_with_len_more f 0 k k (zero-add k) in
    rw e (map-append (λ (d : Class). d.kinds.items) xs (c ∷ []) ∙ (rw (all, one) (sym more)))

-- ---- words

-- the words of two lists are put at the end one after the other
pub with_words-append : (ws a b : List (List ℕ)) → with_words ws (a ++ b) ≡ with_words (with_words ws a) b
with_words-append ws [] b = refl
with_words-append ws (t ∷ ts) b = with_words-append (with_word ws t) ts b

-- the words of one directive more
pub words_more : (fs : List Directive) (i : ℕ) (d : Directive) (a b whole : List (List ℕ)) → i < length fs → d ≡ get_or fs i d
    → with_words a (words_in (steps_of (drop i fs))) ≡ whole → b ≡ with_words a (words_in_step (step_of d))
    → with_words b (words_in (steps_of (drop (i + 1) fs))) ≡ whole
words_more fs i d a b whole lt at all more =
    rw more (sym (with_words-append a (words_in_step (step_of d)) (words_in (steps_of (drop (i + 1) fs))))
    ∙ (ap (λ gs. with_words a (words_in (steps_of gs))) (sym (drop_item fs i d lt at)) ∙ all))

-- the words of one format more, of which one is taken
pub choice_words_more : (fs : List (Bor (List Directive))) (i : ℕ) (d : Bor (List Directive)) (a b whole : List (List ℕ)) → i < length fs
    → with_words a (words_in_choices (choices_of (drop i fs))) ≡ whole → b ≡ with_words a (words_in (steps_of (get_or fs i d).now))
    → with_words b (words_in_choices (choices_of (drop (i + 1) fs))) ≡ whole
choice_words_more fs i d a b whole lt all more =
    rw more (sym (with_words-append a (words_in (steps_of (get_or fs i d).now)) (words_in_choices (choices_of (drop (i + 1) fs))))
    ∙ (ap (λ gs. with_words a (words_in_choices (choices_of gs))) (sym (drop_at fs i d lt)) ∙ all))

-- no format's words are left
pub choice_words_done : (fs : List (Bor (List Directive))) (i : ℕ) (a whole : List (List ℕ)) → length fs ≤ i → with_words a (words_in_choices (choices_of (drop i fs))) ≡ whole → a ≡ whole
choice_words_done fs i a whole past all = ap (λ gs. with_words a (words_in_choices (choices_of gs))) (sym (drop_past fs i past)) ∙ all

-- the words of one kind more
pub kind_words_more : (ks : List Kind) (i : ℕ) (k : Kind) (a b c whole : List (List ℕ)) → slice_get ks i ≡ Some k
    → with_words a (words_of_kinds (drop i ks)) ≡ whole → b ≡ with_word a k.id → c ≡ with_words b (words_in k.format)
    → with_words c (words_of_kinds (drop (i + 1) ks)) ≡ whole
kind_words_more ks i k a b c whole at all one more =
    rw (more, one) (sym (with_words-append (with_word a k.id) (words_in k.format) (words_of_kinds (drop (i + 1) ks)))
    ∙ (ap (λ js. with_words a (words_of_kinds js)) (sym (drop_some ks i k at)) ∙ all))

-- no kind's words are left
pub kind_words_done : (ks : List Kind) (i : ℕ) (a whole : List (List ℕ)) → slice_get ks i ≡ None → with_words a (words_of_kinds (drop i ks)) ≡ whole → a ≡ whole
kind_words_done ks i a whole past all = ap (λ js. with_words a (words_of_kinds js)) (sym (drop_none ks i past)) ∙ all

-- ---- rules

-- With what is still to be made the maker and the symbols are what all that is made gives.
pub record Leaves (old new : RuleMaker) (before after : List Symbol) (rest whole : MadeOfSteps) : Type 0 where
  pub rules : plain_rules new.rules.items ++ rest.rules ≡ plain_rules old.rules.items ++ whole.rules
  pub symbols : after ++ rest.symbols ≡ before ++ whole.symbols
  pub next : rest.next ≡ whole.next
  pub words : new.words ≡ old.words

-- one step more is made
pub leaves_less : (old mid new : RuleMaker) (a b c : List Symbol) (one rest whole : MadeOfSteps) → Leaves old mid a b (both one rest) whole → AddsSymbolsAndRules mid new b c one → Leaves old new a c rest whole
leaves_less old mid new a b c one rest whole h more = record {
  rules = rw more.rules.rules (append_assoc (plain_rules mid.rules.items) one.rules rest.rules ∙ h.rules);
  symbols = rw more.symbols (append_assoc b one.symbols rest.symbols ∙ h.symbols);
  next = h.next;
  words = more.rules.words ∙ h.words;
}

-- makers with the same words make the same
same_steps : (mid new : RuleMaker) (ss : Steps) (n : ℕ) → new.words ≡ mid.words → new.next_list ≡ n → steps_made (texts mid.words.items) ss n ≡ steps_made (texts new.words.items) ss new.next_list
same_steps mid new ss n words next = ap (λ ws. steps_made (texts ws.items) ss n) (sym words) ∙ ap (λ k. steps_made (texts new.words.items) ss k) (sym next)

same_kinds : (s : Sort) (i : ℕ) (mid new : RuleMaker) (ks : List Kind) (n : ℕ) → new.words ≡ mid.words → new.next_list ≡ n → kinds_made (texts mid.words.items) s i ks n ≡ kinds_made (texts new.words.items) s i ks new.next_list
same_kinds s i mid new ks n words next = ap (λ ws. kinds_made (texts ws.items) s i ks n) (sym words) ∙ ap (λ k. kinds_made (texts new.words.items) s i ks k) (sym next)

-- one directive more is made
pub format_more : (fs : List Directive) (i : ℕ) (d : Directive) (old mid new : RuleMaker) (a b c : List Symbol) (whole : MadeOfSteps) → i < length fs → d ≡ get_or fs i d
    → Leaves old mid a b (steps_made (texts mid.words.items) (steps_of (drop i fs)) mid.next_list) whole
    → AddsSymbolsAndRules mid new b c (step_made (texts mid.words.items) (step_of d) mid.next_list)
    → Leaves old new a c (steps_made (texts new.words.items) (steps_of (drop (i + 1) fs)) new.next_list) whole
format_more fs i d old mid new a b c whole lt at h more =
    let here = rw (drop_item fs i d lt at) at h in
    subst (λ (r : MadeOfSteps). Leaves old new a c r whole) (same_steps mid new (steps_of (drop (i + 1) fs)) _ more.rules.words more.rules.next)
    (leaves_less old mid new a b c (step_made (texts mid.words.items) (step_of d) mid.next_list) _ whole here more)

-- rules are added, and others behind them
pub added_behind : (old mid new : RuleMaker) (xs ys : List PlainRule) (m n : ℕ) → AddsRules old mid xs m → AddsRules mid new ys n → AddsRules old new (xs ++ ys) n
added_behind old mid new xs ys m n first more = record {
  rules = more.rules ∙ (ap (λ rs. rs ++ ys) first.rules ∙ append_assoc (plain_rules old.rules.items) xs ys);
  next = more.next;
  words = more.words ∙ first.words;
}

same_choices : (mid new : RuleMaker) (c i : ℕ) (cs : Choices) (n : ℕ) → new.words ≡ mid.words → new.next_list ≡ n
    → choices_made (texts mid.words.items) c i cs n ≡ choices_made (texts new.words.items) c i cs new.next_list
same_choices mid new c i cs n words next = ap (λ ws. choices_made (texts ws.items) c i cs n) (sym words) ∙ ap (λ k. choices_made (texts new.words.items) c i cs k) (sym next)

-- what the format with a number makes is added, of which one is taken
alternative_added : (c i : ℕ) (mid there new : RuleMaker) (body : List Symbol) (m : MadeOfSteps)
    → AddsSymbolsAndRules mid there (Act (act.BeginChoice i) ∷ []) body m
    → AddsRules there new ((c, body ++ Act act.EndChoice ∷ []) ∷ []) there.next_list
    → AddsMade mid new (alternative_made c i m)
alternative_added c i mid there new body m steps rule =
    let here = subst (λ (b : List Symbol). AddsRules there new ((c, b ++ Act act.EndChoice ∷ []) ∷ []) there.next_list) steps.symbols rule in
    let last = subst (λ n. AddsRules there new ((c, Act (act.BeginChoice i) ∷ (m.symbols ++ Act act.EndChoice ∷ [])) ∷ []) n) steps.rules.next here in
    added_behind mid there new m.rules _ _ _ steps.rules last

-- no format is made yet, of which one is taken
pub choices_begun : (fs : List (Bor (List Directive))) (c : ℕ) (old mid : RuleMaker) → AddsRules old mid [] (up old.next_list 1)
    → Leaves mid mid [] [] (choices_made (texts mid.words.items) c 0 (choices_of fs) mid.next_list) (choices_made (texts old.words.items) c 0 (choices_of fs) (up old.next_list 1))
choices_begun fs c old mid first =
    let same : choices_made (texts mid.words.items) c 0 (choices_of fs) mid.next_list ≡ choices_made (texts old.words.items) c 0 (choices_of fs) (up old.next_list 1)
    = ap (λ ws. choices_made (texts ws.items) c 0 (choices_of fs) mid.next_list) first.words
    ∙ ap (λ k. choices_made (texts old.words.items) c 0 (choices_of fs) k) first.next in
    record {
      rules = ap (λ m. plain_rules mid.rules.items ++ m.rules) same;
      symbols = ap (λ m. m.symbols) same;
      next = ap (λ m. m.next) same;
      words = refl;
    }

-- one format more is made, of which one is taken
pub choices_more : (fs : List (Bor (List Directive))) (i : ℕ) (d : Bor (List Directive)) (c : ℕ) (old mid there new : RuleMaker) (begun body : List Symbol) (whole : MadeOfSteps) → i < length fs
    → Leaves old mid [] [] (choices_made (texts mid.words.items) c i (choices_of (drop i fs)) mid.next_list) whole
    → begun ≡ Act (act.BeginChoice i) ∷ []
    → AddsSymbolsAndRules mid there begun body (steps_made (texts mid.words.items) (steps_of (get_or fs i d).now) mid.next_list)
    → AddsRules there new ((c, body ++ Act act.EndChoice ∷ []) ∷ []) there.next_list
    → Leaves old new [] [] (choices_made (texts new.words.items) c (i + 1) (choices_of (drop (i + 1) fs)) new.next_list) whole
choices_more fs i d c old mid there new begun body whole lt h first steps rule =
    let here = rw (drop_at fs i d lt) at h in
    let made_of = steps_made (texts mid.words.items) (steps_of (get_or fs i d).now) mid.next_list in
    let one : MadeOfSteps = alternative_made c i made_of in
    let all = subst (λ (b : List Symbol). AddsSymbolsAndRules mid there b body made_of) first steps in
    let made : AddsMade mid new one = alternative_added c i mid there new body made_of all rule in
    subst (λ (r : MadeOfSteps). Leaves old new [] [] r whole) (same_choices mid new c (i + 1) (choices_of (drop (i + 1) fs)) _ made.words made.next)
    (rw add-one (leaves_less old mid new [] [] [] one _ whole (rw add-one at here) (record { rules = made; symbols = refl })))

-- no format is left
pub choices_done : (fs : List (Bor (List Directive))) (i c : ℕ) (old mid new : RuleMaker) (a b : List Symbol) → length fs ≤ i → c ≡ old.next_list
    → AddsRules old mid [] (up old.next_list 1) → b ≡ a ++ Part c ∷ []
    → Leaves mid new [] [] (choices_made (texts new.words.items) c i (choices_of (drop i fs)) new.next_list) (choices_made (texts old.words.items) c 0 (choices_of fs) (up old.next_list 1))
    → AddsSymbolsAndRules old new a b (step_made (texts old.words.items) (choice_of (choices_of fs)) old.next_list)
choices_done fs i c old mid new a b past is first at h =
    let here = rw (drop_past fs i past) at h in
    let none : plain_rules mid.rules.items ≡ plain_rules old.rules.items = first.rules ∙ append-nil (plain_rules old.rules.items) in
    subst (λ k. AddsSymbolsAndRules old new a b (made k)) is (record {
      rules = record {
        rules = sym (append-nil (plain_rules new.rules.items)) ∙ (here.rules ∙ ap (λ rs. rs ++ (made c).rules) none);
        next = here.next;
        words = here.words ∙ first.words;
      };
      symbols = at;
    })
  where
    made : ℕ → MadeOfSteps
    made k = let all = choices_made (texts old.words.items) k 0 (choices_of fs) (up old.next_list 1) in record { symbols = Part k ∷ []; rules = all.rules; next = all.next }

-- one kind more is made
pub kinds_more : (s : Sort) (ks : List Kind) (i : ℕ) (k : Kind) (old mid new : RuleMaker) (whole : MadeOfSteps) → slice_get ks i ≡ Some k
    → Leaves old mid [] [] (kinds_made (texts mid.words.items) s i (drop i ks) mid.next_list) whole
    → AddsMade mid new (kind_made (texts mid.words.items) s i k mid.next_list)
    → Leaves old new [] [] (kinds_made (texts new.words.items) s (i + 1) (drop (i + 1) ks) new.next_list) whole
kinds_more s ks i k old mid new whole at h more =
    let here = rw (drop_some ks i k at) at h in
    subst (λ (r : MadeOfSteps). Leaves old new [] [] r whole) (same_kinds s (i + 1) mid new (drop (i + 1) ks) _ more.words more.next)
    (rw add-one (leaves_less old mid new [] [] [] (kind_made (texts mid.words.items) s i k mid.next_list) _ whole (rw add-one at here) (record { rules = more; symbols = refl })))

-- the rules of each dialect's grammar are added, some behind others
pub frame_added : (old a b c new : RuleMaker)
    → AddsRules old a (operation_rules (texts old.words.items)) old.next_list
    → AddsRules a b (region_rules (texts a.words.items)) a.next_list
    → AddsRules b c (block_rules (texts b.words.items)) b.next_list
    → AddsRules c new (argument_rules (texts c.words.items)) c.next_list
    → AddsRules old new (frame_rules (texts old.words.items)) old.next_list
frame_added old a b c new one two three four =
    let words_b = two.words ∙ one.words in
    let words_c = three.words ∙ words_b in
    let same_b = three.next ∙ (two.next ∙ one.next) in
    let region = subst (λ (ws : Vec (Bor (List ℕ)) Global). AddsRules a b (region_rules (texts ws.items)) a.next_list) one.words two in
    let block = subst (λ (ws : Vec (Bor (List ℕ)) Global). AddsRules b c (block_rules (texts ws.items)) b.next_list) words_b three in
    let argument = subst (λ (ws : Vec (Bor (List ℕ)) Global). AddsRules c new (argument_rules (texts ws.items)) c.next_list) words_c four in
    let last = subst (λ n. AddsRules c new (argument_rules (texts old.words.items)) n) same_b argument in
    added_behind old a new _ _ _ _ one (added_behind a b new _ _ _ _ region (added_behind b c new _ _ _ _ block last))

-- no kind is left
pub kinds_done : (s : Sort) (ks : List Kind) (i : ℕ) (old new : RuleMaker) (whole : MadeOfSteps) → slice_get ks i ≡ None
    → Leaves old new [] [] (kinds_made (texts new.words.items) s i (drop i ks) new.next_list) whole → AddsMade old new whole
kinds_done s ks i old new whole past h =
    let here = rw (drop_none ks i past) at h in
    record { rules = sym (append-nil (plain_rules new.rules.items)) ∙ here.rules; next = here.next; words = here.words }

-- ---- signs

-- the word at a place among the words, and none behind them
pub name_at : (ws : List (Bor (List ℕ))) (j : ℕ) (d : Bor (List ℕ)) → j < length ws → is_name (slice_get (texts ws) j) ≡ is_identifier (get_or ws j d).now
name_at [] j d lt = absurd (omega arith)
name_at (w ∷ ws) zero d lt = refl
name_at (w ∷ ws) (suc j) d lt = name_at ws j d (omega arith)

pub name_past : (ws : List (Bor (List ℕ))) (j : ℕ) → length ws ≤ j → is_name (slice_get (texts ws) j) ≡ false
name_past [] zero le = refl
name_past [] (suc j) le = refl
name_past (w ∷ ws) zero le = absurd (omega arith)
name_past (w ∷ ws) (suc j) le = name_past ws j (omega arith)
