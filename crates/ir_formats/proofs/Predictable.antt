-- A table that passes the test on values reads the grammar.
use Rattle.std.proofs.Common.{◌≡◌, ℕ, zero, suc, ◌+◌, ◌<◌, ◌≤◌, List, [], ◌∷◌, Option, Some, None, Bool, true, false, not, ◌&&◌, ◌||◌, ◌⊎◌, is_some, map, slice_get, get_or, length, refl, sym, ap, ◌∙◌, subst, arith, inl, inr, nat_lt, ◌==◌, Bor}
use Rattle.std.proofs.lemmas.Bool.{cases_lt, eq-eqb, eqb-true, ltb-true}
use Rattle.std.proofs.lemmas.List.{length-map}
use Rattle.std.proofs.lemmas.Option.{slice_get-map, slice_get_within}
use Rattle.std.specs.Option.{option_map}
use Rattle.std.specs.List.{list_any}
use Rattle.ir_grammar.specs.declared.grammar.Symbol.{Symbol}
use Rattle.ir_grammar.specs.declared.grammar.Symbol.TheVariants.{Sign, Part, Act}
use Rattle.ir_grammar.specs.declared.grammar.Rule.{Rule}
use Rattle.ir_grammar.specs.declared.grammar.Class.{Class}
use Rattle.ir_grammar.specs.declared.grammar.Facts.{Facts}
use Rattle.ir_grammar.specs.declared.grammar.Grammar.{Grammar}
use Rattle.ir_grammar.specs.Grammar.{accepts, accepted}
use Rattle.ir_grammar.specs.Reading.{begins_member}
use Rattle.ir_grammar.specs.Table.{chosen, pick, may_follow, closing_of, is_solid, cost_of, OpensIn, BeginsAtColumn, IsFineIn, has_solid, height, AreKnownSymbols, RanksAreBelow, FitsRule, HasShortest, IsRuleOf, IsChoice, CanRead}
use Rattle.ir_print.specs.Formats.{Formats}
use Rattle.ir_formats.specs.Given.{PlainPart, dense, grammar_value}
use Rattle.ir_formats.specs.Rules.{plain_rule, plain_rules, plain_classes, texts, words_of, rules_of, classes_of}
use Rattle.ir_formats.specs.Predicting.{PlainGrammar, plain_facts, sign_row, choice_row, follow_row, plain_closing, plain_solid, plain_cost, all_below, is_number, covers, picks, opening_row, is_fine, is_known, has_rank_below, is_below, plain_has_solid, plain_height, rule_fits, is_other, begins, is_rule_of, goes_on, choice_fits, is_shortest, closing_fits, facts_fit, fits}
use Rattle.ir_grammar.proofs.Checks.{chosen_within, closing_within, known_by_cases}
use Rattle.ir_formats.proofs.Booleans.{both_hold}

-- ---- tests

one_holds : (a b : Bool) → a || b ≡ true → (a ≡ true) ⊎ (b ≡ true)
one_holds true b e = inl refl
one_holds false b e = inr e

if_so : (a b : Bool) → not a || b ≡ true → a ≡ true → b ≡ true
if_so true b e h = e
if_so false b e h = cc

five_hold : (a b c d e : Bool) → a && b && c && d && e ≡ true → (a ≡ true) × (b ≡ true) × (c ≡ true) × (d ≡ true) × (e ≡ true)
five_hold true true true true e h = (refl, refl, refl, refl, h)
five_hold true true true false e h = cc
five_hold true true false d e h = cc
five_hold true false c d e h = cc
five_hold false b c d e h = cc

three_hold : (a b c : Bool) → a && b && c ≡ true → (a ≡ true) × (b ≡ true) × (c ≡ true)
three_hold true true c h = (refl, refl, h)
three_hold true false c h = cc
three_hold false b c h = cc

four_hold : (a b c d : Bool) → a && b && c && d ≡ true → (a ≡ true) × (b ≡ true) × (c ≡ true) × (d ≡ true)
four_hold true true true d h = (refl, refl, refl, h)
four_hold true true false d h = cc
four_hold true false c d h = cc
four_hold false b c d h = cc

same_facts : (a b : Facts) → Some a ≡ Some b → a ≡ b
same_facts a b e = cc

all_below_at : (n : ℕ) (test : ℕ → Bool) (k : ℕ) → all_below n test ≡ true → k < n → test k ≡ true
all_below_at zero test k e lt = absurd (omega arith)
all_below_at (suc n) test k e lt = let h = both_hold (test n) (all_below n test) e in go h.0 (λ less. all_below_at n test k h.1 less) (cases_lt k n)
  where
    go : test n ≡ true → (k < n → test k ≡ true) → (k < n) ⊎ (n ≤ k) → test k ≡ true
    go here below (inl less) = below less
    go here below (inr more) = let same : k ≡ n = omega arith in rw same here

get_nil : {A : Type 0} (i : ℕ) (d : A) → get_or [] i d ≡ d
get_nil zero d = refl
get_nil (suc i) d = refl

is_number_at : (o : Option ℕ) (p : ℕ) → is_number o p ≡ true → o ≡ Some p
is_number_at None p e = cc
is_number_at (Some q) p e = ap Some (eqb-true q p e)

covered : (xs ys : List Bool) (c : ℕ) → covers xs ys ≡ true → get_or xs c false ≡ true → get_or ys c false ≡ true
covered [] ys c e h = let none = get_nil c false in cc
covered (x ∷ xs) [] zero e h = let two = both_hold (not x) (covers xs []) e in absurd (marked x two.0 h)
  where
    marked : (x : Bool) → not x ≡ true → x ≡ true → ⊥
    marked true e h = cc
    marked false e h = cc
covered (x ∷ xs) [] (suc c) e h = let two = both_hold (not x) (covers xs []) e in let rest = covered xs [] c two.1 h in let none = get_nil c false in cc
covered (x ∷ xs) (y ∷ ys) zero e h = let two = both_hold (not x || y) (covers xs ys) e in if_so x y two.0 h
covered (x ∷ xs) (y ∷ ys) (suc c) e h = let two = both_hold (not x || y) (covers xs ys) e in covered xs ys c two.1 h

picked_at : (xs : List Bool) (ys : List (Option ℕ)) (p c : ℕ) → picks xs ys p ≡ true → get_or xs c false ≡ true → get_or ys c None ≡ Some p
picked_at [] ys p c e h = let none = get_nil c false in cc
picked_at (x ∷ xs) [] p zero e h = let two = both_hold (not x) (picks xs [] p) e in absurd (marked x two.0 h)
  where
    marked : (x : Bool) → not x ≡ true → x ≡ true → ⊥
    marked true e h = cc
    marked false e h = cc
picked_at (x ∷ xs) [] p (suc c) e h = let two = both_hold (not x) (picks xs [] p) e in let rest = picked_at xs [] p c two.1 h in let none = get_nil {A = Option ℕ} c None in cc
picked_at (x ∷ xs) (y ∷ ys) p zero e h = let two = both_hold (not x || is_number y p) (picks xs ys p) e in is_number_at y p (if_so x (is_number y p) two.0 h)
picked_at (x ∷ xs) (y ∷ ys) p (suc c) e h = let two = both_hold (not x || is_number y p) (picks xs ys p) e in picked_at xs ys p c two.1 h

some_at : (xs : List (Option ℕ)) (c p : ℕ) → get_or xs c None ≡ Some p → get_or (map is_some xs) c false ≡ true
some_at [] c p e = let none = get_nil {A = Option ℕ} c None in cc
some_at (x ∷ xs) zero p e = rw e refl
some_at (x ∷ xs) (suc c) p e = some_at xs c p e

within_at : (xs : List (Option ℕ)) (c p : ℕ) → get_or xs c None ≡ Some p → c < length xs
within_at [] c p e = let none = get_nil {A = Option ℕ} c None in cc
within_at (x ∷ xs) zero p e = omega arith
within_at (x ∷ xs) (suc c) p e = let h = within_at xs c p e in omega arith

any_at : (xs : List Bool) → list_any (λ b. b) xs ≡ true → (k : ℕ) × (get_or xs k false ≡ true)
any_at [] e = cc
any_at (true ∷ xs) e = (zero, refl)
any_at (false ∷ xs) e = let h = any_at xs e in (suc h.0, h.1)

-- ---- facts as values

accepted_is : (o : Option Class) (k : ℕ) → accepted o k ≡ get_or (sign_row (option_map (λ c. c.kinds.items) o)) k false
accepted_is None k = sym (get_nil k false)
accepted_is (Some c) k = refl

chosen_is : (o : Option Facts) (c : ℕ) → chosen o c ≡ get_or (choice_row (option_map plain_facts o)) c None
chosen_is None c = sym (get_nil {A = Option ℕ} c None)
chosen_is (Some f) c = refl

follow_is : (o : Option Facts) (c : ℕ) → may_follow o c ≡ get_or (follow_row (option_map plain_facts o)) c false
follow_is None c = sym (get_nil c false)
follow_is (Some f) c = refl

closing_is : (o : Option Facts) → closing_of o ≡ plain_closing (option_map plain_facts o)
closing_is None = refl
closing_is (Some f) = refl

solid_is : (o : Option Facts) → is_solid o ≡ plain_solid (option_map plain_facts o)
solid_is None = refl
solid_is (Some f) = refl

cost_is : (o : Option Facts) → cost_of o ≡ plain_cost (option_map plain_facts o)
cost_is None = refl
cost_is (Some f) = refl

some_facts : (o : Option Facts) → is_some (option_map plain_facts o) ≡ true → (f : Facts) × (o ≡ Some f)
some_facts None e = cc
some_facts (Some f) e = (f, refl)

rank_below : (k : ℕ) (o : Option Facts) → has_rank_below k (option_map plain_facts o) ≡ true → (f : Facts) × (o ≡ Some f) × (f.rank < k)
rank_below k None e = cc
rank_below k (Some f) e = (f, refl, ltb-true f.rank k e)

other_at : (o closing : Option ℕ) → is_other o closing ≡ true → (p : ℕ) × (o ≡ Some p) × (closing ≡ Some p → ⊥)
other_at None closing e = cc
other_at (Some p) None e = (p, refl, λ h. cc)
other_at (Some p) (Some q) e = (p, refl, λ h. differs q p (eq-eqb q p (same q p h)) e)
  where
    same : (q p : ℕ) → Some q ≡ Some p → q ≡ p
    same q p h = cc

    differs : (q p : ℕ) → is_number (Some q) p ≡ true → not (is_number (Some q) p) ≡ true → ⊥
    differs q p h e = let f = ap not h in cc

-- ---- the grammar as a value

abbrev pub plain_grammar : Grammar → PlainGrammar
plain_grammar g = record { signs = plain_classes g.signs.items; rules = plain_rules g.rules.items; parts = map plain_facts g.parts.items }

module _ (g : Grammar) where
  part_is : (n : ℕ) → slice_get (map plain_facts g.parts.items) n ≡ option_map plain_facts (slice_get g.parts.items n)
  part_is n = slice_get-map plain_facts g.parts.items n

  accepts_is : (s k : ℕ) → accepts g s k ≡ get_or (sign_row (slice_get (plain_grammar g).signs s)) k false
  accepts_is s k = accepted_is (slice_get g.signs.items s) k ∙ ap (λ o. get_or (sign_row o) k false) (sym (slice_get-map (λ (c : Class). c.kinds.items) g.signs.items s))

  pick_is : (n c : ℕ) → pick g n c ≡ get_or (choice_row (slice_get (plain_grammar g).parts n)) c None
  pick_is n c = chosen_is (slice_get g.parts.items n) c ∙ ap (λ o. get_or (choice_row o) c None) (sym (part_is n))

  follows_is : (n c : ℕ) → may_follow (slice_get g.parts.items n) c ≡ get_or (follow_row (slice_get (plain_grammar g).parts n)) c false
  follows_is n c = follow_is (slice_get g.parts.items n) c ∙ ap (λ o. get_or (follow_row o) c false) (sym (part_is n))

  closes_is : (n : ℕ) → closing_of (slice_get g.parts.items n) ≡ plain_closing (slice_get (plain_grammar g).parts n)
  closes_is n = closing_is (slice_get g.parts.items n) ∙ ap plain_closing (sym (part_is n))

  solids_is : (n : ℕ) → is_solid (slice_get g.parts.items n) ≡ plain_solid (slice_get (plain_grammar g).parts n)
  solids_is n = solid_is (slice_get g.parts.items n) ∙ ap plain_solid (sym (part_is n))

  costs_is : (n : ℕ) → cost_of (slice_get g.parts.items n) ≡ plain_cost (slice_get (plain_grammar g).parts n)
  costs_is n = cost_is (slice_get g.parts.items n) ∙ ap plain_cost (sym (part_is n))

  opens_at : (n : ℕ) (ss : List Symbol) (c : ℕ) → OpensIn g n ss c → get_or (opening_row (plain_grammar g) (follow_row (slice_get (plain_grammar g).parts n)) ss) c false ≡ true
  opens_at n [] c h = sym (follows_is n c) ∙ h
  opens_at n (Sign s ∷ ss) c h = rw h.1 (sym (accepts_is s h.0) ∙ h.2)
  opens_at n (Act a ∷ ss) c h = opens_at n ss c h
  opens_at n (Part m ∷ ss) c h = some_at (choice_row (slice_get (plain_grammar g).parts m)) c h.0 (sym (pick_is m c) ∙ h.1)

  fine_at : (n : ℕ) (ss : List Symbol) → is_fine (plain_grammar g) (follow_row (slice_get (plain_grammar g).parts n)) ss ≡ true → IsFineIn g n ss
  fine_at n [] e = tt
  fine_at n (Sign s ∷ ss) e = fine_at n ss e
  fine_at n (Act a ∷ ss) e = fine_at n ss e
  fine_at n (Part m ∷ ss) e =
      let two = both_hold (covers (opening_row (plain_grammar g) (follow_row (slice_get (plain_grammar g).parts n)) ss) (follow_row (slice_get (plain_grammar g).parts m)))
      (is_fine (plain_grammar g) (follow_row (slice_get (plain_grammar g).parts n)) ss) e in
      (λ c h. follows_is m c ∙ covered _ _ c two.0 (opens_at n ss c h), fine_at n ss two.1)

  kind_at : (s : ℕ) → list_any (λ b. b) (sign_row (slice_get (plain_grammar g).signs s)) ≡ true → (k : ℕ) × (accepts g s k ≡ true)
  kind_at s e = let h = any_at (sign_row (slice_get (plain_grammar g).signs s)) e in (h.0, accepts_is s h.0 ∙ h.1)

  known_at : (ss : List Symbol) → is_known (plain_grammar g) ss ≡ true → AreKnownSymbols g ss
  known_at [] e = tt
  known_at (Sign s ∷ ss) e = let two = both_hold (list_any (λ b. b) (sign_row (slice_get (plain_grammar g).signs s))) (is_known (plain_grammar g) ss) e in (kind_at s two.0, known_at ss two.1)
  known_at (Act a ∷ ss) e = known_at ss e
  known_at (Part m ∷ ss) e = let two = both_hold (is_some (slice_get (plain_grammar g).parts m)) (is_known (plain_grammar g) ss) e in
      (some_facts (slice_get g.parts.items m) (ap is_some (sym (part_is m)) ∙ two.0), known_at ss two.1)

  below_at : (k : ℕ) (ss : List Symbol) → is_below (plain_grammar g) k ss ≡ true → RanksAreBelow g k ss
  below_at k [] e = tt
  below_at k (Sign s ∷ ss) e = let two = both_hold (list_any (λ b. b) (sign_row (slice_get (plain_grammar g).signs s))) (is_below (plain_grammar g) k ss) e in (kind_at s two.0, below_at k ss two.1)
  below_at k (Act a ∷ ss) e = below_at k ss e
  below_at k (Part m ∷ ss) e = let two = both_hold (has_rank_below k (slice_get (plain_grammar g).parts m)) (is_below (plain_grammar g) k ss) e in
      (rank_below k (slice_get g.parts.items m) (ap (has_rank_below k) (sym (part_is m)) ∙ two.0), below_at k ss two.1)

  has_solid_is : (ss : List Symbol) → has_solid g ss ≡ plain_has_solid (plain_grammar g) ss
  has_solid_is [] = refl
  has_solid_is (Sign s ∷ ss) = refl
  has_solid_is (Act a ∷ ss) = has_solid_is ss
  has_solid_is (Part m ∷ ss) = rw (solids_is m, has_solid_is ss) refl

  height_is : (ss : List Symbol) → height g ss ≡ plain_height (plain_grammar g) ss
  height_is [] = refl
  height_is (Sign s ∷ ss) = refl
  height_is (Act a ∷ ss) = ap suc (height_is ss)
  height_is (Part m ∷ ss) = rw (solids_is m, costs_is m, height_is ss) refl

  begins_at : (ss : List Symbol) (c : ℕ) → begins (plain_grammar g) ss c ≡ true → BeginsAtColumn g ss c
  begins_at [] c e = cc
  begins_at (Sign s ∷ ss) zero e = cc
  begins_at (Sign s ∷ ss) (suc k) e = (k, refl, accepts_is s k ∙ e)
  begins_at (Act a ∷ ss) c e = let two = both_hold (begins_member a) (begins (plain_grammar g) ss c) e in (two.0, begins_at ss c two.1)
  begins_at (Part m ∷ ss) c e =
      let h = other_at (get_or (choice_row (slice_get (plain_grammar g).parts m)) c None) (plain_closing (slice_get (plain_grammar g).parts m)) e in
      (h.0, pick_is m c ∙ h.1, λ closes. h.2 (sym (closes_is m) ∙ closes))

  rule_is : (p : ℕ) → slice_get (plain_grammar g).rules p ≡ option_map plain_rule (slice_get g.rules.items p)
  rule_is p = slice_get-map plain_rule g.rules.items p

  rule_of_at : (n : ℕ) (o : Option Rule) → is_rule_of n (option_map plain_rule o) ≡ true → (r : Rule) × (o ≡ Some r) × (r.part ≡ n)
  rule_of_at n None e = cc
  rule_of_at n (Some r) e = (r, refl, eqb-true r.part n e)

  goes_at : (n c : ℕ) (o : Option Rule) → goes_on (plain_grammar g) n c (option_map plain_rule o) ≡ true → (r : Rule) × (o ≡ Some r) × (r.part ≡ n) × BeginsAtColumn g r.body.items c
  goes_at n c None e = cc
  goes_at n c (Some r) e = let two = both_hold (r.part == n) (begins (plain_grammar g) r.body.items c) e in (r, refl, eqb-true r.part n two.0, begins_at r.body.items c two.1)

  shortest_at : (n k : ℕ) (o : Option Rule) → is_shortest (plain_grammar g) n k (option_map plain_rule o) ≡ true → (r : Rule) × (o ≡ Some r) × (r.part ≡ n) × RanksAreBelow g k r.body.items
  shortest_at n k None e = cc
  shortest_at n k (Some r) e = let two = both_hold (r.part == n) (is_below (plain_grammar g) k r.body.items) e in (r, refl, eqb-true r.part n two.0, below_at k r.body.items two.1)

  fits_at : (p : ℕ) (r : Rule) → rule_fits (plain_grammar g) p (Some (plain_rule r)) ≡ true → FitsRule g p r
  fits_at p r e =
      let G = plain_grammar g in
      let f = slice_get G.parts r.part in
      let after = follow_row f in
      let ss = r.body.items in
      let a = picks (opening_row G after ss) (choice_row f) p in
      let b = is_fine G after ss in
      let k = is_known G ss in
      let d = not (plain_solid f) || plain_has_solid G ss in
      let h = five_hold a b k d (nat_lt (plain_height G ss) (plain_cost f)) e in
      record {
        picks = λ c opens. pick_is r.part c ∙ picked_at (opening_row G after ss) (choice_row f) p c h.0 (opens_at r.part ss c opens);
        fine = fine_at r.part ss h.1;
        known = known_at ss h.2;
        solid = λ solid. has_solid_is ss ∙ if_so (plain_solid f) (plain_has_solid G ss) h.3 (sym (solids_is r.part) ∙ solid);
        lower = rw (height_is ss, costs_is r.part) (ltb-true (plain_height G ss) (plain_cost f) h.4);
      }

  choice_at : (n c p : ℕ) (closing : Option ℕ) → closing_of (slice_get g.parts.items n) ≡ closing
      → (is_number closing p && is_rule_of n (slice_get (plain_grammar g).rules p) ≡ true) ⊎ (goes_on (plain_grammar g) n c (slice_get (plain_grammar g).rules p) ≡ true) → IsChoice g n c p
  choice_at n c p closing is (inl e) =
      let two = both_hold (is_number closing p) (is_rule_of n (slice_get (plain_grammar g).rules p)) e in
      let h = rule_of_at n (slice_get g.rules.items p) (ap (is_rule_of n) (sym (rule_is p)) ∙ two.1) in
      (h.0, h.1, h.2, inl (is ∙ is_number_at closing p two.0))
  choice_at n c p closing is (inr e) =
      let h = goes_at n c (slice_get g.rules.items p) (ap (goes_on (plain_grammar g) n c) (sym (rule_is p)) ∙ e) in
      (h.0, h.1, h.2, inr h.3)

  -- what the table knows of part n fits the rules
  record FitsPart (n : ℕ) : Type 0 where
    picked : (c p : ℕ) → pick g n c ≡ Some p → IsChoice g n c p
    closed : (p : ℕ) → closing_of (slice_get g.parts.items n) ≡ Some p → IsRuleOf g n p
    shortest : (f : Facts) → slice_get g.parts.items n ≡ Some f → HasShortest g n f

  facts_at : (n : ℕ) (f : Facts) → slice_get g.parts.items n ≡ Some f → facts_fit (plain_grammar g) n (Some (plain_facts f)) ≡ true → FitsPart n
  facts_at n f is e =
      let G = plain_grammar g in
      let test : ℕ → Bool = λ c. choice_fits G n f.closing c (get_or f.choices.items c None) in
      let h = three_hold (all_below (length f.choices.items) test) (closing_fits G n f.closing) (is_shortest G n f.rank (slice_get G.rules f.shortest)) e in
      let chosen_there : (c : ℕ) → pick g n c ≡ get_or f.choices.items c None = λ c. ap (λ o. chosen o c) is in
      record {
        picked = λ c p picks.
            let there = sym (chosen_there c) ∙ picks in
            let fit = all_below_at (length f.choices.items) test c h.0 (within_at f.choices.items c p there) in
            choice_at n c p f.closing (ap closing_of is) (one_holds (is_number f.closing p && is_rule_of n (slice_get G.rules p)) (goes_on G n c (slice_get G.rules p)) (ap (choice_fits G n f.closing c) (sym there) ∙ fit));
        closed = λ p closes. rule_of_at n (slice_get g.rules.items p) (ap (is_rule_of n) (sym (rule_is p)) ∙ (ap (closing_fits G n) (sym (sym (ap closing_of is) ∙ closes)) ∙ h.1));
        shortest = λ f2 is2. let same = same_facts f f2 (sym is ∙ is2) in subst (λ (x : Facts). HasShortest g n x) same (shortest_at n f.rank (slice_get g.rules.items f.shortest) (ap (is_shortest G n f.rank) (sym (rule_is f.shortest)) ∙ h.2));
      }

  -- texts of part 0 can be read by a table that passes the test
  pub can_read_by : fits (plain_grammar g) ≡ true → CanRead g 0
  can_read_by e =
      let G = plain_grammar g in
      let rule_test : ℕ → Bool = λ p. rule_fits G p (slice_get G.rules p) in
      let part_test : ℕ → Bool = λ n. facts_fit G n (slice_get G.parts n) in
      let h = four_hold (all_below (length G.rules) rule_test) (all_below (length G.parts) part_test) (is_known G (Part 0 ∷ [])) (get_or (follow_row (slice_get G.parts 0)) 0 false) e in
      let part : (n : ℕ) (f : Facts) → slice_get g.parts.items n ≡ Some f → FitsPart n = λ n f is.
      facts_at n f is (ap (facts_fit G n) (ap (option_map plain_facts) (sym is) ∙ sym (part_is n))
      ∙ all_below_at (length G.parts) part_test n h.1 (let w = slice_get_within g.parts.items n f is in omega (arith, length-map g.parts.items plain_facts))) in
      record {
        predictive = record {
          rules = λ p r is. fits_at p r (ap (rule_fits G p) (ap (option_map plain_rule) (sym is) ∙ sym (rule_is p))
              ∙ all_below_at (length G.rules) rule_test p h.0 (let w = slice_get_within g.rules.items p r is in omega (arith, length-map g.rules.items plain_rule)));
          picked = λ n c p picks. let at = known_by_cases g.parts.items n (chosen_within g.parts.items n c p picks) in (part n at.0 at.1).picked c p picks;
          closed = λ n p closes. let at = known_by_cases g.parts.items n (closing_within g.parts.items n p closes) in (part n at.0 at.1).closed p closes;
          shortest = λ n f is. (part n f is).shortest f is;
        };
        known = known_at (Part 0 ∷ []) h.2;
        ends = follows_is 0 0 ∙ h.3;
      }

-- a grammar of the rules and signs that formats make is read by a table that passes the test for them
pub can_read_given : (g : Grammar) (f : Formats) (words : List (Bor (List ℕ))) (table : List PlainPart) (n : ℕ) → plain_rules g.rules.items ≡ rules_of f → plain_classes g.signs.items ≡ classes_of (words_of f)
    → map plain_facts g.parts.items ≡ map (dense n) table → texts words ≡ words_of f → n ≡ length words + 8 → fits (grammar_value f table) ≡ true → CanRead g 0
can_read_given g f words table n rules signs parts spelled columns e =
    let count : n ≡ length (words_of f) + 8 = columns ∙ ap (λ k. k + 8) (sym (length-map words (λ (w : Bor (List ℕ)). w.now)) ∙ ap length spelled) in
    can_read_by g (rw (rules, signs, parts, count) e)
