-- The test that a table fits a grammar, on values, so that it can be computed.
use Rattle.std.specs.Prelude.{ℕ, zero, suc, ◌+◌, ◌==◌, ◌&&◌, ◌||◌, not, nat_lt, List, [], ◌∷◌, map, length, Option, Some, None, Bool, true, false, cond, is_some, is_none, slice_get, slice_index_or}
use Rattle.std.specs.List.{list_any}
use Rattle.ir_grammar.specs.declared.grammar.Symbol.{Symbol}
use Rattle.ir_grammar.specs.declared.grammar.Symbol.TheVariants.{Sign, Part, Act}
use Rattle.ir_grammar.specs.declared.grammar.Facts.{Facts}
use Rattle.ir_grammar.specs.Reading.{begins_member}
use Rattle.ir_formats.specs.Rules.{PlainRule}

-- What a table knows of a part: for each column the rule to take there, and whether the part may stand before it; the rule to take
-- where no token goes on with the part; more than the steps that are taken for it before a token; and a rule with parts of lower
-- ranks alone.
pub record PlainFacts : Type 0 where
  pub choices : List (Option ℕ)
  pub follows : List Bool
  pub closing : Option ℕ
  pub cost : ℕ
  pub shortest : ℕ
  pub rank : ℕ

-- A grammar with its table: for each sign a mark for each kind that it takes, the rules, and what is known of each part.
pub record PlainGrammar : Type 0 where
  pub signs : List (List Bool)
  pub rules : List PlainRule
  pub parts : List PlainFacts

-- the facts of the program's table, as values
abbrev pub plain_facts : Facts → PlainFacts
plain_facts f = record { choices = f.choices.items; follows = f.follows.items; closing = f.closing; cost = f.cost; shortest = f.shortest; rank = f.rank }

-- ---- what is known of signs and parts

abbrev pub sign_row : Option (List Bool) → List Bool
sign_row None = []
sign_row (Some row) = row

abbrev pub choice_row : Option PlainFacts → List (Option ℕ)
choice_row None = []
choice_row (Some f) = f.choices

abbrev pub follow_row : Option PlainFacts → List Bool
follow_row None = []
follow_row (Some f) = f.follows

abbrev pub plain_closing : Option PlainFacts → Option ℕ
plain_closing None = None
plain_closing (Some f) = f.closing

abbrev pub plain_solid : Option PlainFacts → Bool
plain_solid None = false
plain_solid (Some f) = is_none f.closing

abbrev pub plain_cost : Option PlainFacts → ℕ
plain_cost None = 0
plain_cost (Some f) = f.cost

-- ---- tests

-- the test passes for each number below n
abbrev pub all_below : ℕ → (ℕ → Bool) → Bool
all_below zero test = true
all_below (suc n) test = test n && all_below n test

-- this is the number, if there is one
abbrev pub is_number : Option ℕ → ℕ → Bool
is_number None p = false
is_number (Some q) p = q == p

-- each marked column of the first row is marked in the second
abbrev pub covers : List Bool → List Bool → Bool
covers [] ys = true
covers (x ∷ xs) [] = not x && covers xs []
covers (x ∷ xs) (y ∷ ys) = (not x || y) && covers xs ys

-- at each marked column the choice is this rule
abbrev pub picks : List Bool → List (Option ℕ) → ℕ → Bool
picks [] ys p = true
picks (x ∷ xs) [] p = not x && picks xs [] p
picks (x ∷ xs) (y ∷ ys) p = (not x || is_number y p) && picks xs ys p

-- the columns at which the rest of a rule may begin, with these behind it
abbrev pub opening_row : PlainGrammar → List Bool → List Symbol → List Bool
opening_row G after [] = after
opening_row G after (Sign s ∷ ss) = false ∷ sign_row (slice_get G.signs s)
opening_row G after (Act a ∷ ss) = opening_row G after ss
opening_row G after (Part m ∷ ss) = map is_some (choice_row (slice_get G.parts m))

-- each part may stand before what comes after it
abbrev pub is_fine : PlainGrammar → List Bool → List Symbol → Bool
is_fine G after [] = true
is_fine G after (Sign s ∷ ss) = is_fine G after ss
is_fine G after (Act a ∷ ss) = is_fine G after ss
is_fine G after (Part m ∷ ss) = covers (opening_row G after ss) (follow_row (slice_get G.parts m)) && is_fine G after ss

-- each sign has a kind of token, and each part has facts
abbrev pub is_known : PlainGrammar → List Symbol → Bool
is_known G [] = true
is_known G (Sign s ∷ ss) = list_any (λ b. b) (sign_row (slice_get G.signs s)) && is_known G ss
is_known G (Act a ∷ ss) = is_known G ss
is_known G (Part m ∷ ss) = is_some (slice_get G.parts m) && is_known G ss

-- there are facts with a rank below k
abbrev pub has_rank_below : ℕ → Option PlainFacts → Bool
has_rank_below k None = false
has_rank_below k (Some f) = nat_lt f.rank k

-- each sign has a kind of token, and each part has facts with a rank below k
abbrev pub is_below : PlainGrammar → ℕ → List Symbol → Bool
is_below G k [] = true
is_below G k (Sign s ∷ ss) = list_any (λ b. b) (sign_row (slice_get G.signs s)) && is_below G k ss
is_below G k (Act a ∷ ss) = is_below G k ss
is_below G k (Part m ∷ ss) = has_rank_below k (slice_get G.parts m) && is_below G k ss

-- some symbol has a token in each of its texts
abbrev pub plain_has_solid : PlainGrammar → List Symbol → Bool
plain_has_solid G [] = false
plain_has_solid G (Sign s ∷ ss) = true
plain_has_solid G (Act a ∷ ss) = plain_has_solid G ss
plain_has_solid G (Part m ∷ ss) = cond (plain_solid (slice_get G.parts m)) true (plain_has_solid G ss)

-- at least the number of rules and actions that are taken before the next token is
abbrev pub plain_height : PlainGrammar → List Symbol → ℕ
plain_height G [] = 0
plain_height G (Sign s ∷ ss) = 0
plain_height G (Act a ∷ ss) = suc (plain_height G ss)
plain_height G (Part m ∷ ss) = plain_cost (slice_get G.parts m) + cond (plain_solid (slice_get G.parts m)) 0 (plain_height G ss)

-- the table fits rule p
abbrev pub rule_fits : PlainGrammar → ℕ → Option PlainRule → Bool
rule_fits G p None = true
rule_fits G p (Some r) = let f = slice_get G.parts r.0 in
    picks (opening_row G (follow_row f) r.1) (choice_row f) p
    && is_fine G (follow_row f) r.1
    && is_known G r.1
    && (not (plain_solid f) || plain_has_solid G r.1)
    && nat_lt (plain_height G r.1) (plain_cost f)

-- this is the choice of some rule other than this one
abbrev pub is_other : Option ℕ → Option ℕ → Bool
is_other None closing = false
is_other (Some p) closing = not (is_number closing p)

-- the first token of the symbols stands at the column, with nothing done before it but that members begin
abbrev pub begins : PlainGrammar → List Symbol → ℕ → Bool
begins G [] c = false
begins G (Sign s ∷ ss) zero = false
begins G (Sign s ∷ ss) (suc k) = slice_index_or (sign_row (slice_get G.signs s)) k false
begins G (Act a ∷ ss) c = begins_member a && begins G ss c
begins G (Part m ∷ ss) c = let f = slice_get G.parts m in is_other (slice_index_or (choice_row f) c None) (plain_closing f)

-- a rule of part n
abbrev pub is_rule_of : ℕ → Option PlainRule → Bool
is_rule_of n None = false
is_rule_of n (Some r) = r.0 == n

-- a rule of part n that goes on at the column
abbrev pub goes_on : PlainGrammar → ℕ → ℕ → Option PlainRule → Bool
goes_on G n c None = false
goes_on G n c (Some r) = r.0 == n && begins G r.1 c

-- what is chosen at the column is a rule of part n: the closing one, or one that goes on there
abbrev pub choice_fits : PlainGrammar → ℕ → Option ℕ → ℕ → Option ℕ → Bool
choice_fits G n closing c None = true
choice_fits G n closing c (Some p) = (is_number closing p && is_rule_of n (slice_get G.rules p)) || goes_on G n c (slice_get G.rules p)

-- a rule of part n with parts of lower ranks alone
abbrev pub is_shortest : PlainGrammar → ℕ → ℕ → Option PlainRule → Bool
is_shortest G n k None = false
is_shortest G n k (Some r) = r.0 == n && is_below G k r.1

-- the closing rule, if there is one, is a rule of part n
abbrev pub closing_fits : PlainGrammar → ℕ → Option ℕ → Bool
closing_fits G n None = true
closing_fits G n (Some p) = is_rule_of n (slice_get G.rules p)

-- the facts of part n fit the rules
abbrev pub facts_fit : PlainGrammar → ℕ → Option PlainFacts → Bool
facts_fit G n None = true
facts_fit G n (Some f) =
    all_below (length f.choices) (λ c. choice_fits G n f.closing c (slice_index_or f.choices c None))
    && closing_fits G n f.closing
    && is_shortest G n f.rank (slice_get G.rules f.shortest)

-- the table fits the rules, and texts of part 0 may end
abbrev pub fits : PlainGrammar → Bool
fits G =
    all_below (length G.rules) (λ p. rule_fits G p (slice_get G.rules p))
    && all_below (length G.parts) (λ n. facts_fit G n (slice_get G.parts n))
    && is_known G (Part 0 ∷ [])
    && slice_index_or (follow_row (slice_get G.parts 0)) 0 false
