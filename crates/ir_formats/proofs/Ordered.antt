-- What the test of rules tells of the texts of a grammar.
use Rattle.std.proofs.Common.{◌≡◌, ℕ, zero, suc, ◌&&◌, ◌||◌, not, List, [], ◌∷◌, ◌++◌, Option, Some, None, Bool, true, false, if◌then◌else◌, length, take, slice_get, refl, sym, subst, ap, ◌∙◌}
use Rattle.std.specs.Prelude.{slice_index_or}
use Rattle.std.specs.Bool.{MatchBool}
use Rattle.std.proofs.lemmas.Bool.{eqb-true}
use Rattle.std.proofs.lemmas.List.{append_assoc}
use Rattle.ir_grammar.specs.declared.grammar.Action.{Action}
use Rattle.ir_grammar.specs.declared.grammar.Action.TheVariants.{Result, Argument, Label, Operand, BeginSuccessor}
use Rattle.ir_grammar.specs.declared.grammar.Symbol.{Symbol}
use Rattle.ir_grammar.specs.declared.grammar.Symbol.TheVariants.{Sign, Part, Act}
use Rattle.ir_grammar.specs.declared.grammar.Event.{Event}
use Rattle.ir_grammar.specs.declared.grammar.Event.TheVariants.{Took, Did}
use Rattle.ir_grammar.specs.declared.grammar.Rule.{Rule}
use Rattle.ir_grammar.specs.declared.grammar.Grammar.{Grammar}
use Rattle.ir_grammar.specs.Grammar.{Derives, Finished, Shifted, Acted, Expanded}
use Rattle.ir_grammar.specs.declared.grammar.Stop.{Stop}
use Rattle.ir_grammar.specs.declared.grammar.Stop.TheVariants.{Text, Stuck, Deep}
use Rattle.ir_grammar.specs.Reading.{through, Reads}
use Rattle.ir_formats.specs.Rules.{plain_rule, plain_rules}
use Rattle.ir_grammar.specs.Nesting.{names_value_or_block, OwnTokens, Position, at_root, behind_root_results, at_end, in_operation, in_operands, in_successor, in_region, in_header, in_argument, in_block, behind_results, in_value, in_list, in_item, in_choice, Move, goes_to, goes_in, goes_out, nowhere, move, Nests, NestsBy, has_own_token, FollowTokens}
use Rattle.ir_formats.specs.Ordered.{Standing, alone, moved_out, moved_by, moved, passed, passed_all, number_of_position, is_same_position, PartPositions, led_from, placed, led, walked, walked_all, is_alone_at, is_alone, lead_so, follow_signs, is_rule_ordered, are_rules_ordered, is_ordered, LeadsToPosition, IsInOrder, OrdersTexts}
use Rattle.ir_print.specs.declared.format.ValueSort.TheVariants as sorts
use Rattle.ir_formats.proofs.Booleans.{both_hold}

pub nothing : {A : Type 0} {C : Type 0} {x : A} → None ≡ Some x → C
nothing e = cc

inner : {A : Type 0} {x y : A} → Some x ≡ Some y → x ≡ y
inner e = cc

-- ---- positions

-- the position with a number
position_at : ℕ → Position
position_at n = slice_index_or (at_root ∷ behind_root_results ∷ at_end ∷ in_operation ∷ in_operands ∷ in_region ∷ in_header ∷ in_argument ∷ in_block ∷ behind_results ∷ (in_value sorts.«Type») ∷ (in_value sorts.Attribute) ∷ in_list ∷ in_item ∷ in_successor ∷ in_choice ∷ []) n at_end

position_back : (p : Position) → position_at (number_of_position p) ≡ p
unfolding position_at
position_back at_root = refl
position_back behind_root_results = refl
position_back at_end = refl
position_back in_operation = refl
position_back in_operands = refl
position_back in_region = refl
position_back in_header = refl
position_back in_argument = refl
position_back in_block = refl
position_back behind_results = refl
position_back (in_value sorts.«Type») = refl
position_back (in_value sorts.Attribute) = refl
position_back in_list = refl
position_back in_item = refl
position_back in_successor = refl
position_back in_choice = refl

pub same_position : (p q : Position) → is_same_position p q ≡ true → p ≡ q
same_position p q e = sym (position_back p) ∙ (ap position_at (eqb-true (number_of_position p) (number_of_position q) e) ∙ position_back q)

is_alone_there : (p : Position) (around : List Position) (q : Position) → is_alone_at p around q ≡ true → Some (record { here = p; around = around }) ≡ Some (alone q)
is_alone_there p [] q e = ap (λ x. Some (alone x)) (same_position p q e)
is_alone_there p (x ∷ xs) q e = cc

pub alone_there : (s : Option Standing) (q : Position) → is_alone s q ≡ true → s ≡ Some (alone q)
alone_there None q e = cc
alone_there (Some s) q e = is_alone_there s.here s.around q e

-- ---- walks one behind the other

pub passed_none : (es : List Event) → passed_all None es ≡ None
passed_none [] = refl
passed_none (Took ∷ es) = passed_none es
passed_none (Did a ∷ es) = passed_none es

pub passed_append : (s : Option Standing) (a b : List Event) → passed_all s (a ++ b) ≡ passed_all (passed_all s a) b
passed_append s [] b = refl
passed_append s (e ∷ a) b = passed_append (passed s e) a b

module _ (leads : PartPositions) where
  walked_none : (ss : List Symbol) → walked_all leads None ss ≡ None
  walked_none [] = refl
  walked_none (Sign k ∷ ss) = walked_none ss
  walked_none (Part n ∷ ss) = walked_none ss
  walked_none (Act a ∷ ss) = walked_none ss

  walked_append : (s : Option Standing) (a b : List Symbol) → walked_all leads s (a ++ b) ≡ walked_all leads (walked_all leads s a) b
  walked_append s [] b = refl
  walked_append s (x ∷ a) b = walked_append (walked leads s x) a b

-- ---- the same walk with more around

abbrev wider : Option Standing → List Position → Option Standing
wider None more = None
wider (Some s) more = Some (record { here = s.here; around = s.around ++ more })

module _ (more : List Position) where
  placed_wider : (o : Option Position) (around : List Position) → placed o (around ++ more) ≡ wider (placed o around) more
  placed_wider None around = refl
  placed_wider (Some p) around = refl

  led_wider : (xs : List (Position × Position)) (s : Option Standing) → led xs (wider s more) ≡ wider (led xs s) more
  led_wider xs None = refl
  led_wider xs (Some s) = placed_wider (led_from xs s.here) s.around

  out_wider : (around : List Position) (t : Standing) → moved_out around ≡ Some t → moved_out (around ++ more) ≡ wider (Some t) more
  out_wider [] t e = nothing e
  out_wider (x ∷ around) t e = ap (λ o. wider o more) e

  moved_by_wider : (m : Move) (around : List Position) (t : Standing) → moved_by m around ≡ Some t → moved_by m (around ++ more) ≡ wider (Some t) more
  moved_by_wider (goes_to next) around t e = ap (λ o. wider o more) e
  moved_by_wider (goes_in inside next) around t e = ap (λ o. wider o more) e
  moved_by_wider goes_out around t e = out_wider around t e
  moved_by_wider nowhere around t e = nothing e

  moved_wider : (s : Option Standing) (a : Action) (t : Standing) → moved s a ≡ Some t → moved (wider s more) a ≡ wider (Some t) more
  moved_wider None a t e = nothing e
  moved_wider (Some s) a t e = moved_by_wider (move s.here a) s.around t e

  walked_wider : (leads : PartPositions) (s : Option Standing) (x : Symbol) (t : Standing) → walked leads s x ≡ Some t → walked leads (wider s more) x ≡ wider (Some t) more
  walked_wider leads s (Sign k) t e = ap (λ o. wider o more) e
  walked_wider leads s (Part n) t e = led_wider (leads n) s ∙ ap (λ o. wider o more) e
  walked_wider leads s (Act a) t e = moved_wider s a t e

  all_wider : (leads : PartPositions) (ss : List Symbol) (s : Option Standing) (t : Standing) → walked_all leads s ss ≡ Some t → walked_all leads (wider s more) ss ≡ wider (Some t) more
  all_wider leads [] s t e = ap (λ o. wider o more) e
  all_wider leads (x ∷ ss) s t e = go (walked leads s x) refl e (λ u h. all_wider leads ss (Some u) t h)
    where
      go : (o : Option Standing) → walked leads s x ≡ o → walked_all leads o ss ≡ Some t
          → ((u : Standing) → walked_all leads (Some u) ss ≡ Some t → walked_all leads (wider (Some u) more) ss ≡ wider (Some t) more)
          → walked_all leads (walked leads (wider s more) x) ss ≡ wider (Some t) more
      go None w h again = nothing (sym (walked_none leads ss) ∙ h)
      go (Some u) w h again = ap (λ o. walked_all leads o ss) (walked_wider leads s x u w) ∙ again u h

all_around : (leads : PartPositions) (ss : List Symbol) (s : Standing) (q : Position) → walked_all leads (Some (alone s.here)) ss ≡ Some (alone q) → walked_all leads (Some s) ss ≡ placed (Some q) s.around
all_around leads ss s q e = all_wider s.around leads ss (Some (alone s.here)) (alone q) e

-- ---- one part

module _ (leads : PartPositions) where
  -- what the test says of one pair
  pair_leads : (xs : List (Position × Position)) (body : List Symbol) (p q : Position) → lead_so leads xs body ≡ true → led_from xs p ≡ Some q
      → walked_all leads (Some (alone p)) body ≡ Some (alone q)
  pair_leads [] body p q h e = nothing e
  pair_leads (x ∷ xs) body p q h e = go (is_same_position x.0 p) refl e (λ w. pair_leads xs body p q (both_hold (is_alone (walked_all leads (Some (alone x.0)) body) x.1) _ h).1 w)
    where
      go : (b : Bool) → is_same_position x.0 p ≡ b → (if b then Some x.1 else led_from xs p) ≡ Some q
          → (led_from xs p ≡ Some q → walked_all leads (Some (alone p)) body ≡ Some (alone q)) → walked_all leads (Some (alone p)) body ≡ Some (alone q)
      go true same e again =
          let from = same_position x.0 p same in
          let here = alone_there (walked_all leads (Some (alone x.0)) body) x.1 (both_hold _ _ h).0 in
          ap (λ y. walked_all leads (Some (alone y)) body) (sym from) ∙ (here ∙ ap (λ y. Some (alone y)) (inner e))
      go false other e again = again e

  -- the body of a part's rule leads to where the part does
  body_leads : (xs : List (Position × Position)) (body : List Symbol) (s : Option Standing) (t : Standing) → lead_so leads xs body ≡ true → led xs s ≡ Some t → walked_all leads s body ≡ Some t
  body_leads xs body None t h e = nothing e
  body_leads xs body (Some s) t h e = go (led_from xs s.here) refl e
    where
      go : (o : Option Position) → led_from xs s.here ≡ o → placed o s.around ≡ Some t → walked_all leads (Some s) body ≡ Some t
      go None w e = nothing e
      go (Some q) w e = all_around leads body s q (pair_leads xs body s.here q h w) ∙ e

  expanded : (xs : List (Position × Position)) (body ss : List Symbol) (s : Option Standing) (x : Standing) → lead_so leads xs body ≡ true → walked_all leads (led xs s) ss ≡ Some x → walked_all leads s (body ++ ss) ≡ Some x
  expanded xs body ss s x h e = go (led xs s) refl e
    where
      go : (o : Option Standing) → led xs s ≡ o → walked_all leads o ss ≡ Some x → walked_all leads s (body ++ ss) ≡ Some x
      go None w e = nothing (sym (walked_none leads ss) ∙ e)
      go (Some t) w e = walked_append leads s body ss ∙ (ap (λ o. walked_all leads o ss) (body_leads xs body s t h w) ∙ e)

-- ---- actions behind their tokens

follow_weaker : (fresh : Bool) (ss : List Symbol) → follow_signs false ss ≡ true → follow_signs fresh ss ≡ true
follow_weaker fresh [] h = refl
follow_weaker fresh (Sign k ∷ ss) h = h
follow_weaker fresh (Part n ∷ ss) h = h
follow_weaker fresh (Act a ∷ ss) h = go (has_own_token a) fresh h
  where
    go : (own f : Bool) → (not own || false) && follow_signs false ss ≡ true → (not own || f) && follow_signs false ss ≡ true
    go true f h = cc
    go false f h = h

follow_append : (body ss : List Symbol) (fresh : Bool) → follow_signs fresh body ≡ true → follow_signs false ss ≡ true → follow_signs fresh (body ++ ss) ≡ true
follow_append [] ss fresh b h = follow_weaker fresh ss h
follow_append (Sign k ∷ body) ss fresh b h = follow_append body ss true b h
follow_append (Part n ∷ body) ss fresh b h = follow_append body ss false b h
follow_append (Act a ∷ body) ss fresh b h = go (not (has_own_token a) || fresh) b (λ e. follow_append body ss false e h)
  where
    go : (c : Bool) → c && follow_signs false body ≡ true → (follow_signs false body ≡ true → follow_signs false (body ++ ss) ≡ true) → c && follow_signs false (body ++ ss) ≡ true
    go true e again = again e
    go false e again = e

-- ---- the rules of a grammar

rule_ordered : (leads : PartPositions) (rs : List Rule) → are_rules_ordered leads (plain_rules rs) ≡ true → (p : ℕ) (r : Rule) → slice_get rs p ≡ Some r → is_rule_ordered leads (plain_rule r) ≡ true
rule_ordered leads [] h p r e = nothing e
rule_ordered leads (x ∷ rs) h zero r e = ap (λ y. is_rule_ordered leads (plain_rule y)) (sym (inner e)) ∙ (both_hold (is_rule_ordered leads (plain_rule x)) (are_rules_ordered leads (plain_rules rs)) h).0
rule_ordered leads (x ∷ rs) h (suc p) r e = rule_ordered leads rs (both_hold (is_rule_ordered leads (plain_rule x)) (are_rules_ordered leads (plain_rules rs)) h).1 p r e

module _ (g : Grammar) (leads : PartPositions) (ok : are_rules_ordered leads (plain_rules g.rules.items) ≡ true) where
  rule_leads : (n p : ℕ) (r : Rule) → slice_get g.rules.items p ≡ Some r → r.part ≡ n → lead_so leads (leads n) r.body.items ≡ true
  rule_leads n p r e q = subst (λ m. lead_so leads (leads m) r.body.items ≡ true) q (both_hold (follow_signs false r.body.items) (lead_so leads (leads r.part) r.body.items) (rule_ordered leads g.rules.items ok p r e)).1

  rule_follows : (p : ℕ) (r : Rule) → slice_get g.rules.items p ≡ Some r → follow_signs false r.body.items ≡ true
  rule_follows p r e = (both_hold (follow_signs false r.body.items) (lead_so leads (leads r.part) r.body.items) (rule_ordered leads g.rules.items ok p r e)).0

  -- what is done leads to where the symbols do
  pub passes : {ss : List Symbol} {ts : List ℕ} {es : List Event} → Derives g ss ts es → (s : Option Standing) (x : Standing) → walked_all leads s ss ≡ Some x → passed_all s es ≡ Some x
  passes Finished s x h = h
  passes (Shifted _ d) s x h = passes d s x h
  passes (Acted {a} d) s x h = passes d (moved s a) x h
  passes (Expanded {n} {ss} p r e q d) s x h = passes d s x (expanded leads (leads n) r.body.items ss s x (rule_leads n p r e q) h)

  pub derives_follows : {ss : List Symbol} {ts : List ℕ} {es : List Event} → Derives g ss ts es → (fresh : Bool) → follow_signs fresh ss ≡ true → FollowTokens fresh es
  derives_follows Finished fresh h = tt
  derives_follows (Shifted _ d) fresh h = derives_follows d true h
  derives_follows (Acted {a} {ss} {es = es} d) fresh h = go (has_own_token a) h (λ e. derives_follows d false e)
    where
      go : (own : Bool) → (not own || fresh) && follow_signs false ss ≡ true → (follow_signs false ss ≡ true → FollowTokens false es) → MatchBool own ((fresh ≡ true) × FollowTokens false es) (FollowTokens false es)
      go true h again = let b = both_hold fresh (follow_signs false ss) h in (b.0, again b.1)
      go false h again = again h
  derives_follows (Expanded {n} {ss} p r e q d) fresh h = derives_follows d fresh (follow_append r.body.items ss fresh (follow_weaker fresh r.body.items (rule_follows p r e)) h)

-- ---- events in their places

-- where events lead somewhere, each has its place
pub nests_passed : (es : List Event) (here : Position) (around : List Position) (x : Standing) → passed_all (Some (record { here = here; around = around })) es ≡ Some x → Nests here around es
nests_passed [] here around x h = tt
nests_passed (Took ∷ es) here around x h = nests_passed es here around x h
nests_passed (Did a ∷ es) here around x h = go (move here a) around h (λ p ps e. nests_passed es p ps x e)
  where
    go : (m : Move) (ps : List Position) → passed_all (moved_by m ps) es ≡ Some x
        → ((p : Position) (ps : List Position) → passed_all (Some (record { here = p; around = ps })) es ≡ Some x → Nests p ps es) → NestsBy m ps (λ p more. Nests p more es)
    go (goes_to next) ps h again = again next ps h
    go (goes_in inside next) ps h again = again inside (next ∷ ps) h
    go goes_out [] h again = nothing (sym (passed_none es) ∙ h)
    go goes_out (next ∷ ps) h again = again next ps h
    go nowhere ps h again = nothing (sym (passed_none es) ∙ h)

-- where each has its place, they lead somewhere
pub passed_nests : (es : List Event) (here : Position) (around : List Position) → Nests here around es → (x : Standing) × (passed_all (Some (record { here = here; around = around })) es ≡ Some x)
passed_nests [] here around h = (record { here = here; around = around }, refl)
passed_nests (Took ∷ es) here around h = passed_nests es here around h
passed_nests (Did a ∷ es) here around h = go (move here a) around h (λ p ps e. passed_nests es p ps e)
  where
    go : (m : Move) (ps : List Position) → NestsBy m ps (λ p more. Nests p more es) → ((p : Position) (ps : List Position) → Nests p ps es → (x : Standing) × (passed_all (Some (record { here = p; around = ps })) es ≡ Some x))
        → (x : Standing) × (passed_all (moved_by m ps) es ≡ Some x)
    go (goes_to next) ps h again = again next ps h
    go (goes_in inside next) ps h again = again inside (next ∷ ps) h
    go goes_out [] h again = absurd h
    go goes_out (next ∷ ps) h again = again next ps h
    go nowhere ps h again = absurd h

-- The same of two lists, one behind the other: the second has its places where the first leads to.
pub nests_append : (a b : List Event) (here : Position) (around : List Position) → Nests here around (a ++ b)
    → (x : Standing) × (passed_all (Some (record { here = here; around = around })) a ≡ Some x) × Nests x.here x.around b
nests_append a b here around h = go (passed_all (Some (record { here = here; around = around })) a) refl
  where
    whole : (x : Standing) × (passed_all (Some (record { here = here; around = around })) (a ++ b) ≡ Some x)
    whole = passed_nests (a ++ b) here around h

    go : (o : Option Standing) → passed_all (Some (record { here = here; around = around })) a ≡ o → (x : Standing) × (passed_all (Some (record { here = here; around = around })) a ≡ Some x) × Nests x.here x.around b
    go None e = nothing (sym (passed_none b) ∙ (ap (λ o. passed_all o b) (sym e) ∙ (sym (passed_append (Some (record { here = here; around = around })) a b) ∙ whole.1)))
    go (Some x) e = (x, e, nests_passed b x.here x.around whole.0 (ap (λ o. passed_all o b) (sym e) ∙ (sym (passed_append (Some (record { here = here; around = around })) a b) ∙ whole.1)))

-- a front of what is in order is
pub nests_front : (a b : List Event) (here : Position) (around : List Position) → Nests here around (a ++ b) → Nests here around a
nests_front a b here around h = let n = nests_append a b here around h in nests_passed a here around n.0 n.1

pub follows_front : (a b : List Event) (fresh : Bool) → FollowTokens fresh (a ++ b) → FollowTokens fresh a
follows_front [] b fresh h = tt
follows_front (Took ∷ a) b fresh h = follows_front a b true h
follows_front (Did x ∷ a) b fresh h = go (has_own_token x) h (λ e. follows_front a b false e)
  where
    go : (own : Bool) → MatchBool own ((fresh ≡ true) × FollowTokens false (a ++ b)) (FollowTokens false (a ++ b)) → (FollowTokens false (a ++ b) → FollowTokens false a)
        → MatchBool own ((fresh ≡ true) × FollowTokens false a) (FollowTokens false a)
    go true h again = (h.0, again h.1)
    go false h again = again h

pub front_in_order : (a b : List Event) → IsInOrder (a ++ b) → IsInOrder a
front_in_order a b h = record { nests = nests_front a b at_root [] h.nests; follows = follows_front a b false h.follows }

-- ---- names of values and blocks

names_own : (a : Action) → names_value_or_block a ≡ true → has_own_token a ≡ true
names_own Result e = refl
names_own Argument e = refl
names_own Label e = refl
names_own Operand e = refl
names_own BeginSuccessor e = refl
names_own _ e = cc

own_later : (es : List Event) (fresh more : Bool) → (fresh ≡ true → more ≡ true) → FollowTokens fresh es → OwnTokens more es
own_later [] fresh more le h = tt
own_later (Took ∷ es) fresh more le h = own_later es true true (λ e. e) h
own_later (Did a ∷ es) fresh more le h = go (has_own_token a) (names_value_or_block a) (names_own a) h (λ next e. own_later es false next (λ w. let wrong : false ≡ true = w in cc) e)
  where
    go : (own names : Bool) → (names ≡ true → own ≡ true) → MatchBool own ((fresh ≡ true) × FollowTokens false es) (FollowTokens false es) → ((next : Bool) → FollowTokens false es → OwnTokens next es)
        → MatchBool names ((more ≡ true) × OwnTokens false es) (OwnTokens more es)
    go true true i h again = (le h.0, again false h.1)
    go true false i h again = again more h.1
    go false true i h again = let wrong = i refl in cc
    go false false i h again = again more h

-- each name of a value or a block has a token of its own
pub own_tokens : (es : List Event) → FollowTokens false es → OwnTokens false es
own_tokens es h = own_later es false false (λ e. e) h

-- ---- the texts of a grammar

pub orders_texts : (g : Grammar) (leads : PartPositions) → is_ordered leads (plain_rules g.rules.items) ≡ true → OrdersTexts g
orders_texts g leads ok ts es d =
    let both = both_hold (is_alone (led (leads 0) (Some (alone at_root))) at_end) (are_rules_ordered leads (plain_rules g.rules.items)) ok in
    let ends : passed_all (Some (alone at_root)) es ≡ Some (alone at_end) = passes g leads both.1 d (Some (alone at_root)) (alone at_end) (alone_there (led (leads 0) (Some (alone at_root))) at_end both.0) in
    (record { nests = nests_passed es at_root [] (alone at_end) ends; follows = derives_follows g leads both.1 d false refl }, ends)

-- ---- what reading gives

-- what is done at the first tokens is a front of all that is done
pub through_front : (all : List Event) (n : ℕ) → (more : List Event) × (all ≡ through all n ++ more)
through_front [] n = ([], refl)
through_front (Took ∷ es) zero = (Took ∷ es, refl)
through_front (Took ∷ es) (suc n) = let r = through_front es n in (r.0, ap (λ x. Took ∷ x) r.1)
through_front (Did a ∷ es) n = let r = through_front es n in (r.0, ap (λ x. Did a ∷ x) r.1)

pub reading_in_order : (g : Grammar) → OrdersTexts g → (many n : ℕ) (ts : List ℕ) (stop : Stop) (es : List Event) → Reads g 0 many ts stop n es → IsInOrder es
reading_in_order g ok many n ts Text es r = (ok (take n ts) es r.2).0
reading_in_order g ok many n ts Stuck es r =
    let s = r.1.some in
    let f = through_front s.1 (length (take n ts)) in
    front_in_order es (s.3.0 ++ f.0) (subst IsInOrder (f.1 ∙ (ap (λ x. x ++ f.0) s.3.1 ∙ append_assoc es s.3.0 f.0)) (ok (take n ts ++ s.0) s.1 s.2).0)
reading_in_order g ok many n ts Deep es r =
    let v = r.viable in
    let f = r.each v.0 v.1.0 v.1.1 in
    front_in_order es f.0 (subst IsInOrder f.1 (ok (take n ts ++ v.0) v.1.0 v.1.1).0)

pub text_ends : (g : Grammar) → OrdersTexts g → (many n : ℕ) (ts : List ℕ) (es : List Event) → Reads g 0 many ts Text n es → LeadsToPosition at_root es at_end
text_ends g ok many n ts es r = (ok (take n ts) es r.2).1
