-- In the rules of formats each action that keeps a name or names a value or a block comes straight behind the sign of names.
use Rattle.std.proofs.Common.{◌≡◌, ℕ, zero, suc, ◌==◌, List, [], ◌∷◌, ◌++◌, Some, Bool, true, false, slice_get, refl, subst}
use Rattle.std.specs.Bool.{MatchBool}
use Rattle.ir_print.specs.Formats.{Formats, Kind, Step, Steps, word, operands, operand, successor, a_value, a_region, symbol_name, a_leaf, list_of, choice_of, no_steps, step, Choices, no_choice, a_choice}
use Rattle.ir_grammar.specs.declared.grammar.Action.{Action}
use Rattle.ir_grammar.specs.declared.grammar.Action.TheVariants as act
use Rattle.ir_grammar.specs.declared.grammar.Symbol.{Symbol}
use Rattle.ir_grammar.specs.declared.grammar.Symbol.TheVariants.{Sign, Part, Act}
use Rattle.ir_grammar.specs.declared.grammar.Rule.{Rule}
use Rattle.ir_formats.specs.declared.rules.Sort.{Sort}
use Rattle.ir_formats.specs.declared.rules.Sort.TheVariants as sort
use Rattle.ir_print.specs.declared.format.LeafSort.TheVariants as leaves
use Rattle.ir_print.specs.declared.format.ValueSort.TheVariants as sorts
use Rattle.ir_formats.specs.Rules.{PlainRule, MadeOfSteps, up, sign, number_of, several, step_made, steps_made, choices_made, part_of, begin_of, end_of, kinds_made, words_of, operation_rules, region_rules, block_rules, argument_rules, rules_of, plain_rules}

-- ---- the test

-- the action keeps a name, or names a value or a block
abbrev pub keeps_name : Action → Bool
keeps_name (act.Leaf leaves.Name) = true
keeps_name act.Label = true
keeps_name act.Result = true
keeps_name act.Argument = true
keeps_name act.Operand = true
keeps_name act.BeginSuccessor = true
keeps_name _ = false

-- Each such action comes straight behind the sign of names. At first that sign may stand before.
abbrev pub BehindNames : Bool → List Symbol → Type 0
BehindNames fresh [] = Unit {0}
BehindNames fresh (Sign s ∷ ss) = BehindNames (s == 0) ss
BehindNames fresh (Part n ∷ ss) = BehindNames false ss
BehindNames fresh (Act a ∷ ss) = MatchBool (keeps_name a) ((fresh ≡ true) × BehindNames false ss) (BehindNames false ss)

-- the bodies of rules are so
abbrev pub AreBehindNames : List PlainRule → Type 0
AreBehindNames [] = Unit {0}
AreBehindNames (r ∷ rs) = BehindNames false r.1 × AreBehindNames rs

-- and so is what is made of a format
abbrev MadeBehindNames : MadeOfSteps → Type 0
MadeBehindNames m = BehindNames false m.symbols × AreBehindNames m.rules

pub behind_weaker : (fresh : Bool) (ss : List Symbol) → BehindNames false ss → BehindNames fresh ss
behind_weaker fresh [] h = tt
behind_weaker fresh (Sign s ∷ ss) h = h
behind_weaker fresh (Part n ∷ ss) h = h
behind_weaker fresh (Act a ∷ ss) h = go (keeps_name a) h
  where
    go : (b : Bool) → MatchBool b ((false ≡ true) × BehindNames false ss) (BehindNames false ss) → MatchBool b ((fresh ≡ true) × BehindNames false ss) (BehindNames false ss)
    go true h = let wrong : false ≡ true = h.0 in cc
    go false h = h

pub behind_append : (fresh : Bool) (a b : List Symbol) → BehindNames fresh a → BehindNames false b → BehindNames fresh (a ++ b)
behind_append fresh [] b h more = behind_weaker fresh b more
behind_append fresh (Sign s ∷ a) b h more = behind_append (s == 0) a b h more
behind_append fresh (Part n ∷ a) b h more = behind_append false a b h more
behind_append fresh (Act x ∷ a) b h more = go (keeps_name x) h (λ e. behind_append false a b e more)
  where
    go : (k : Bool) → MatchBool k ((fresh ≡ true) × BehindNames false a) (BehindNames false a) → (BehindNames false a → BehindNames false (a ++ b))
        → MatchBool k ((fresh ≡ true) × BehindNames false (a ++ b)) (BehindNames false (a ++ b))
    go true h again = (h.0, again h.1)
    go false h again = again h

rules_append : (a b : List PlainRule) → AreBehindNames a → AreBehindNames b → AreBehindNames (a ++ b)
rules_append [] b h more = more
rules_append (r ∷ a) b h more = (h.0, rules_append a b h.1 more)

-- ---- the rules of formats

several_behind : (n s : ℕ) (member : List Symbol) → BehindNames false member → AreBehindNames (several n (Sign s) member)
several_behind n s member h =
    let more : BehindNames false (member ++ Part (up n 1) ∷ []) = behind_append false member (Part (up n 1) ∷ []) h tt in
    (tt, (more, (tt, (behind_weaker (s == 0) (member ++ Part (up n 1) ∷ []) more, tt))))

module _ (ws : List (List ℕ)) where
  mutual
    step_behind : (s : Step) (n : ℕ) → MadeBehindNames (step_made ws s n)
    step_behind (word printed w) n = (tt, tt)
    step_behind operands n = (tt, (tt, ((refl, tt), (tt, ((refl, tt), tt)))))
    step_behind operand n = ((refl, tt), tt)
    step_behind successor n = ((refl, tt), (tt, ((refl, tt), (tt, ((refl, tt), tt)))))
    step_behind (a_value sort) n = (tt, tt)
    step_behind a_region n = (tt, tt)
    step_behind symbol_name n = ((refl, tt), tt)
    step_behind (a_leaf leaves.Name) n = ((refl, tt), tt)
    step_behind (a_leaf leaves.Number) n = (tt, tt)
    step_behind (a_leaf leaves.Digits) n = (tt, tt)
    step_behind (a_leaf leaves.Width) n = (tt, tt)
    step_behind (a_leaf leaves.Text) n = (tt, tt)
    step_behind (a_leaf leaves.Mark) n = (tt, tt)
    step_behind (choice_of cs) n = (tt, choices_behind n 0 cs (up n 1))
    step_behind (list_of member printed separator) n =
        let m = steps_made ws member (up n 2) in
        let inside = steps_behind member (up n 2) in
        (tt, rules_append m.rules _ inside.1 (several_behind n (up (number_of ws separator) 6) (Act act.BeginItem ∷ (m.symbols ++ Act act.EndItem ∷ [])) (behind_append false m.symbols (Act act.EndItem ∷ []) inside.0 tt)))

    steps_behind : (ss : Steps) (n : ℕ) → MadeBehindNames (steps_made ws ss n)
    steps_behind no_steps n = (tt, tt)
    steps_behind (step s ss) n =
        let a = step_made ws s n in
        let b = steps_made ws ss a.next in
        let here = step_behind s n in
        let rest = steps_behind ss a.next in
        (behind_append false a.symbols b.symbols here.0 rest.0, rules_append a.rules b.rules here.1 rest.1)

    choices_behind : (c i : ℕ) (cs : Choices) (n : ℕ) → AreBehindNames (choices_made ws c i cs n).rules
    choices_behind c i no_choice n = tt
    choices_behind c i (a_choice ss cs) n =
        let m = steps_made ws ss n in
        let inside = steps_behind ss n in
        rules_append (m.rules ++ (c, Act (act.BeginChoice i) ∷ (m.symbols ++ Act act.EndChoice ∷ [])) ∷ []) _
        (rules_append m.rules _ inside.1 (behind_append false m.symbols (Act act.EndChoice ∷ []) inside.0 tt, tt))
        (choices_behind c (suc i) cs m.next)

  -- what stands between two actions of a sort
  body_behind : (s : Sort) (i : ℕ) (fresh : Bool) (ss : List Symbol) → BehindNames false ss → BehindNames fresh (Act (begin_of s i) ∷ (ss ++ Act (end_of s) ∷ []))
  body_behind sort.Operation i fresh ss h = behind_append false ss (Act act.EndOperation ∷ []) h tt
  body_behind sort.«Type» i fresh ss h = behind_append false ss (Act (act.End sorts.«Type») ∷ []) h tt
  body_behind sort.Attribute i fresh ss h = behind_append false ss (Act (act.End sorts.Attribute) ∷ []) h tt

  kinds_behind : (s : Sort) (i : ℕ) (ks : List Kind) (n : ℕ) → AreBehindNames (kinds_made ws s i ks n).rules
  kinds_behind s i [] n = tt
  kinds_behind s i (k ∷ ks) n =
      let m = steps_made ws k.format n in
      let inside = steps_behind k.format n in
      rules_append (m.rules ++ (part_of s, sign ws k.id ∷ Act (begin_of s i) ∷ (m.symbols ++ Act (end_of s) ∷ [])) ∷ []) _
      (rules_append m.rules _ inside.1 (body_behind s i (up (number_of ws k.id) 6 == 0) m.symbols inside.0, tt))
      (kinds_behind s (suc i) ks m.next)

-- all rules of a dialect's grammar are so
pub rules_behind : (f : Formats) → AreBehindNames (rules_of f)
rules_behind f =
    let ws = words_of f in
    let a = kinds_made ws sort.Operation 0 f.operations 14 in
    let b = kinds_made ws sort.«Type» 0 f.types a.next in
    let c = kinds_made ws sort.Attribute 0 f.attributes b.next in
    let of_kinds = a.rules ++ (b.rules ++ c.rules) in
    let of_arguments = argument_rules ws ++ of_kinds in
    let of_blocks = block_rules ws ++ of_arguments in
    rules_append (operation_rules ws) (region_rules ws ++ of_blocks) (tt, (tt, ((refl, tt), (tt, ((refl, tt), tt)))))
    (rules_append (region_rules ws) of_blocks (tt, (tt, (tt, (tt, (tt, (tt, (tt, tt)))))))
    (rules_append (block_rules ws) of_arguments ((refl, tt), tt)
    (rules_append (argument_rules ws) of_kinds ((refl, tt), (tt, (tt, (tt, (tt, tt)))))
    (rules_append a.rules (b.rules ++ c.rules) (kinds_behind ws sort.Operation 0 f.operations 14)
    (rules_append b.rules c.rules (kinds_behind ws sort.«Type» 0 f.types a.next) (kinds_behind ws sort.Attribute 0 f.attributes b.next))))))

inner : {A : Type 0} {x y : A} → Some x ≡ Some y → x ≡ y
inner e = cc

-- and so is the body of each
pub rule_behind : (rs : List Rule) → AreBehindNames (plain_rules rs) → (p : ℕ) (r : Rule) → slice_get rs p ≡ Some r → BehindNames false r.body.items
rule_behind [] h p r e = cc
rule_behind (x ∷ rs) h zero r e = subst (λ (y : Rule). BehindNames false y.body.items) (inner e) h.0
rule_behind (x ∷ rs) h (suc p) r e = rule_behind rs h.1 p r e
