-- The table of a predictive reader, and when it fits a grammar.
use Rattle.std.specs.Prelude.{◌≡◌, ℕ, suc, ◌+◌, ◌<◌, List, [], ◌∷◌, Option, Some, None, Bool, true, false, cond, ◌⊎◌, is_none, slice_get, slice_index_or}
use Rattle.ir_grammar.specs.declared.grammar.Symbol.{Symbol}
use Rattle.ir_grammar.specs.declared.grammar.Symbol.TheVariants.{Sign, Part, Act}
use Rattle.ir_grammar.specs.declared.grammar.Rule.{Rule}
use Rattle.ir_grammar.specs.declared.grammar.Facts.{Facts}
use Rattle.ir_grammar.specs.declared.grammar.Grammar.{Grammar}
use Rattle.ir_grammar.specs.Grammar.{accepts}
use Rattle.ir_grammar.specs.Reading.{begins_member}
use Rattle.ir_grammar.specs.declared.check.Target.{Target}
use Rattle.ir_grammar.specs.declared.check.Target.TheVariants.{ToPick, Before}

-- the column of the next token: 0 at the end
abbrev pub column_of : List ℕ → ℕ
column_of [] = 0
column_of (k ∷ ts) = suc k

-- the rule that these facts have for a column
abbrev pub chosen : Option Facts → ℕ → Option ℕ
chosen None c = None
chosen (Some f) c = slice_index_or f.choices.items c None

-- the rule that the table has for a part at a column
abbrev pub pick : Grammar → ℕ → ℕ → Option ℕ
pick g n c = chosen (slice_get g.parts.items n) c

-- by these facts, their part may stand before this column
abbrev pub may_follow : Option Facts → ℕ → Bool
may_follow None c = false
may_follow (Some f) c = slice_index_or f.follows.items c false

-- the part may stand before this column
abbrev pub MayFollowPart : Grammar → ℕ → ℕ → Type 0
MayFollowPart g n c = may_follow (slice_get g.parts.items n) c ≡ true

-- the rule of these facts to take where no token goes on with their part
abbrev pub closing_of : Option Facts → Option ℕ
closing_of None = None
closing_of (Some f) = f.closing

-- these facts have no closing rule: each text of their part has a token
abbrev pub is_solid : Option Facts → Bool
is_solid None = false
is_solid (Some f) = is_none f.closing

-- what these facts say that their part adds to a height
abbrev pub cost_of : Option Facts → ℕ
cost_of None = 0
cost_of (Some f) = f.cost

-- by the table, what the symbols stand for may begin at this column
abbrev pub Opens : Grammar → List Symbol → ℕ → Type 0
Opens g [] c = c ≡ 0
Opens g (Sign s ∷ ss) c = (k : ℕ) × (c ≡ suc k) × (accepts g s k ≡ true)
Opens g (Act a ∷ ss) c = Opens g ss c
Opens g (Part n ∷ ss) c = (p : ℕ) × (pick g n c ≡ Some p)

-- The same of the rest of a rule for part n, behind which stands what may come after n.
abbrev pub OpensIn : Grammar → ℕ → List Symbol → ℕ → Type 0
OpensIn g n [] c = MayFollowPart g n c
OpensIn g n (Sign s ∷ ss) c = (k : ℕ) × (c ≡ suc k) × (accepts g s k ≡ true)
OpensIn g n (Act a ∷ ss) c = OpensIn g n ss c
OpensIn g n (Part m ∷ ss) c = (p : ℕ) × (pick g m c ≡ Some p)

-- The symbols go on at this column: their first token stands there, and nothing is done before it but that members begin.
abbrev pub BeginsAtColumn : Grammar → List Symbol → ℕ → Type 0
BeginsAtColumn g [] c = ⊥
BeginsAtColumn g (Sign s ∷ ss) c = (k : ℕ) × (c ≡ suc k) × (accepts g s k ≡ true)
BeginsAtColumn g (Act a ∷ ss) c = (begins_member a ≡ true) × BeginsAtColumn g ss c
BeginsAtColumn g (Part n ∷ ss) c = (p : ℕ) × (pick g n c ≡ Some p) × (closing_of (slice_get g.parts.items n) ≡ Some p → ⊥)

-- each part may stand before what comes after it
abbrev pub IsFine : Grammar → List Symbol → Type 0
IsFine g [] = Unit {0}
IsFine g (Sign k ∷ ss) = IsFine g ss
IsFine g (Act a ∷ ss) = IsFine g ss
IsFine g (Part n ∷ ss) = ((c : ℕ) → Opens g ss c → MayFollowPart g n c) × IsFine g ss

-- The same of the rest of a rule for part n, behind which stands what may come after n.
abbrev pub IsFineIn : Grammar → ℕ → List Symbol → Type 0
IsFineIn g n [] = Unit {0}
IsFineIn g n (Sign k ∷ ss) = IsFineIn g n ss
IsFineIn g n (Act a ∷ ss) = IsFineIn g n ss
IsFineIn g n (Part m ∷ ss) = ((c : ℕ) → OpensIn g n ss c → MayFollowPart g m c) × IsFineIn g n ss

-- some symbol has a token in each of its texts
abbrev pub has_solid : Grammar → List Symbol → Bool
has_solid g [] = false
has_solid g (Sign k ∷ ss) = true
has_solid g (Act a ∷ ss) = has_solid g ss
has_solid g (Part n ∷ ss) = cond (is_solid (slice_get g.parts.items n)) true (has_solid g ss)

-- at least the number of rules and actions that are taken before the next token is
abbrev pub height : Grammar → List Symbol → ℕ
height g [] = 0
height g (Sign k ∷ ss) = 0
height g (Act a ∷ ss) = suc (height g ss)
height g (Part n ∷ ss) = cost_of (slice_get g.parts.items n) + cond (is_solid (slice_get g.parts.items n)) 0 (height g ss)

-- each sign has a kind of token, and each part has facts
abbrev pub AreKnownSymbols : Grammar → List Symbol → Type 0
AreKnownSymbols g [] = Unit {0}
AreKnownSymbols g (Sign s ∷ ss) = ((k : ℕ) × (accepts g s k ≡ true)) × AreKnownSymbols g ss
AreKnownSymbols g (Act a ∷ ss) = AreKnownSymbols g ss
AreKnownSymbols g (Part n ∷ ss) = ((f : Facts) × (slice_get g.parts.items n ≡ Some f)) × AreKnownSymbols g ss

-- each sign has a kind of token, and each part has facts with a rank below k
abbrev pub RanksAreBelow : Grammar → ℕ → List Symbol → Type 0
RanksAreBelow g k [] = Unit {0}
RanksAreBelow g k (Sign s ∷ ss) = ((j : ℕ) × (accepts g s j ≡ true)) × RanksAreBelow g k ss
RanksAreBelow g k (Act a ∷ ss) = RanksAreBelow g k ss
RanksAreBelow g k (Part n ∷ ss) = ((f : Facts) × (slice_get g.parts.items n ≡ Some f) × (f.rank < k)) × RanksAreBelow g k ss

-- The table fits a rule: it picks the rule at each column where its body opens, it knows what its parts may stand before,
-- and its part counts for more than its body.
pub record FitsRule (g : Grammar) (p : ℕ) (r : Rule) : Type 0 where
  pub picks : (c : ℕ) → OpensIn g r.part r.body.items c → pick g r.part c ≡ Some p
  pub fine : IsFineIn g r.part r.body.items
  pub known : AreKnownSymbols g r.body.items
  pub solid : is_solid (slice_get g.parts.items r.part) ≡ true → has_solid g r.body.items ≡ true
  pub lower : height g r.body.items < cost_of (slice_get g.parts.items r.part)

-- the facts of a part lead to a text of it
abbrev pub HasShortest : Grammar → ℕ → Facts → Type 0
HasShortest g n f = (r : Rule) × (slice_get g.rules.items f.shortest ≡ Some r) × (r.part ≡ n) × RanksAreBelow g f.rank r.body.items

-- a rule of this part
abbrev pub IsRuleOf : Grammar → ℕ → ℕ → Type 0
IsRuleOf g n p = (r : Rule) × (slice_get g.rules.items p ≡ Some r) × (r.part ≡ n)

-- A rule of this part to take at a column: the closing one, or one that goes on there.
abbrev pub IsChoice : Grammar → ℕ → ℕ → ℕ → Type 0
IsChoice g n c p = (r : Rule) × (slice_get g.rules.items p ≡ Some r) × (r.part ≡ n)
    × ((closing_of (slice_get g.parts.items n) ≡ Some p) ⊎ BeginsAtColumn g r.body.items c)

-- The next token decides each step: the table fits each rule, it picks and closes parts by rules of theirs alone, and each
-- part has a text.
pub record IsPredictive (g : Grammar) : Type 0 where
  pub rules : (p : ℕ) (r : Rule) → slice_get g.rules.items p ≡ Some r → FitsRule g p r
  pub picked : (n c p : ℕ) → pick g n c ≡ Some p → IsChoice g n c p
  pub closed : (n p : ℕ) → closing_of (slice_get g.parts.items n) ≡ Some p → IsRuleOf g n p
  pub shortest : (n : ℕ) (f : Facts) → slice_get g.parts.items n ≡ Some f → HasShortest g n f

-- what a column has to do
abbrev pub Passes : Grammar → Target → ℕ → Type 0
Passes g (ToPick n p) c = pick g n c ≡ Some p
Passes g (Before n) c = MayFollowPart g n c

-- texts of this part can be read
pub record CanRead (g : Grammar) (root : ℕ) : Type 0 where
  pub predictive : IsPredictive g
  pub known : AreKnownSymbols g (Part root ∷ [])
  pub ends : MayFollowPart g root 0
