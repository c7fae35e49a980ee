-- Values that get constants, by the blocks and operations of a flat function.
use Rattle.std.proofs.Common.{◌≡◌, ◌⊎◌, ⊎_elim, inl, inr, ℕ, true, List, [], ◌∷◌, Option, Some, None, refl, sym}
use Rattle.std.proofs.Common.{subst}
use Rattle.std.specs.Prelude.{slice_get, ◌↔◌}
use Rattle.opt_trees.specs.Occurrences.{Has}
use Rattle.kit_behaviour.specs.Facts.{FunctionFacts, Known}
use Rattle.kit_behaviour.specs.Machine.{Op, Const, Calc, Emit, Call, Branch, Return, Block, Fun, ops_left, arguments_of}
use Rattle.kit_behaviour.specs.NamedPasses.{calc_defs, GetsConstant}
use Rattle.kit_behaviour.specs.Scopes.{In}

-- the result of arithmetic or of a comparison
abbrev pub IsCalculated : {V : Type 0} → V → Op V → Type 0
IsCalculated v (Calc a w r x y) = v ≡ r
IsCalculated v (Const r n) = ⊥
IsCalculated v (Emit x) = ⊥
IsCalculated v (Call rs c xs) = ⊥
IsCalculated v (Branch s xs e es) = ⊥
IsCalculated v (Return xs) = ⊥

-- the value is an argument of the block, or the result of an operation of arithmetic or a comparison that stands there
abbrev pub IsMadeIn : {V : Type 0} → V → Block V → Type 0
IsMadeIn {V} v k = Has v k.arguments ⊎ ((p : Op V) × Has p k.ops × IsCalculated v p)

-- facts know the value to be this number, and it is made so in a block that they know to run
pub record GetsIn {V : Type 0} (f : Fun V) (k : FunctionFacts V) (v : V) (n : ℕ) : Type 0 where
  pub known : k.of v ≡ Known n
  pub b : ℕ
  pub runs : k.runs b ≡ true
  pub block : Block V
  pub stands : slice_get f b ≡ Some block
  pub place : IsMadeIn v block

pub has_to_in : {X : Type 0} (x : X) (xs : List X) → Has x xs → In x xs
has_to_in x [] h = h
has_to_in x (y ∷ xs) h = ⊎_elim (λ e. inl e) (λ k. inr (has_to_in x xs k)) h

pub in_to_has : {X : Type 0} (x : X) (xs : List X) → In x xs → Has x xs
in_to_has x [] h = h
in_to_has x (y ∷ xs) h = ⊎_elim (λ e. inl e) (λ k. inr (in_to_has x xs k)) h

defs_there : {V : Type 0} (v : V) (ops : List (Op V)) (p : Op V) → Has p ops → IsCalculated v p → In v (calc_defs ops)
defs_there v [] p h c = absurd h
defs_there v (op ∷ ops) p h c = ⊎_elim (λ e. first op (subst (IsCalculated v) e c)) (λ k. later op
    (defs_there v ops p k c)) h
  where
    later : (op : Op _) → In v (calc_defs ops) → In v (calc_defs (op ∷ ops))
    later (Calc a w r x y) i = inr i
    later (Const r n) i = i
    later (Emit x) i = i
    later (Call rs d xs) i = i
    later (Branch s xs e es) i = i
    later (Return xs) i = i

    first : (op : Op _) → IsCalculated v op → In v (calc_defs (op ∷ ops))
    first (Calc a w r x y) q = inl q
    first (Const r n) q = absurd q
    first (Emit x) q = absurd q
    first (Call rs d xs) q = absurd q
    first (Branch s xs e es) q = absurd q
    first (Return xs) q = absurd q

defs_back : {V : Type 0} (v : V) (ops : List (Op V)) → In v (calc_defs ops) → (p : Op V) × Has p ops × IsCalculated v p
defs_back v [] i = absurd i
defs_back v (Calc a w r x y ∷ ops) i =
    ⊎_elim (λ e. (Calc a w r x y, inl refl, e)) (λ k. let m = defs_back v ops k in (m.0, inr m.1, m.2)) i
defs_back v (Const r n ∷ ops) i = let m = defs_back v ops i in (m.0, inr m.1, m.2)
defs_back v (Emit x ∷ ops) i = let m = defs_back v ops i in (m.0, inr m.1, m.2)
defs_back v (Call rs d xs ∷ ops) i = let m = defs_back v ops i in (m.0, inr m.1, m.2)
defs_back v (Branch s xs e es ∷ ops) i = let m = defs_back v ops i in (m.0, inr m.1, m.2)
defs_back v (Return xs ∷ ops) i = let m = defs_back v ops i in (m.0, inr m.1, m.2)

module _ {V : Type 0} (f : Fun V) (k : FunctionFacts V) (v : V) (n : ℕ) where
  gets_there : GetsIn f k v n → GetsConstant (Some f) k v n
  gets_there g = record {
    known = g.known;
    block = g.b;
    runs = g.runs;
    place = ⊎_elim
        (λ h. inl (subst (λ o. In v (arguments_of o)) (sym g.stands) (has_to_in v g.block.arguments h)))
        (λ (h : (p : Op V) × Has p g.block.ops × IsCalculated v p).
        inr (subst (λ o. In v (calc_defs (ops_left o 0))) (sym g.stands) (defs_there v g.block.ops h.0 h.1 h.2)))
        g.place;
  }

  gets_back : GetsConstant (Some f) k v n → GetsIn f k v n
  gets_back g = by_block (slice_get f g.block) refl g.place
    where
      by_block : (o : Option (Block V)) → slice_get f g.block ≡ o →
          In v (arguments_of o) ⊎ In v (calc_defs (ops_left o 0)) → GetsIn f k v n
      by_block None e h = ⊎_elim (λ i. absurd i) (λ i. absurd i) h
      by_block (Some c) e h = record {
        known = g.known;
        b = g.block;
        runs = g.runs;
        block = c;
        stands = e;
        place = ⊎_elim (λ i. inl (in_to_has v c.arguments i)) (λ i. inr (defs_back v c.ops i)) h;
      }

  -- both say the same
  pub gets_both : GetsIn f k v n ↔ GetsConstant (Some f) k v n
  gets_both = (gets_there, gets_back)
