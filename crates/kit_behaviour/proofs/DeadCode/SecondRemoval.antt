-- A second removal of dead values changes nothing.
use Rattle.std.proofs.Common.{◌≡◌, ℕ, Bool, true, false, List, [], ◌∷◌, Option, Some, None, refl, sym, ap, ◌∙◌, subst}
use Rattle.std.specs.Prelude.{map, if◌then◌else◌}
use Rattle.kit_behaviour.specs.Machine.{Edge, Op, Const, Calc, Emit, Call, Branch, Return, Block, Fun, FunctionsByPath, arguments_in}
use Rattle.kit_behaviour.specs.RemovedValues.{may_trap, goes, live, pick, thin_edge, thin_op, thin_ops, thin_block, thin}
use Rattle.kit_behaviour.specs.Rules.{Rules}
use Rattle.kit_behaviour.specs.DeadValues.{NoneDead, IsDeadSet, IsDceOfFunctions}
use Rattle.kit_behaviour.specs.Numbering.{place_fun}
use Rattle.kit_behaviour.specs.Places.{Place, same_place}
use Rattle.kit_behaviour.proofs.Numbering.PlaceEquality.{place_law}
use Rattle.kit_behaviour.proofs.Numbering.NumberingStays.{numbering_stays}
use Rattle.kit_behaviour.proofs.DeadCode.DeadMayGo.{dead_may_go}
use Rattle.kit_behaviour.proofs.DeadCode.RemovalRules.{thin_rules}
use Rattle.kit_behaviour.proofs.DeadCode.NoneDeadByPlace.{dce_none}

never : (b : Bool) → (if b then false else false) ≡ false
never true = refl
never false = refl

module _ {V : Type 0} where
  abbrev none : V → Bool
  none v = false

  live_none : (vs : List V) → live none vs ≡ vs
  live_none [] = refl
  live_none (v ∷ vs) = ap (λ l. v ∷ l) (live_none vs)

  pick_none : (ts gs : List V) → pick none ts gs ≡ gs
  pick_none [] gs = refl
  pick_none (t ∷ ts) [] = refl
  pick_none (t ∷ ts) (g ∷ gs) = ap (λ l. g ∷ l) (pick_none ts gs)

  none_goes : (op : Op V) → goes none op ≡ false
  none_goes (Const r n) = refl
  none_goes (Calc a w r x y) = never (may_trap a)
  none_goes (Emit x) = refl
  none_goes (Call rs c xs) = refl
  none_goes (Branch s xs e es) = refl
  none_goes (Return xs) = refl

  module _ (f : Option (Fun V)) where
    edge_none : (e : Edge V) → thin_edge f none e ≡ e
    edge_none e = ap (λ l. record { target = e.target; forwards = l }) (pick_none (arguments_in f e.target) e.forwards)

    edges_none : (es : List (Edge V)) → map (thin_edge f none) es ≡ es
    edges_none [] = refl
    edges_none (e ∷ es) = ap (λ y. y ∷ map (thin_edge f none) es) (edge_none e) ∙ ap (λ l. e ∷ l) (edges_none es)

    op_none : (op : Op V) → thin_op f none op ≡ op
    op_none (Const r n) = refl
    op_none (Calc a w r x y) = refl
    op_none (Emit x) = refl
    op_none (Call rs c xs) = refl
    op_none (Branch s xs e es) = ap (λ y. Branch s xs y (map (thin_edge f none) es)) (edge_none e) ∙ ap (Branch s xs e) (edges_none es)
    op_none (Return xs) = refl

    ops_none : (ops : List (Op V)) → thin_ops f none ops ≡ ops
    ops_none [] = refl
    ops_none (op ∷ ops) =
        ap (λ b. if b then thin_ops f none ops else thin_op f none op ∷ thin_ops f none ops) (none_goes op)
        ∙ ap (λ y. y ∷ thin_ops f none ops) (op_none op)
        ∙ ap (λ l. op ∷ l) (ops_none ops)

    blocks_none : (ks : List (Block V)) → map (thin_block f none) ks ≡ ks
    blocks_none [] = refl
    blocks_none (k ∷ ks) =
        ap (λ l. record { arguments = l; ops = thin_ops f none k.ops } ∷ map (thin_block f none) ks) (live_none k.arguments)
        ∙ ap (λ l. record { arguments = k.arguments; ops = l } ∷ map (thin_block f none) ks) (ops_none k.ops)
        ∙ ap (λ l. k ∷ l) (blocks_none ks)

  thin_none : (f : Option (Fun V)) → thin none f ≡ f
  thin_none None = refl
  thin_none (Some f) = ap Some (blocks_none (Some f) f)

-- where nothing is dead, the set of dead values is empty
none_set : (f : Option (Fun Place)) (d : Place → Bool) → NoneDead f → IsDeadSet same_place f d → d ≡ (λ v. false)
none_set f d n is = λ i v. false_is (d v) (λ t. is.least (λ v. false) n v t) i
  where
    false_is : (c : Bool) → (c ≡ true → false ≡ true) → c ≡ false
    false_is true h = sym (h refl)
    false_is false h = refl

pub dce_settles : (p q r : FunctionsByPath Place) → ((path : List ℕ) → Rules (p path)) → IsDceOfFunctions p q → IsDceOfFunctions q r → r ≡ q
dce_settles p q r rules a b = λ i path. at_path path i
  where
    at_path : (path : List ℕ) → r path ≡ q path
    at_path path =
        let kept = subst Rules (sym (a.is path)) (thin_rules (p path) (a.set path) (dead_may_go same_place place_law (p path) (a.set path) (a.dead path)) (rules path)) in
        let e = none_set (q path) (b.set path) (dce_none p q rules a path) (b.dead path) in
        b.is path ∙ ap (λ d. place_fun same_place (thin d (q path))) e ∙ ap (place_fun same_place) (thin_none (q path)) ∙ numbering_stays (q path) kept
