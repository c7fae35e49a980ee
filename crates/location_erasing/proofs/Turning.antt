-- A walk that erases goes by the turns of the program as it was.
use Rattle.std.proofs.Common.{◌≡◌, inl, inr, ⊎_elim, List, [], ◌∷◌, ◌++◌, Option, Some, None, refl, sym, ap, ◌∙◌, subst, arith}
use Rattle.std.specs.Prelude.{Contains}
use Rattle.std.proofs.lemmas.List.Elements.{Contains-append_left, Contains-push, Contains-push_cases}
use Rattle.ir_program.specs.Lists.{StandsInside, IsLiveNode}
use Rattle.ir_program.specs.Preorder.{nodes_in}
use Rattle.ir_program.specs.Program.{Program}
use Rattle.ir_program.specs.declared.handles.IRNode.{IRNode}
use Rattle.ir_program.specs.declared.handles.IRNode.TheVariants.{Operation as OperationNode, Region as RegionNode, BasicBlock as BlockNode}
use Rattle.ir_walks.specs.Calls.{Steps, none, one_more}
use Rattle.ir_walks.specs.Levels.{level_of, directed, members, preset}
use Rattle.ir_walks.specs.Places.{IsWalkOf}
use Rattle.ir_walks.specs.Turns.{called_at, node_of, to_first, to_end, all_done, to_next, to_holder, IsTurn, enters, passes, exits}
use Rattle.ir_walks.specs.Walks.{Call}
use Rattle.ir_walks.specs.declared.config.WalkConfig.{WalkConfig}
use Rattle.ir_walks.specs.declared.results.WalkContinue.{WalkContinue}
use Rattle.ir_walks.specs.declared.results.WalkContinue.TheVariants.{Advance, Skip}
use Rattle.ir_walks.specs.declared.turns.Cursor.{Cursor}
use Rattle.ir_walks.specs.declared.turns.Cursor.TheVariants.{Arriving, Leaving}
use Rattle.ir_walks.specs.declared.config.Direction.TheVariants.{Forward}
use Rattle.ir_walks.specs.declared.config.Order.TheVariants.{PreOrder}
use Rattle.ir_walks.proofs.Measure.{Told, same_node}
use Rattle.ir_walks.proofs.Walked.{Made}
use Rattle.location_erasing.specs.Chosen.{EditsChosen, EditsOnArriving}
use Rattle.location_erasing.proofs.ChosenLemmas.{nodes_kept, node_live, stays_inside, none_edited, one_edit, other_words}

-- a turn in one of two programs is one in the other, where the same stands in each node
pub turn_back : {O B : Type 0} (old new : Program O B) (config : WalkConfig) (x : IRNode) → ((e : IRNode) → nodes_in new e ≡ nodes_in old e) → (at : Cursor) (a : WalkContinue) (next : Option Cursor) → IsTurn new config x at a next → IsTurn old config x at a next
turn_back {O} {B} old new config x same = back where
  members_same : (e : IRNode) → members old config e ≡ members new config e
  members_same e = ap (directed (level_of config e).direction) (sym (same e))

  back : (at : Cursor) (a : WalkContinue) (next : Option Cursor) → IsTurn new config x at a next → IsTurn old config x at a next
  back _ _ _ (enters e _ (to_first k ks h)) = enters e (Arriving k) (to_first k ks (members_same e ∙ h))
  back _ _ _ (enters e _ (to_end h)) = enters e (Leaving e) (to_end (members_same e ∙ h))
  back _ _ _ (passes e) = passes e
  back _ _ _ (exits e a _ (all_done s)) = exits e a None (all_done s)
  back _ _ _ (exits e a _ (to_next d k before after ne h)) = exits e a (Some (Arriving k)) (to_next d k before after ne (members_same d ∙ h))
  back _ _ _ (exits e a _ (to_holder d before ne h)) = exits e a (Some (Leaving d)) (to_holder d before ne (members_same d ∙ h))

-- the node is among those that were called
abbrev pub IsAmong : List Call → IRNode → Type 0
IsAmong calls e = (a : WalkContinue) × Contains calls (e, a)

none_among : (e : IRNode) → IsAmong [] e → ⊥
none_among e h = let k = h.1 in absurd (omega (arith, k.1))

push_told : (calls : List Call) (n : IRNode) (a : WalkContinue) → ((e : IRNode) → Told (IsAmong calls e)) → (e : IRNode) → Told (IsAmong (calls ++ (n, a) ∷ []) e)
push_told calls n a told e = ⊎_elim
    (λ s. inl (a, subst (λ z. Contains (calls ++ (n, a) ∷ []) (z, a)) s (Contains-push calls (n, a))))
    (λ ne. ⊎_elim
    (λ h. inl (h.0, Contains-append_left calls ((n, a) ∷ []) (e, h.0) h.1))
    (λ m. inr (λ h. ⊎_elim (λ i. m (h.0, i)) (λ i. ne (ap (λ (call : Call). call.0) i)) (Contains-push_cases calls (n, a) (e, h.0) h.1)))
    (told e))
    (same_node n e)

module _ {O B : Type 0} (f : O → O) (g : B → B) where
  -- a call at a node edits it alone, and the walk goes on into it
  abbrev pub EditsAt : Program O B → Call → Program O B → Type 0
  EditsAt v call w = (call.1 ≡ Advance) × EditsChosen v w (λ e. call.0 ≡ e) f g

  -- what such calls, one after the other, did
  pub record Edited (v : Program O B) (calls : List Call) (w : Program O B) : Type 0 where
    pub edits : EditsChosen v w (IsAmong calls) f g
    pub told : (e : IRNode) → Told (IsAmong calls e)
    pub into : (e : IRNode) → Contains calls (e, Skip) → ⊥

  module _ (f_twice : (x : O) → f (f x) ≡ f x) (g_twice : (y : B) → g (g y) ≡ g y) where
    pub edited : (v : Program O B) (calls : List Call) (w : Program O B) → Steps EditsAt v calls w → Edited v calls w
    edited v _ _ none = record {
      edits = none_edited f g v (IsAmong []) (λ p h. none_among (OperationNode p) h) (λ b h. none_among (BlockNode b) h);
      told = λ e. inr (none_among e);
      into = λ e h. none_among e (Skip, h);
    }
    edited v _ _ (one_more xs w x u steps made) =
        let before : Edited v xs w = edited v xs w steps in
        record {
          edits = one_edit f g f_twice g_twice v w u (IsAmong xs) (λ e. x.0 ≡ e) (IsAmong (xs ++ x ∷ [])) before.told (same_node x.0)
              (λ e h. (h.0, Contains-append_left xs (x ∷ []) (e, h.0) h.1))
              (λ e s. (x.1, subst (λ z. Contains (xs ++ x ∷ []) (z, x.1)) s (Contains-push xs x)))
              (λ e h. ⊎_elim (λ i. inl (h.0, i)) (λ i. inr (ap (λ (call : Call). call.0) i)) (Contains-push_cases xs x (e, h.0) h.1))
              before.edits made.1;
          told = push_told xs x.0 x.1 before.told;
          into = λ e h. ⊎_elim
              (λ i. before.into e i)
              (λ i. let s : Skip ≡ Advance = sym (ap (λ (call : Call). call.1) i) ∙ made.0 in cc)
              (Contains-push_cases xs x (e, Skip) h);
        }

    -- a whole walk edits all that is inside
    pub whole_walk : (config : WalkConfig) (x : IRNode) (v : Program O B) (calls : List Call) (w : Program O B) → Steps EditsAt v calls w → IsWalkOf v config x calls → EditsChosen v w (StandsInside v x) f g
    whole_walk config x v calls w steps walk =
        let all : Edited v calls w = edited v calls w steps in
        other_words f g v w (IsAmong calls) (StandsInside v x)
        (λ e h. ((walk.exactly e).0 h).0)
        (λ e s. ⊎_elim (λ h. h) (λ h. absurd (all.into h.0 h.2)) (walk.either e s))
        all.edits

  pub turn_made : (old new : Program O B) (at : Cursor) → EditsOnArriving old new at f g → Made EditsAt (called_at (preset PreOrder Forward) at) Advance old new
  turn_made old new (Arriving (OperationNode p)) h = (refl, h)
  turn_made old new (Arriving (RegionNode r)) h = (refl, h)
  turn_made old new (Arriving (BlockNode b)) h = (refl, h)
  turn_made old new (Leaving (OperationNode p)) h = (refl, sym h)
  turn_made old new (Leaving (RegionNode r)) h = (refl, sym h)
  turn_made old new (Leaving (BlockNode b)) h = (refl, sym h)

  -- what stands in a node stays there
  pub nodes_stay : (old new : Program O B) (at : Cursor) → EditsOnArriving old new at f g → (d : IRNode) → nodes_in new d ≡ nodes_in old d
  nodes_stay old new (Arriving e) h d = nodes_kept f g old new (λ z. e ≡ z) (same_node e) h d
  nodes_stay old new (Leaving e) h d = ap (λ c. nodes_in c d) h

  -- the node where the walk is stays, and inside the root
  pub node_stays : (old new : Program O B) (at : Cursor) → EditsOnArriving old new at f g → IsLiveNode old (node_of at) → IsLiveNode new (node_of at)
  node_stays old new (Arriving e) h live = node_live f g old new (λ z. e ≡ z) (same_node e) h e live
  node_stays old new (Leaving e) h live = subst (λ c. IsLiveNode c e) (sym h) live

  pub inside_stays : (old new : Program O B) (x : IRNode) (at : Cursor) → EditsOnArriving old new at f g → StandsInside old x (node_of at) → StandsInside new x (node_of at)
  inside_stays old new x (Arriving e) h s = stays_inside f g old new (λ d. e ≡ d) (same_node e) h x e s
  inside_stays old new x (Leaving e) h s = subst (λ c. StandsInside c x e) (sym h) s
