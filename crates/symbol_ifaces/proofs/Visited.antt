-- What a walk of a table has found at its end.
use Rattle.std.proofs.Common.{◌≡◌, inr, ⊎_elim, ℕ, List, [], ◌∷◌, ◌++◌, Option, Some, None, refl, sym, ap, ◌∙◌, subst, arith}
use Rattle.std.specs.Prelude.{Bool, Contains, IsSome, MatchOption}
use Rattle.std.specs.declared.ops.ControlFlow.{ControlFlow}
use Rattle.std.specs.declared.ops.ControlFlow.TheVariants.{Continue, Break}
use Rattle.std.proofs.lemmas.List.Elements.{Contains-append_left, Contains-push, Contains-push_cases}
use Rattle.ir_program.specs.Lists.{StandsInside}
use Rattle.ir_program.specs.Program.{Program, operation_at}
use Rattle.ir_program.specs.declared.handles.IRNode.{IRNode}
use Rattle.ir_program.specs.declared.handles.IRNode.TheVariants.{Operation as OperationNode}
use Rattle.ir_program.specs.declared.handles.Operation.{Operation}
use Rattle.ir_program.specs.declared.handles.Ptr.{Ptr}
use Rattle.ir_walks.specs.declared.results.WalkContinue.{WalkContinue}
use Rattle.ir_walks.specs.declared.results.WalkContinue.TheVariants.{Advance, Skip}
use Rattle.ir_walks.specs.Calls.{Steps, none, one_more}
use Rattle.ir_walks.specs.Places.{Holds}
use Rattle.ir_walks.specs.Turns.{IsKnown}
use Rattle.ir_walks.proofs.Trees.{Within, it, deeper, IsTree, tree_of, inside, through}
use Rattle.ir_symbols.specs.TableWalks.{CalledAt, EndsTableWalk, GoesOn, IsTableWalk, OnOperation, OperationCall, forward}
use Rattle.symbol_ifaces.specs.Tables.{IsNestedIn, IsServed, IsUnknownTo, KnowsAllUsed, Looks}

empty : {X : Type 0} (x : X) → Contains [] x → ⊥
empty x m = let lt = m.1 in omega (arith, lt)

module _ {O B : Type 0} (name_in : O → Option (List ℕ)) (holds_table : O → Bool) (uses : Ptr Operation → Option (List ℕ)) (p : Program O B) (table : Ptr Operation) where
  -- one call of the callback, which stays as it was
  pub record Sees {F K : Type 0} (f : F) (s : Option (Ptr Operation)) (op : Ptr Operation) (r : ControlFlow K WalkContinue) (f' : F) (s' : Option (Ptr Operation)) : Type 0 where
    pub looks : IsSome (operation_at p op) → Looks (IsServed name_in holds_table uses p table) s op s'
    pub goes_on : r ≡ Continue Advance
    pub same : f' ≡ f

  -- the walk went on from each
  abbrev Advanced : List OperationCall → Type 0
  Advanced calls = (op : Ptr Operation) (a : WalkContinue) → Contains calls (op, a) → a ≡ Advance

  -- what was found among them
  abbrev Found : List OperationCall → Option (Ptr Operation) → Type 0
  Found calls None = (op : Ptr Operation) (a : WalkContinue) → Contains calls (op, a) → IsServed name_in holds_table uses p table op
  Found calls (Some u) = (a : WalkContinue) × Contains calls (u, a) × (IsServed name_in holds_table uses p table u → ⊥)

  found_more : (calls : List OperationCall) (op : Ptr Operation) (a : WalkContinue) (s s' : Option (Ptr Operation)) → Found calls s → Looks (IsServed name_in holds_table uses p table) s op s' → Found (calls ++ (op, a) ∷ []) s'
  found_more calls op a None s' found looks = ⊎_elim
      (λ l. subst (Found (calls ++ (op, a) ∷ [])) (sym l.0)
      (λ q b m. ⊎_elim (λ n. found q b n)
      (λ (i : (op, a) ≡ (q, b)). subst (IsServed name_in holds_table uses p table) (ap (λ (z : OperationCall). z.0) i) l.1)
      (Contains-push_cases calls (op, a) (q, b) m)))
      (λ l. subst (Found (calls ++ (op, a) ∷ [])) (sym l.0) (a, Contains-push calls (op, a), l.1))
      looks
  found_more calls op a (Some u) s' found looks =
      subst (Found (calls ++ (op, a) ∷ [])) (sym looks) (found.0, Contains-append_left calls ((op, a) ∷ []) (u, found.0) found.1, found.2)

  advanced_more : (calls : List OperationCall) (op : Ptr Operation) (a : WalkContinue) → Advanced calls → a ≡ Advance → Advanced (calls ++ (op, a) ∷ [])
  advanced_more calls op a advanced is q b m = ⊎_elim (λ n. advanced q b n) (λ (i : (op, a) ≡ (q, b)). sym (ap (λ (z : OperationCall). z.1) i) ∙ is) (Contains-push_cases calls (op, a) (q, b) m)

  module _ (known : IsKnown p (OperationNode table)) where
    tree : IsTree p
    tree = tree_of p (OperationNode table) known

    live_inside : (op : Ptr Operation) → StandsInside p (OperationNode table) (OperationNode op) → IsSome (operation_at p op)
    live_inside op h = let k = known.inside.all (OperationNode op) h in known.inside.live k.0 (OperationNode op) k.1

    -- two nodes don't hold each other
    not_both : (a b : IRNode) → (a ≡ b → ⊥) → Within p a b → Within p b a → ⊥
    not_both a _ ne it v = ne refl
    not_both a _ ne (deeper d e k h w) v = tree.apart d e k h (through p e a d v w)

    -- a node that holds a holder of another holds that
    holds_through : (a b e : IRNode) → Holds p forward a b → Holds p forward b e → Holds p forward a e
    holds_through a b e h k = (
      (λ (same : a ≡ e). not_both a b h.0 (inside p a b h.1) (subst (Within p b) (sym same) (inside p b e k.1))),
      tree.outside a e (through p a b e (inside p a b h.1) (inside p b e k.1)),
    )

    module _ (calls : List OperationCall) (walk : IsTableWalk holds_table p table calls) (advanced : Advanced calls) where
      all_known : Found calls None → KnowsAllUsed name_in holds_table uses p table
      all_known found user of = ⊎_elim
          (λ c. found user c.0 c.1 (λ e. of.held.0 (ap OperationNode (sym e))))
          (λ h. ⊎_elim
          (λ skips. let no : Skip ≡ Advance = sym skips ∙ advanced h.holder h.answer h.called in absurd cc)
          (λ nested. absurd (of.not_nested (record { holder = h.holder; inside = ((walk.exactly h.holder).0 (h.answer, h.called)).0; nested = nested; holds = h.holds })))
          h.hides)
          (walk.either user of.held.1)

      called_shown : (u : Ptr Operation) (a : WalkContinue) → Contains calls (u, a) → IsNestedIn holds_table p table u → ⊥
      called_shown u a m n =
          let shown = ((walk.exactly u).0 (a, m)).1 in
          ⊎_elim
          (λ c. shown (record { holder = n.holder; answer = c.0; called = c.1; hides = inr n.nested; holds = n.holds }))
          (λ h. shown (record { holder = h.holder; answer = h.answer; called = h.called; hides = h.hides; holds = holds_through (OperationNode h.holder) (OperationNode n.holder) (OperationNode u) h.holds n.holds }))
          (walk.either n.holder n.inside)

      one_unknown : (u : Ptr Operation) → Found calls (Some u) → IsUnknownTo name_in holds_table uses p table u
      one_unknown u found = record {
        of_table = record {
          held = ((λ (i : OperationNode table ≡ OperationNode u). let same : u ≡ table = cc in found.2 (λ ne. absurd (ne same))), ((walk.exactly u).0 (found.0, found.1)).0);
          not_nested = called_shown u found.0 found.1;
        };
        unknown = λ k. found.2 (λ ne. k);
      }

      outcome : (s : Option (Ptr Operation)) → Found calls s → MatchOption s (KnowsAllUsed name_in holds_table uses p table) (IsUnknownTo name_in holds_table uses p table)
      outcome None found = all_known found
      outcome (Some u) found = one_unknown u found

    module _ {F C K : Type 0} (g : OnOperation F C (Option (Ptr Operation)) (ControlFlow K WalkContinue)) (ctx : C) (f : F)
        (sees : (s : Option (Ptr Operation)) (op : Ptr Operation) (r : ControlFlow K WalkContinue) (f' : F) (s' : Option (Ptr Operation)) → CalledAt g ctx f s op r f' s' → Sees f s op r f' s') where
      ran : (calls : List OperationCall) (w : F × Option (Ptr Operation)) → Steps (GoesOn g ctx) (f, None) calls w → ((call : OperationCall) → Contains calls call → IsSome (operation_at p call.0)) → (w.0 ≡ f) × (Advanced calls × Found calls w.1)
      ran _ _ none lives = (refl, (λ op a m. absurd (empty (op, a) m), λ op a m. absurd (empty (op, a) m)))
      ran _ w (one_more calls v call _ steps goes) lives =
          let before = ran calls v steps (λ c m. lives c (Contains-append_left calls (call ∷ []) c m)) in
          let k = sees v.1 call.0 (Continue call.1) w.0 w.1 (subst (λ z. CalledAt g ctx z v.1 call.0 (Continue call.1) w.0 w.1) before.0 goes) in
          let goes_on : Continue call.1 ≡ Continue Advance = k.goes_on in
          let advances : call.1 ≡ Advance = cc in
          (k.same, (advanced_more calls call.0 call.1 before.1.0 advances, found_more calls call.0 call.1 v.1 w.1 before.1.1 (k.looks (lives call (Contains-push calls call)))))

      pub ended : (r : ControlFlow K WalkContinue) (s' : Option (Ptr Operation)) → EndsTableWalk holds_table p table g ctx f None r s'
          → MatchOption s' (KnowsAllUsed name_in holds_table uses p table) (IsUnknownTo name_in holds_table uses p table)
      ended (Continue a) s' e =
          let end = ran e.1 (e.2, s') e.3 (λ call m. live_inside call.0 ((e.4.exactly call.0).0 (call.1, m)).0) in
          outcome e.1 e.4 end.1.0 s' end.1.1
      ended (Break k) s' e =
          let before = ran e.calls e.between e.went_on (λ call m. live_inside call.0 (e.begins.shown call.0 (call.1, m)).0) in
          let s = sees e.between.1 e.last (Break k) e.after s' (subst (λ z. CalledAt g ctx z e.between.1 e.last (Break k) e.after s') before.0 e.broke) in
          let no : Break k ≡ Continue Advance = s.goes_on in absurd cc

    -- the same, where the walk is known before what the callback sees
    pub ended_by : {F C K : Type 0} (g : OnOperation F C (Option (Ptr Operation)) (ControlFlow K WalkContinue)) (ctx : C) (f : F)
        (r : ControlFlow K WalkContinue) (s' : Option (Ptr Operation)) → EndsTableWalk holds_table p table g ctx f None r s'
        → ((s : Option (Ptr Operation)) (op : Ptr Operation) (r : ControlFlow K WalkContinue) (f' : F) (s' : Option (Ptr Operation)) → CalledAt g ctx f s op r f' s' → Sees f s op r f' s')
        → MatchOption s' (KnowsAllUsed name_in holds_table uses p table) (IsUnknownTo name_in holds_table uses p table)
    ended_by g ctx f r s' e sees = ended g ctx f sees r s' e
