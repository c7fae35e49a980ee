-- Uses of arguments replaced by what was forwarded to them.
use Rattle.std.proofs.Common.{◌≡◌, ⊎_elim, inl, inr, ℕ, suc, Bool, true, false, List, [], ◌∷◌, ◌++◌, Option, Some, None, refl, sym, ap, ◌∙◌, subst}
use Rattle.std.specs.Prelude.{map, if◌then◌else◌}
use Rattle.kit_behaviour.specs.Machine.{AllEdges, edge_at, chosen, Edge, Op, Const, Calc, Emit, Call, Branch, Return, Frame, Next, Out, Enter, Exit, FunctionsByPath, Env, bind, bind_all, calc, next, go, with_result, effect, results_of, left_in, arguments_in, Alike}
use Rattle.kit_behaviour.specs.Scopes.{In, AllIn, OpsWith}
use Rattle.kit_behaviour.specs.Replacement.{replace_edge, replace_op, replaced}
use Rattle.kit_behaviour.specs.ForwardedArguments.{Untouched, Forwarded, EdgeKeeps, OpKeeps, MayForward}
use Rattle.kit_behaviour.proofs.Behaviour.FrameLemmas.{IsSameness, left_next, fr}
use Rattle.kit_behaviour.proofs.Behaviour.SameEffects.{EffectKeeps, IsInvariant, same_effects}
use Rattle.kit_behaviour.proofs.Lattice.ReplacementBehaviour.{replace_left, replace_takes, results_replaced}
use Rattle.kit_behaviour.proofs.Behaviour.EdgeLemmas.{taken_has, taken_map}

module _ {V : Type 0} (same : V → V → Bool) (law : IsSameness same) where
  bind_other : (e : Env V) (r x : V) (n : ℕ) → (x ≡ r → ⊥) → bind same e r n x ≡ e x
  bind_other e r x n not_in = by_test (same r x) refl
    where
      by_test : (b : Bool) → same r x ≡ b → (if same r x then n else e x) ≡ e x
      by_test true t = absurd (not_in (sym (law.true_same r x t)))
      by_test false t = ap (λ b. if b then n else e x) t

  bind_same : (e : Env V) (r : V) (n : ℕ) → bind same e r n r ≡ n
  bind_same e r n = ap (λ b. if b then n else e r) (law.same_true r)

  bind_all_other : (e : Env V) (rs : List V) (ns : List ℕ) (x : V) → (In x rs → ⊥) → bind_all same e rs ns x ≡ e x
  bind_all_other e [] ns x not_in = refl
  bind_all_other e (r ∷ rs) [] x not_in = refl
  bind_all_other e (r ∷ rs) (n ∷ ns) x not_in =
      bind_all_other (bind same e r n) rs ns x (λ i. not_in (inr i)) ∙ bind_other e r x n (λ q. not_in (inl q))

  module _ (s : V → V) where
    abbrev pub Kept : Env V → List V → Type 0
    Kept e a = (x : V) → In x a → e (s x) ≡ e x

    -- what is bound touches no value that is replaced
    bind_untouched : (e : Env V) (rs : List V) (ns : List ℕ) (a : List V) (x : V) → Kept e a → Untouched s rs a x → bind_all same e rs ns (s x) ≡ bind_all same e rs ns x
    bind_untouched e rs ns a x k u =
        ⊎_elim
        (λ q. ap (bind_all same e rs ns) q)
        (λ t. bind_all_other e rs ns (s x) t.2 ∙ k x t.0 ∙ sym (bind_all_other e rs ns x t.1))
        u

    -- an argument after the branch, by what was forwarded; e0 is the frame before it
    bind_forwarded : (e e0 : Env V) (all ts gs a : List V) → Kept e0 a → AllIn gs a → Forwarded s all ts gs → ((y : V) → (In y all → ⊥) → e y ≡ e0 y) → ((y : V) → In y ts → In y all) → (x : V) → In x ts → bind_all same e ts (map e0 gs) (s x) ≡ bind_all same e ts (map e0 gs) x
    bind_forwarded e e0 all [] gs a k i f old sub x j = absurd j
    bind_forwarded e e0 all (t ∷ ts) [] a k i f old sub x j = absurd f
    bind_forwarded e e0 all (t ∷ ts) (g ∷ gs) a k i f old sub x j =
        ⊎_elim
        (λ q. subst (λ y. bind_all same e1 ts (map e0 gs) (s y) ≡ bind_all same e1 ts (map e0 gs) y) (sym q) first)
        (λ l. bind_forwarded e1 e0 all ts gs a k i.1 f.2 old1 (λ y m. sub y (inr m)) x l)
        j
      where
        e1 : Env V
        e1 = bind same e t (e0 g)

        old1 : (y : V) → (In y all → ⊥) → bind same e t (e0 g) y ≡ e0 y
        old1 y not_in = bind_other e t y (e0 g) (λ q. not_in (sub y (inl q))) ∙ old y not_in

        last : bind_all same (bind same e t (e0 g)) ts (map e0 gs) t ≡ e0 g
        last = bind_all_other (bind same e t (e0 g)) ts (map e0 gs) t f.1 ∙ bind_same e t (e0 g)

        first : bind_all same (bind same e t (e0 g)) ts (map e0 gs) (s t) ≡ bind_all same (bind same e t (e0 g)) ts (map e0 gs) t
        first =
            ⊎_elim
            (λ q. ap (bind_all same (bind same e t (e0 g)) ts (map e0 gs)) q)
            (λ w.
            ap (bind_all same (bind same e t (e0 g)) ts (map e0 gs)) w.0
            ∙ bind_all_other (bind same e t (e0 g)) ts (map e0 gs) (s g) (λ m. w.1 (sub (s g) (inr m)))
            ∙ old1 (s g) w.1 ∙ k g i.0 ∙ sym last)
            f.0

  module _ (p : FunctionsByPath V) (s : List ℕ → V → V) (start : List ℕ → ℕ → List V) (may : (path : List ℕ) → MayForward (s path) (start path) (p path)) where
    abbrev Fine : List ℕ → List V → List (Op V) → Type 0
    Fine path = OpsWith (OpKeeps (p path) (start path) (s path))

    record Keeps (f : Frame V) : Type 0 where
      scope : List V
      kept : Kept (s f.path) f.env scope
      fine : Fine f.path scope (left_in (p f.path) f.block f.index)

    next_keeps : (path : List ℕ) (b i : ℕ) (e : Env V) (op : Op V) (ops : List (Op V)) (a : List V) → left_in (p path) b i ≡ op ∷ ops → Kept (s path) e a → Fine path a ops → Keeps (fr path b (suc i) e)
    next_keeps path b i e op ops a l k w = record { scope = a; kept = k; fine = subst (Fine path a) (sym (left_next (p path) b i op ops l)) w }

    go_keeps : (path : List ℕ) (b i : ℕ) (e : Env V) (x : Edge V) (a : List V) → Kept (s path) e a → EdgeKeeps (p path) (start path) (s path) a x → Keeps (go same (p path) (fr path b i e) x)
    go_keeps path b i e x a k w =
        let ts = arguments_in (p path) x.target in
        record {
          scope = start path x.target;
          kept = λ y j. ⊎_elim
              (λ l. bind_forwarded (s path) e e ts ts x.forwards a k w.0 w.1 (λ z not_in. refl) (λ z m. m) y l)
              (λ u. bind_untouched (s path) e ts (map e x.forwards) a y k u)
              (w.2 y j);
          fine = (may path).blocks x.target;
        }

    result_keeps : (path : List ℕ) (b i : ℕ) (e : Env V) (op : Op V) (ops : List (Op V)) (a : List V) (r : V) (o : Option ℕ) → left_in (p path) b i ≡ op ∷ ops → Kept (s path) e a → ((x : V) → In x (r ∷ a) → Untouched (s path) (r ∷ []) a x) → Fine path (r ∷ a) ops → EffectKeeps same p Keeps (fr path b i e) (with_result same (fr path b i e) r o)
    result_keeps path b i e op ops a r None l k u w = tt
    result_keeps path b i e op ops a r (Some n) l k u w =
        next_keeps path b i (bind same e r n) op ops (r ∷ a) l (λ x j. bind_untouched (s path) e (r ∷ []) (n ∷ []) a x k (u x j)) w

    op_keeps : (path : List ℕ) (b i : ℕ) (e : Env V) (a : List V) (ops : List (Op V)) → left_in (p path) b i ≡ ops → Kept (s path) e a → Fine path a ops → EffectKeeps same p Keeps (fr path b i e) (effect same (p path) (fr path b i e) ops)
    op_keeps path b i e a [] l k w = tt
    op_keeps path b i e a (Const r n ∷ ops) l k w = result_keeps path b i e _ ops a r (Some n) l k w.0 w.1
    op_keeps path b i e a (Calc o t r x y ∷ ops) l k w = result_keeps path b i e _ ops a r (calc o t (e x) (e y)) l k w.0.2 w.1
    op_keeps path b i e a (Emit x ∷ ops) l k w = next_keeps path b i e _ ops a l k w.1
    op_keeps path b i e a (Call rs c xs ∷ ops) l k w =
        λ ns. subst (λ ls. Keeps (fr path b (suc i) (bind_all same e (results_of ls) ns))) (sym l)
        (next_keeps path b i (bind_all same e rs ns) _ ops (rs ++ a) l (λ x j. bind_untouched (s path) e rs ns a x k (w.0.1 x j)) w.1)
    op_keeps path b i e a (Branch t xs y ys ∷ ops) l k w = go_keeps path b i e (edge_at y ys (chosen t (map e xs))) a k (taken_has (EdgeKeeps (p path) (start path) (s path) a) y ys (chosen t (map e xs)) w.0.1)
    op_keeps path b i e a (Return xs ∷ ops) l k w = tt

    keeps : IsInvariant same p Keeps
    keeps =
        record {
          enters = λ path xs. record { scope = start path 0; kept = λ x i. ap (bind_all same (λ v. 0) (arguments_in (p path) 0) xs) ((may path).entry x i); fine = (may path).blocks 0 };
          keeps = λ f h. op_keeps f.path f.block f.index f.env h.scope (left_in (p f.path) f.block f.index) refl h.kept h.fine;
        }

    -- the same effects

    same_numbers : (path : List ℕ) (e : Env V) (a xs : List V) → Kept (s path) e a → AllIn xs a → map e (map (s path) xs) ≡ map e xs
    same_numbers path e a [] k i = refl
    same_numbers path e a (x ∷ xs) k i =
        ap (λ n. n ∷ map e (map (s path) xs)) (k x i.0) ∙ ap (λ l. e x ∷ l) (same_numbers path e a xs k i.1)

    same_go : (f : Frame V) (a : List V) (x : Edge V) → Kept (s f.path) f.env a → AllIn x.forwards a → go same (p f.path) f x ≡ go same (replaced s p f.path) f (replace_edge (s f.path) x)
    same_go f a x k i =
        ap (λ ns. fr f.path x.target 0 (bind_all same f.env (arguments_in (p f.path) x.target) ns)) (sym (same_numbers f.path f.env a x.forwards k i))
        ∙ ap (λ ts. fr f.path x.target 0 (bind_all same f.env ts (map f.env (map (s f.path) x.forwards)))) (sym (replace_takes (s f.path) (p f.path) x.target))

    same_fork : (f : Frame V) (a : List V) (x : Edge V) (xs : List (Edge V)) (n : ℕ) → Kept (s f.path) f.env a → AllEdges (EdgeKeeps (p f.path) (start f.path) (s f.path) a) (x ∷ xs) → go same (p f.path) f (edge_at x xs n) ≡ go same (replaced s p f.path) f (edge_at (replace_edge (s f.path) x) (map (replace_edge (s f.path)) xs) n)
    same_fork f a x xs n k i =
        same_go f a (edge_at x xs n) k (taken_has (EdgeKeeps (p f.path) (start f.path) (s f.path) a) x xs n i).0
        ∙ ap (go same (replaced s p f.path) f) (sym (taken_map (replace_edge (s f.path)) x xs n))

    same_effect : (f : Frame V) (a : List V) (ops : List (Op V)) → Kept (s f.path) f.env a → Fine f.path a ops → effect same (p f.path) f ops ≡ effect same (replaced s p f.path) f (map (replace_op (s f.path)) ops)
    same_effect f a [] k w = refl
    same_effect f a (Const r n ∷ ops) k w = refl
    same_effect f a (Calc o t r x y ∷ ops) k w =
        ap (λ n. with_result same f r (calc o t n (f.env y))) (sym (k x w.0.0)) ∙ ap (λ n. with_result same f r (calc o t (f.env (s f.path x)) n)) (sym (k y w.0.1))
    same_effect f a (Emit x ∷ ops) k w = ap (λ n. Out n (next f f.env)) (sym (k x w.0))
    same_effect f a (Call rs c xs ∷ ops) k w = ap (Enter c) (sym (same_numbers f.path f.env a xs k w.0.0))
    same_effect f a (Branch t xs y ys ∷ ops) k w =
        ap Next
        (same_fork f a y ys (chosen t (map f.env xs)) k w.0.1
        ∙ ap (λ ns. go same (replaced s p f.path) f (edge_at (replace_edge (s f.path) y) (map (replace_edge (s f.path)) ys) (chosen t ns))) (sym (same_numbers f.path f.env a xs k w.0.0)))
    same_effect f a (Return xs ∷ ops) k w = ap Exit (sym (same_numbers f.path f.env a xs k w.0))

    pub forwarded_alike : Alike same same 1 p (replaced s p)
    forwarded_alike =
        same_effects same p (replaced s p) Keeps keeps
        (record {
          entries = λ path xs. ap (λ ts. fr path 0 0 (bind_all same (λ v. 0) ts xs)) (sym (replace_takes (s path) (p path) 0));
          effects = λ f i.
              same_effect f i.scope (left_in (p f.path) f.block f.index) i.kept i.fine
              ∙ ap (effect same (replaced s p f.path) f) (sym (replace_left (s f.path) (p f.path) f.block f.index));
          resumes = λ f ns i.
              ap (λ rs. next f (bind_all same f.env rs ns))
              (sym (ap results_of (replace_left (s f.path) (p f.path) f.block f.index) ∙ results_replaced (s f.path) (left_in (p f.path) f.block f.index)));
        })
