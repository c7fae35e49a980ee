-- A branch that known numbers decide goes where it went.
use Rattle.std.proofs.Common.{◌≡◌, ℕ, Bool, List, [], ◌∷◌, Option, Some, None, refl, sym, ap, ◌∙◌}
use Rattle.std.specs.Prelude.{map, slice_get, option_map}
use Rattle.std.proofs.lemmas.Option.{slice_get-map}
use Rattle.kit_behaviour.specs.Machine.{edge_at, chosen, Select, Edge, Op, Const, Calc, Emit, Call, Branch, Return, Block, Fun, Frame, Next, FunctionsByPath, bind_all, next, go, effect, results_of, ops_left, left_in, arguments_of, arguments_in, Alike}
use Rattle.kit_behaviour.specs.Facts.{Knows, Lacks, Numbers, Open, knows, FunctionFacts, AreClosedFacts}
use Rattle.kit_behaviour.specs.Scopes.{OpScoped, OpsWith, BlocksWith}
use Rattle.kit_behaviour.specs.DecidedBranches.{single, branch_by, decide_op, decide_block, decide, decided}
use Rattle.kit_behaviour.proofs.Behaviour.FrameLemmas.{IsSameness, fr}
use Rattle.kit_behaviour.proofs.Behaviour.SameEffects.{same_effects}
use Rattle.kit_behaviour.proofs.Lattice.Soundness.{Told, knows_told, all_in_hold, AllHold, Sound, sound}
use Rattle.kit_behaviour.proofs.Lattice.ReplacementBehaviour.{drop-map}
use Rattle.kit_behaviour.proofs.Behaviour.EdgeLemmas.{only_taken}

decide_left_block : {V : Type 0} (k : FunctionFacts V) (o : Option (Block V)) (i : ℕ) → ops_left (option_map (decide_block k) o) i ≡ map (decide_op k) (ops_left o i)
decide_left_block k None i = refl
decide_left_block k (Some b) i = drop-map (decide_op k) b.ops i

pub decide_left : {V : Type 0} (k : FunctionFacts V) (f : Option (Fun V)) (b i : ℕ) → left_in (decide k f) b i ≡ map (decide_op k) (left_in f b i)
decide_left k None b i = refl
decide_left k (Some f) b i = ap (λ o. ops_left o i) (slice_get-map (decide_block k) f b) ∙ decide_left_block k (slice_get f b) i

decide_takes_block : {V : Type 0} (k : FunctionFacts V) (o : Option (Block V)) → arguments_of (option_map (decide_block k) o) ≡ arguments_of o
decide_takes_block k None = refl
decide_takes_block k (Some b) = refl

pub decide_takes : {V : Type 0} (k : FunctionFacts V) (f : Option (Fun V)) (b : ℕ) → arguments_in (decide k f) b ≡ arguments_in f b
decide_takes k None b = refl
decide_takes k (Some f) b = ap arguments_of (slice_get-map (decide_block k) f b) ∙ decide_takes_block k (slice_get f b)

results_single : {V : Type 0} (s : Select) (xs : List V) (e : Edge V) (es : List (Edge V)) (rest : List (Op V)) → results_of (single s xs e es ∷ rest) ≡ []
results_single s xs e [] rest = refl
results_single s xs e (x ∷ es) rest = refl

results_by : {V : Type 0} (t : Knows) (s : Select) (xs : List V) (e : Edge V) (es : List (Edge V)) (rest : List (Op V)) → results_of (branch_by t s xs e es ∷ rest) ≡ []
results_by (Numbers ns) s xs e es rest = refl
results_by Lacks s xs e es rest = results_single s xs e es rest
results_by Open s xs e es rest = results_single s xs e es rest

results_decided : {V : Type 0} (k : FunctionFacts V) (ops : List (Op V)) → results_of (map (decide_op k) ops) ≡ results_of ops
results_decided k [] = refl
results_decided k (Const r n ∷ ops) = refl
results_decided k (Calc a w r x y ∷ ops) = refl
results_decided k (Emit x ∷ ops) = refl
results_decided k (Call rs c xs ∷ ops) = refl
results_decided k (Branch s xs e es ∷ ops) = results_by (knows (map k.of xs)) s xs e es (map (decide_op k) ops)
results_decided k (Return xs ∷ ops) = refl

module _ {V : Type 0} (same : V → V → Bool) (law : IsSameness same) (p : FunctionsByPath V) (k : List ℕ → FunctionFacts V) (closed : (path : List ℕ) → AreClosedFacts (p path) (k path)) (scoped : (path : List ℕ) → BlocksWith (p path) (λ a op. OpScoped (p path) a op × Unit {0})) where
  abbrev Is : Frame V → Type 0
  Is = Sound same law p k closed (λ path a op. Unit {0}) scoped

  same_go : (f : Frame V) (x : Edge V) → go same (p f.path) f x ≡ go same (decided k p f.path) f x
  same_go f x = ap (λ ts. fr f.path x.target 0 (bind_all same f.env ts (map f.env x.forwards))) (sym (decide_takes (k f.path) (p f.path) x.target))

  same_single : (f : Frame V) (s : Select) (xs : List V) (e : Edge V) (es : List (Edge V)) (ops : List (Op V)) → Next (go same (p f.path) f (edge_at e es (chosen s (map f.env xs)))) ≡ effect same (decided k p f.path) f (single s xs e es ∷ map (decide_op (k f.path)) ops)
  same_single f s xs e [] ops = ap Next (same_go f (edge_at e [] (chosen s (map f.env xs))) ∙ ap (go same (decided k p f.path) f) (only_taken e (chosen s (map f.env xs))))
  same_single f s xs e (x ∷ es) ops = ap Next (same_go f (edge_at e (x ∷ es) (chosen s (map f.env xs))))

  same_fork : (f : Frame V) (t : Knows) (s : Select) (xs : List V) (e : Edge V) (es : List (Edge V)) (ops : List (Op V)) → Told t (map f.env xs) → effect same (p f.path) f (Branch s xs e es ∷ ops) ≡ effect same (decided k p f.path) f (branch_by t s xs e es ∷ map (decide_op (k f.path)) ops)
  same_fork f (Numbers ns) s xs e es ops h = ap Next (same_go f (edge_at e es (chosen s (map f.env xs))) ∙ ap (λ l. go same (decided k p f.path) f (edge_at e es (chosen s l))) (sym h))
  same_fork f Lacks s xs e es ops h = absurd h
  same_fork f Open s xs e es ops h = same_single f s xs e es ops

  same_effect : (f : Frame V) (a : List V) (ops : List (Op V)) → AllHold same law (k f.path) f.env a → OpsWith (λ a op. OpScoped (p f.path) a op × Unit {0}) a ops → effect same (p f.path) f ops ≡ effect same (decided k p f.path) f (map (decide_op (k f.path)) ops)
  same_effect f a [] h w = refl
  same_effect f a (Const r n ∷ ops) h w = refl
  same_effect f a (Calc o t r x y ∷ ops) h w = refl
  same_effect f a (Emit x ∷ ops) h w = refl
  same_effect f a (Call rs c xs ∷ ops) h w = refl
  same_effect f a (Branch s xs y ys ∷ ops) h w = same_fork f (knows (map (k f.path).of xs)) s xs y ys ops (knows_told same law (k f.path) f.env xs (all_in_hold same law (k f.path) f.env xs a h w.0.0.0))
  same_effect f a (Return xs ∷ ops) h w = refl

  pub decided_alike : Alike same same 1 p (decided k p)
  decided_alike =
      same_effects same p (decided k p) Is (sound same law p k closed (λ path a op. Unit {0}) scoped)
      (record {
        entries = λ path xs. ap (λ ts. fr path 0 0 (bind_all same (λ v. 0) ts xs)) (sym (decide_takes (k path) (p path) 0));
        effects = λ f i.
            same_effect f i.scope (left_in (p f.path) f.block f.index) i.hold i.scoped_left
            ∙ ap (effect same (decided k p f.path) f) (sym (decide_left (k f.path) (p f.path) f.block f.index));
        resumes = λ f ns i.
            ap (λ rs. next f (bind_all same f.env rs ns))
            (sym (ap results_of (decide_left (k f.path) (p f.path) f.block f.index) ∙ results_decided (k f.path) (left_in (p f.path) f.block f.index)));
      })
