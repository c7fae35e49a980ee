-- Uses of values by which other values are known to be the same number.
use Rattle.std.proofs.Common.{◌≡◌, ⊎_elim, ℕ, zero, suc, Bool, List, [], ◌∷◌, Option, Some, None, refl, sym, ap, ◌∙◌, subst}
use Rattle.std.specs.Prelude.{map, slice_get, drop, option_map}
use Rattle.std.proofs.lemmas.Option.{slice_get-map}
use Rattle.kit_behaviour.specs.Machine.{AllEdges, edge_at, chosen, Edge, Op, Const, Calc, Emit, Call, Branch, Return, Block, Fun, Frame, Next, Out, Enter, Exit, FunctionsByPath, Env, bind_all, calc, next, go, with_result, effect, results_of, ops_left, left_in, arguments_of, arguments_in, Alike}
use Rattle.kit_behaviour.specs.Facts.{FunctionFacts, AreClosedFacts}
use Rattle.kit_behaviour.specs.Scopes.{In, AllIn, EdgeScoped, OpScoped, OpsWith, BlocksWith}
use Rattle.kit_behaviour.specs.Replacement.{replace_edge, replace_op, replace_block, replace, replaced, SameKnown}
use Rattle.kit_behaviour.proofs.Behaviour.FrameLemmas.{IsSameness, fr}
use Rattle.kit_behaviour.proofs.Behaviour.SameEffects.{DoesSame, same_effects}
use Rattle.kit_behaviour.proofs.Lattice.Soundness.{Holds, AllHold, in_holds, Sound, sound}
use Rattle.kit_behaviour.proofs.Behaviour.EdgeLemmas.{taken_has, taken_map}

pub drop-map : {A B : Type 0} (f : A → B) (xs : List A) (i : ℕ) → drop i (map f xs) ≡ map f (drop i xs)
drop-map f [] zero = refl
drop-map f [] (suc i) = refl
drop-map f (x ∷ xs) zero = refl
drop-map f (x ∷ xs) (suc i) = drop-map f xs i

replace_left_block : {V : Type 0} (s : V → V) (o : Option (Block V)) (i : ℕ) → ops_left (option_map (replace_block s) o) i ≡ map (replace_op s) (ops_left o i)
replace_left_block s None i = refl
replace_left_block s (Some b) i = drop-map (replace_op s) b.ops i

pub replace_left : {V : Type 0} (s : V → V) (f : Option (Fun V)) (b i : ℕ) → left_in (replace s f) b i ≡ map (replace_op s) (left_in f b i)
replace_left s None b i = refl
replace_left s (Some f) b i = ap (λ o. ops_left o i) (slice_get-map (replace_block s) f b) ∙ replace_left_block s (slice_get f b) i

replace_takes_block : {V : Type 0} (s : V → V) (o : Option (Block V)) → arguments_of (option_map (replace_block s) o) ≡ arguments_of o
replace_takes_block s None = refl
replace_takes_block s (Some b) = refl

pub replace_takes : {V : Type 0} (s : V → V) (f : Option (Fun V)) (b : ℕ) → arguments_in (replace s f) b ≡ arguments_in f b
replace_takes s None b = refl
replace_takes s (Some f) b = ap arguments_of (slice_get-map (replace_block s) f b) ∙ replace_takes_block s (slice_get f b)

pub results_replaced : {V : Type 0} (s : V → V) (ops : List (Op V)) → results_of (map (replace_op s) ops) ≡ results_of ops
results_replaced s [] = refl
results_replaced s (Const r n ∷ ops) = refl
results_replaced s (Calc a w r x y ∷ ops) = refl
results_replaced s (Emit x ∷ ops) = refl
results_replaced s (Call rs c xs ∷ ops) = refl
results_replaced s (Branch t xs e es ∷ ops) = refl
results_replaced s (Return xs ∷ ops) = refl

module _ {V : Type 0} (same : V → V → Bool) (law : IsSameness same) (p : FunctionsByPath V) (k : List ℕ → FunctionFacts V) (closed : (path : List ℕ) → AreClosedFacts (p path) (k path)) (s : List ℕ → V → V) (known : (path : List ℕ) → SameKnown (k path) (s path)) (scoped : (path : List ℕ) → BlocksWith (p path) (λ a op. OpScoped (p path) a op × OpScoped (p path) a (replace_op (s path) op))) where
  abbrev After : List ℕ → List V → Op V → Type 0
  After path a op = OpScoped (p path) a (replace_op (s path) op)

  abbrev Is : Frame V → Type 0
  Is = Sound same law p k closed After scoped

  same_number : (path : List ℕ) (e : Env V) (a : List V) (x : V) → AllHold same law (k path) e a → In x a → In (s path x) a → e (s path x) ≡ e x
  same_number path e a x h i j =
      ⊎_elim
      (λ eq. ap e eq)
      (λ t.
      let hx = in_holds same law (k path) e x a h i in
      let hs = in_holds same law (k path) e (s path x) a h j in
      let ex : e x ≡ t.0 = subst (λ y. Holds y (e x)) t.1 hx in
      let es : e (s path x) ≡ t.0 = subst (λ y. Holds y (e (s path x))) t.2 hs in
      es ∙ sym ex)
      (known path x)

  same_numbers : (path : List ℕ) (e : Env V) (a xs : List V) → AllHold same law (k path) e a → AllIn xs a → AllIn (map (s path) xs) a → map e (map (s path) xs) ≡ map e xs
  same_numbers path e a [] h i j = refl
  same_numbers path e a (x ∷ xs) h i j =
      ap (λ n. n ∷ map e (map (s path) xs)) (same_number path e a x h i.0 j.0) ∙ ap (λ l. e x ∷ l) (same_numbers path e a xs h i.1 j.1)

  same_go : (f : Frame V) (a : List V) (x : Edge V) → AllHold same law (k f.path) f.env a → EdgeScoped (p f.path) a x → EdgeScoped (p f.path) a (replace_edge (s f.path) x) → go same (p f.path) f x ≡ go same (replaced s p f.path) f (replace_edge (s f.path) x)
  same_go f a x h i j =
      ap (λ ns. fr f.path x.target 0 (bind_all same f.env (arguments_in (p f.path) x.target) ns)) (sym (same_numbers f.path f.env a x.forwards h i.0 j.0))
      ∙ ap (λ ts. fr f.path x.target 0 (bind_all same f.env ts (map f.env (map (s f.path) x.forwards)))) (sym (replace_takes (s f.path) (p f.path) x.target))

  same_fork : (f : Frame V) (a : List V) (x : Edge V) (xs : List (Edge V)) (n : ℕ) → AllHold same law (k f.path) f.env a → AllEdges (EdgeScoped (p f.path) a) (x ∷ xs) → AllEdges (EdgeScoped (p f.path) a) (replace_edge (s f.path) x ∷ map (replace_edge (s f.path)) xs) → go same (p f.path) f (edge_at x xs n) ≡ go same (replaced s p f.path) f (edge_at (replace_edge (s f.path) x) (map (replace_edge (s f.path)) xs) n)
  same_fork f a x xs n h i j =
      let m = taken_map (replace_edge (s f.path)) x xs n in
      same_go f a (edge_at x xs n) h (taken_has (EdgeScoped (p f.path) a) x xs n i) (subst (EdgeScoped (p f.path) a) m (taken_has (EdgeScoped (p f.path) a) (replace_edge (s f.path) x) (map (replace_edge (s f.path)) xs) n j))
      ∙ ap (go same (replaced s p f.path) f) (sym m)

  same_effect : (f : Frame V) (a : List V) (ops : List (Op V)) → AllHold same law (k f.path) f.env a → OpsWith (λ a op. OpScoped (p f.path) a op × After f.path a op) a ops → effect same (p f.path) f ops ≡ effect same (replaced s p f.path) f (map (replace_op (s f.path)) ops)
  same_effect f a [] h w = refl
  same_effect f a (Const r n ∷ ops) h w = refl
  same_effect f a (Calc o t r x y ∷ ops) h w =
      ap (λ n. with_result same f r (calc o t n (f.env y))) (sym (same_number f.path f.env a x h w.0.0.0 w.0.1.0))
      ∙ ap (λ n. with_result same f r (calc o t (f.env (s f.path x)) n)) (sym (same_number f.path f.env a y h w.0.0.1 w.0.1.1))
  same_effect f a (Emit x ∷ ops) h w = ap (λ n. Out n (next f f.env)) (sym (same_number f.path f.env a x h w.0.0 w.0.1))
  same_effect f a (Call rs c xs ∷ ops) h w = ap (Enter c) (sym (same_numbers f.path f.env a xs h w.0.0 w.0.1))
  same_effect f a (Branch t xs y ys ∷ ops) h w =
      ap Next
      (same_fork f a y ys (chosen t (map f.env xs)) h w.0.0.1 w.0.1.1
      ∙ ap (λ ns. go same (replaced s p f.path) f (edge_at (replace_edge (s f.path) y) (map (replace_edge (s f.path)) ys) (chosen t ns))) (sym (same_numbers f.path f.env a xs h w.0.0.0 w.0.1.0)))
  same_effect f a (Return xs ∷ ops) h w = ap Exit (sym (same_numbers f.path f.env a xs h w.0.0 w.0.1))

  does_same : DoesSame same p (replaced s p) Is
  does_same =
      record {
        entries = λ path xs. ap (λ ts. fr path 0 0 (bind_all same (λ v. 0) ts xs)) (sym (replace_takes (s path) (p path) 0));
        effects = λ f i.
            same_effect f i.scope (left_in (p f.path) f.block f.index) i.hold i.scoped_left
            ∙ ap (effect same (replaced s p f.path) f) (sym (replace_left (s f.path) (p f.path) f.block f.index));
        resumes = λ f ns i.
            ap (λ rs. next f (bind_all same f.env rs ns))
            (sym (ap results_of (replace_left (s f.path) (p f.path) f.block f.index) ∙ results_replaced (s f.path) (left_in (p f.path) f.block f.index)));
      }

  pub replaced_alike : Alike same same 1 p (replaced s p)
  replaced_alike = same_effects same p (replaced s p) Is (sound same law p k closed After scoped) does_same
